-- Runs of stores: one run after another, one store past a run, and what stands where a run was stored. By induction on the run.
use Rattle.std.specs.Prelude.{◌≡◌, refl, List, [], ◌∷◌, ◌++◌, ℕ, zero, suc, ◌+◌, ◌≤◌, ◌<◌, length, take, drop, set}
use Rattle.std.proofs.Common.{sym, ◌∙◌, append_assoc, arith, length-append, length-take-le, drop_at, drop-drop}
use borrow.Rule.Slice.PartMut.{put_mid}
use Rattle.std.proofs.lemmas.List.Edits.{sets, sets-eq}
use Rattle.std.proofs.lemmas.List.{set_comm}
use Rattle.std.proofs.Math.Seq.{take-append_seam, take-nil}

module _ {A : Type 0} where
  pub sets_append : (xs ys l : List A) (i : ℕ) → sets l i (xs ++ ys) ≡ sets (sets l i xs) (i + length xs) ys
  sets_append [] ys l i = let e : i + 0 ≡ i = omega arith in rw e
  sets_append (x ∷ xs) ys l i = let e : i + suc (length xs) ≡ suc i + length xs = omega arith in rw e (sets_append xs ys (set l i x) (suc i))

  -- three runs, one after the other
  pub three_runs : (xs ys zs l : List A) (i : ℕ) → sets (sets (sets l i xs) (i + length xs) ys) (i + length xs + length ys) zs ≡ sets l i (xs ++ ys ++ zs)
  three_runs xs ys zs l i =
      let e : i + (length xs + length ys) ≡ i + length xs + length ys = omega arith in
      rw (sets_append (xs ++ ys) zs l i, sets_append xs ys l i, length-append xs ys, e)

  pub sets_set : (vs l : List A) (i j : ℕ) (e : A) → i < j → sets (set l i e) j vs ≡ set (sets l j vs) i e
  sets_set [] l i j e h = refl
  sets_set (v ∷ vs) l i j e h =
      let k : i ≡ j → ⊥ = λ z. omega arith in
      rw (set_comm l i j e v k) (sets_set vs (set l j v) i (suc j) e (omega arith))

  pub drop_take : (m n : ℕ) (l : List A) → drop m (take (m + n) l) ≡ take n (drop m l)
  drop_take zero n l = let e : 0 + n ≡ n = omega arith in rw e
  drop_take (suc m) n [] = let e : suc m + n ≡ suc (m + n) = omega arith in rw e (sym (take-nil n))
  drop_take (suc m) n (x ∷ l) = let e : suc m + n ≡ suc (m + n) = omega arith in rw e (drop_take m n l)

  -- a run stored within the list
  module _ (vs l : List A) (i : ℕ) (fits : i + length vs ≤ length l) where
    pub drop_sets : drop i (sets l i vs) ≡ vs ++ drop (i + length vs) l
    drop_sets = rw (sets-eq vs l i fits, append_assoc (take i l) vs (drop (i + length vs) l)) (drop_at (take i l) (vs ++ drop (i + length vs) l) i (length-take-le i l (omega arith)))

    pub take_run : take (length vs) (drop i (sets l i vs)) ≡ vs
    take_run = rw drop_sets (take-append_seam vs (drop (i + length vs) l))

    pub drop_run : drop (i + length vs) (sets l i vs) ≡ drop (i + length vs) l
    drop_run = sym (drop-drop (length vs) i (sets l i vs)) ∙ rw drop_sets (drop_at vs (drop (i + length vs) l) (length vs) refl)

  -- a part of the list that is written as a whole is a run of stores
  pub part_is_sets : (xs ys l : List A) (i k : ℕ) → k ≡ length ys → i + length ys ≤ length l → xs ≡ ys → put_mid i k l xs ≡ sets l i ys
  part_is_sets xs ys l i k e fits same = rw (same, e, sets-eq ys l i fits, drop-drop (length ys) i l) (sym (append_assoc (take i l) ys (drop (i + length ys) l)))
