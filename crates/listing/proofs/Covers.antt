-- The openings are all the ways to give the first group values: where the group is existential, the formula is true exactly if some opening wins,
-- and the whole listing is empty exactly if it is false. From the recursive truth: an existential variable asks for one of its two values,
-- and a number below 2^k has the bits of any k values.
use Prim.Native.Nat.{ℕ, suc, ◌+◌, ◌^◌, ◌/◌, ◌%◌, ◌<◌}
use Rattle.std.specs.Prelude.{◌≡◌, ◌↔◌, Bool, false, cond, ◌&&◌, ◌||◌, eqb, ltb, ℤ, pos, negsuc, neg_ℤ, take, drop}
use Rattle.std.proofs.Math.Path.{refl, sym, fun_ext}
use Rattle.std.proofs.Common.{◌∙◌, ap, take-append-drop, lt-ltb}
use Rattle.std.proofs.Math.Logic.{inl, inr}
use Rattle.std.proofs.Math.Bool.{true, or-false}
use Rattle.std.specs.Bool.{beq}
use mathlib.Core.List.{List, [], ◌∷◌, ◌++◌}
use native.Mathlib.Omega.{arith}
use Rattle.std.proofs.Math.ListN.{length}
use Rattle.words.specs.Laws.Bools.{look, clash, to_false, or_e, or_l, or_r}
use Rattle.words.specs.Lists.{In, here, there, all, any}
use Rattle.words.specs.Words.{negative, eq_z, mem}
use Rattle.formula.specs.Formula.{Formula, word, run, first_group}
use Rattle.formula.specs.Truth.{asked, truth, true?}
use Rattle.theory.specs.Record.{among}
use Rattle.theory.specs.Witness.{group_of}
use Rattle.listing.specs.Opening.{openings, values_of}
use Rattle.listing.specs.Page.{first_universal}
use Rattle.listing.proofs.Laws.Values.{values_one, values_zero, below_both, group_length}
use Rattle.listing.specs.Wins.{wins, winners, entries, listing, winners_exactly}
use Rattle.listing.specs.Onto.{onto}

-- ---- truth depends on which literals are true, and not on their order
truth_among : (p : List ℤ) (m : List (List ℤ)) (σ τ : List ℤ) → among σ ≡ among τ → truth p m σ ≡ truth p m τ
unfolding truth mem
truth_among [] m σ τ e = ap (λ (ρ : ℤ → Bool). all (any ρ) m) e
truth_among (q ∷ p) m σ τ e = rw (truth_among p m (q ∷ σ) (q ∷ τ) (grow q), truth_among p m (neg_ℤ q ∷ σ) (neg_ℤ q ∷ τ) (grow (neg_ℤ q)))
  where
    grow : (l : ℤ) → among (l ∷ σ) ≡ among (l ∷ τ)
    grow l = fun_ext (λ x. ap (λ (ρ : ℤ → Bool). eq_z x l || ρ x) e)

onto_among : (vs σ : List ℤ) (x : ℤ) → mem x (onto vs σ) ≡ (mem x vs || mem x σ)
unfolding onto mem
onto_among [] σ x = refl
onto_among (v ∷ vs) σ x = onto_among vs (v ∷ σ) x ∙ swap (mem x vs) (eq_z x v) (mem x σ)
  where
    swap : (a b c : Bool) → (a || (b || c)) ≡ ((b || a) || c)
    swap true true c = refl
    swap true false c = refl
    swap false true c = refl
    swap false false c = refl

-- ---- an existential group asks for values, and those of some number are such
abbrev Existential : List ℤ → Type 0
Existential g = (x : ℤ) → In x g → negative x ≡ false

module _ (p : List ℤ) (m : List (List ℤ)) where
  -- the number has the bit of the value that makes the rest true, before the bits of the values after it
  some_number : (g σ : List ℤ) → Existential g → truth (g ++ p) m σ ≡ true → (n : ℕ) × (n < 2 ^ length g) × (truth p m (onto (values_of n g) σ) ≡ true)
  unfolding truth asked onto values_of
  some_number [] σ e h = (0, omega arith, h)
  some_number (negsuc a ∷ g) σ e h = clash refl (e (negsuc a) (here refl))
  some_number (pos a ∷ g) σ e h = elim (or_e (truth (g ++ p) m (pos a ∷ σ)) (truth (g ++ p) m (neg_ℤ (pos a) ∷ σ)) h) [
    | inl t ↦ high (some_number g (pos a ∷ σ) (λ x i. e x (there i)) t)
    | inr t ↦ low (some_number g (neg_ℤ (pos a) ∷ σ) (λ x i. e x (there i)) t)
  ]
    where
      high : (n : ℕ) × (n < 2 ^ length g) × (truth p m (onto (values_of n g) (pos a ∷ σ)) ≡ true) → (n : ℕ) × (n < 2 ^ suc (length g)) × (truth p m (onto (values_of n (pos a ∷ g)) σ) ≡ true)
      high (r, l, t) = (2 ^ length g + r, (below_both r (pos a) g l).0, rw (values_one r (pos a) g l) t)

      low : (n : ℕ) × (n < 2 ^ length g) × (truth p m (onto (values_of n g) (neg_ℤ (pos a) ∷ σ)) ≡ true) → (n : ℕ) × (n < 2 ^ suc (length g)) × (truth p m (onto (values_of n (pos a ∷ g)) σ) ≡ true)
      low (r, l, t) = (r, (below_both r (pos a) g l).1, rw (values_zero r (pos a) g l) t)

  -- whichever bit it has, the first value is one of the two that are asked for
  number_some : (n : ℕ) (g σ : List ℤ) → Existential g → truth p m (onto (values_of n g) σ) ≡ true → truth (g ++ p) m σ ≡ true
  unfolding truth asked onto values_of
  number_some n [] σ e h = h
  number_some n (negsuc a ∷ g) σ e h = clash refl (e (negsuc a) (here refl))
  number_some n (pos a ∷ g) σ e h = elim (look (eqb (n / 2 ^ length g % 2) 1)) [
    | inl z ↦ or_l (truth (g ++ p) m (neg_ℤ (pos a) ∷ σ)) (number_some n g (pos a ∷ σ) (λ x i. e x (there i)) (rw z at h))
    | inr z ↦ or_r (truth (g ++ p) m (pos a ∷ σ)) (number_some n g (neg_ℤ (pos a) ∷ σ) (λ x i. e x (there i)) (rw z at h))
  ]

-- ---- the first group of an accepted listing is existential
run_sign : (s : Bool) (p : List ℤ) (x : ℤ) → In x (take (run s p) p) → negative x ≡ s
unfolding run
run_sign s (q ∷ p) x i = go s (negative q) refl i (run_sign s p x)
  where
    go : (s b : Bool) → negative q ≡ b → In x (take (cond (beq s b) (suc (run s p)) 0) (q ∷ p)) → (In x (take (run s p) p) → negative x ≡ s) → negative x ≡ s
    go true true e (here z) ih = rw z e
    go true true e (there i) ih = ih i
    go false false e (here z) ih = rw z e
    go false false e (there i) ih = ih i
    go false true e y ih = elim y [ ]
    go true false e y ih = elim y [ ]
run_sign s [] x i = elim i [ ]

group_exists : (F : Formula) → first_universal F ≡ false → Existential (group_of F)
unfolding first_group
group_exists F h = go F.prefix h
  where
    go : (p : List ℤ) → (ltb 0 (length p) && negative (word p 0)) ≡ false → Existential (take (first_group p) p)
    go (q ∷ p) h x i = let z : ltb 0 (suc (length p)) ≡ true = lt-ltb 0 (suc (length p)) (omega arith) in run_sign (negative q) (q ∷ p) x i ∙ (rw z at h)
    go [] h x i = elim i [ ]

-- a listing is empty if it has no winner
listed_one : {n : ℕ} {ns : List ℕ} → entries ns ≡ [] → In n ns → ⊥
unfolding entries
listed_one e (here z) = let y : ◌≡◌ {A = ℕ} 0 1 = cc in omega arith
listed_one e (there i) = let y : ◌≡◌ {A = ℕ} 0 1 = cc in omega arith

listed_none : (ns : List ℕ) → ((n : ℕ) → In n ns → ⊥) → entries ns ≡ []
unfolding entries
listed_none [] f = refl
listed_none (n ∷ ns) f = absurd (f n (here refl))

-- an opening's values, whichever way they are put together
pub wins_onto : (F : Formula) (n : ℕ) → truth (drop (first_group F.prefix) F.prefix) F.clauses (onto (values_of n (group_of F)) []) ≡ wins F n
unfolding wins mem
wins_onto F n = truth_among _ F.clauses (onto (values_of n (group_of F)) []) (values_of n (group_of F)) (fun_ext (λ x. onto_among (values_of n (group_of F)) [] x ∙ or-false (mem x (values_of n (group_of F)))))

module _ (F : Formula) (exists : first_universal F ≡ false) where
  whole : group_of F ++ drop (first_group F.prefix) F.prefix ≡ F.prefix
  whole = take-append-drop (first_group F.prefix) F.prefix

  -- [demand.3.some] the formula is true exactly if some opening wins
  pub some_opening : (true? F ≡ true) ↔ ((n : ℕ) × (n < openings F) × (wins F n ≡ true))
  unfolding true?
  some_opening = (there_is, λ r. is_true r.0 r.2)
    where
      there_is : truth F.prefix F.clauses [] ≡ true → (n : ℕ) × (n < openings F) × (wins F n ≡ true)
      there_is h =
          let (n, l, t) = some_number (drop (first_group F.prefix) F.prefix) F.clauses (group_of F) [] (group_exists F exists) (rw whole h) in
          (n, rw (group_length F) at l, sym (wins_onto F n) ∙ t)

      is_true : (n : ℕ) → wins F n ≡ true → truth F.prefix F.clauses [] ≡ true
      is_true n w =
          rw whole at (number_some (drop (first_group F.prefix) F.prefix) F.clauses n (group_of F) [] (group_exists F exists) (wins_onto F n ∙ w))

  -- [demand.3.some] so the whole listing is empty exactly if the formula is false
  pub empty_listing : (listing F (openings F) ≡ []) ↔ (true? F ≡ false)
  empty_listing = (λ e. to_false (true? F) (λ t. listed_one e (in_list (some_opening.0 t))), λ e. listed_none (winners F (openings F)) (λ n i. clash (won n i) e))
    where
      in_list : (r : (n : ℕ) × (n < openings F) × (wins F n ≡ true)) → In r.0 (winners F (openings F))
      in_list r = (winners_exactly F (openings F) r.0).1 (r.1, r.2)

      won : (n : ℕ) → In n (winners F (openings F)) → true? F ≡ true
      won n i = let r = (winners_exactly F (openings F) n).0 i in some_opening.1 (n, r.0, r.1)
