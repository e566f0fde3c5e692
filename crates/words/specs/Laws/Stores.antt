-- A run of stores changes its own places only, and puts what it stores there. Each by induction on the stores.
use Rattle.std.specs.Prelude.{ℕ, zero, suc, ◌+◌, ◌≤◌, ◌<◌, ◌≡◌, refl, ◌⊎◌, List, [], ◌∷◌, length, get_or, take, set, replicate}
use Rattle.std.proofs.Common.{◌∙◌, inl, inr, arith, get_or-set_same, get_or-set_other}
use Rattle.std.proofs.Math.Decide.{ℕ_discrete, dec_le}
use Rattle.std.proofs.Math.ListN.{get_or-eq_default, get_or-append}
use Rattle.std.proofs.lemmas.List.Edits.{sets, sets-eq}
use Rattle.std.proofs.Math.Seq.{set_out}
use Rattle.std.proofs.lemmas.List.{take-set-le}

module _ {A : Type 0} where
  pub take_sets : (vs l : List A) (i n : ℕ) → n ≤ i → take n (sets l i vs) ≡ take n l
  take_sets [] l i n h = refl
  take_sets (v ∷ vs) l i n h = take_sets vs (set l i v) (suc i) n (omega arith) ∙ take-set-le n l i v h

  pub sets_out : (vs l : List A) (i : ℕ) → length l ≤ i → sets l i vs ≡ l
  sets_out [] l i h = refl
  sets_out (v ∷ vs) l i h = rw (set_out l i v h) (sets_out vs l (suc i) (omega arith))

  pub sets_outside : (vs l : List A) (i j : ℕ) (d : A) → (j < i) ⊎ (i + length vs ≤ j) → get_or (sets l i vs) j d ≡ get_or l j d
  sets_outside [] l i j d h = refl
  sets_outside (v ∷ vs) l i j d h = sets_outside vs (set l i v) (suc i) j d (further h) ∙ get_or-set_other l i j v d (apart h)
    where
      further : (j < i) ⊎ (i + suc (length vs) ≤ j) → (j < suc i) ⊎ (suc i + length vs ≤ j)
      further (inl h) = inl (omega arith)
      further (inr h) = inr (omega arith)

      apart : (j < i) ⊎ (i + suc (length vs) ≤ j) → j ≡ i → ⊥
      apart (inl h) e = omega arith
      apart (inr h) e = omega arith

  set_default : (l : List A) (i : ℕ) (z : A) → get_or (set l i z) i z ≡ z
  set_default l i z = elim (dec_le (length l) i) [ yes h ↦ rw (set_out l i z h) (get_or-eq_default l z h) | no h ↦ get_or-set_same l i z z (omega arith) ]

  pub sets_inside : (n : ℕ) (l : List A) (i j : ℕ) (z : A) → i ≤ j → j < i + n → get_or (sets l i (replicate n z)) j z ≡ z
  sets_inside zero l i j z h k = absurd (omega arith)
  sets_inside (suc n) l i j z h k = elim (ℕ_discrete j i) [
    | yes e ↦ rw e (sets_outside (replicate n z) (set l i z) (suc i) i z (inl (omega arith)) ∙ set_default l i z)
    | no f ↦ sets_inside n (set l i z) (suc i) j z (omega arith) (omega arith)
  ]

  -- a word stored at the start, with those after it
  pub sets_first : (vs l : List A) (i : ℕ) (d : A) → i < length vs → length vs ≤ length l → get_or (sets l 0 vs) i d ≡ get_or vs i d
  sets_first vs l i d h k = let f : 0 + length vs ≡ length vs = omega arith in rw (sets-eq vs l 0 (rw f k)) (get_or-append vs _ d i h)
