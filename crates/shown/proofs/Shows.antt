-- What a value of a table and a clause say of a value that is shown, and values written one by one.
use Prim.Native.Nat.{ℕ, ◌+◌, ◌≤◌, ◌<◌}
use mathlib.Core.Path.{◌≡◌, refl, ◌∙◌}
use mathlib.Core.Bool.{Bool, true, false, not, cond}
use mathlib.Core.List.{List}
use native.Mathlib.Numerals.{add-one}
use native.Mathlib.Omega.{arith}
use lib.Dec.{eqb}
use lib.IntN.{ℤ, pos, neg_ℤ, nat_abs}
use lib.ListN.{length, get_or, drop, set}
use lib.Seq.{sets}
use Rattle.words.specs.Laws.Lists.{next, ended}
use Rattle.words.specs.Words.{mem}
use Rattle.theory.specs.Record.{Assignment, assigned}
use Rattle.theory.proofs.Laws.Assignment.{assigned_var}
use Rattle.theory.specs.Witness.{shown_true, signed_as, signed}
use Rattle.record.specs.Inner.Tables.{value_in}

-- ---- a value by the table
module _ (ρ : Assignment) (C : List ℤ) (v : ℕ) where
  pub shown_unset : value_in ρ v ≡ 0 → {h : Bool} → h ≡ mem (pos v) C → not h ≡ shown_true ρ C (pos v)
  unfolding shown_true assigned
  shown_unset e {h = h} m = go (ρ (pos v)) (ρ (neg_ℤ (pos v))) refl refl e
    where
      go : (x y : Bool) → ρ (pos v) ≡ x → ρ (neg_ℤ (pos v)) ≡ y → ◌≡◌ {A = ℕ} (cond x 1 (cond y 2 0)) 0 → not h ≡ shown_true ρ C (pos v)
      go true y a b z = absurd (omega arith)
      go false true a b z = absurd (omega arith)
      go false false a b z = rw (a, b, m)

  pub shown_set : (value_in ρ v ≡ 0 → ⊥) → ◌≡◌ {A = Bool} (eqb (value_in ρ v) 1) (shown_true ρ C (pos v))
  unfolding shown_true assigned
  shown_set f = go (ρ (pos v)) (ρ (neg_ℤ (pos v))) refl refl f
    where
      go : (x y : Bool) → ρ (pos v) ≡ x → ρ (neg_ℤ (pos v)) ≡ y → (◌≡◌ {A = ℕ} (cond x 1 (cond y 2 0)) 0 → ⊥) → ◌≡◌ {A = Bool} (eqb (cond x 1 (cond y 2 0)) 1) (shown_true ρ C (pos v))
      go true y a b z = rw a
      go false true a b z = rw (a, b)
      go false false a b z = absurd (z refl)

-- the sign of the word does not matter
module _ (ρ : Assignment) (C : List ℤ) (q : ℤ) {n : ℕ} (size : n ≡ nat_abs q) {t : Bool} (told : t ≡ shown_true ρ C (pos n)) where
  of_word : t ≡ shown_true ρ C q
  unfolding shown_true
  of_word = told ∙ rw (size, assigned_var ρ (pos (nat_abs q)) q refl)

  pub value_plus : t ≡ true → pos (nat_abs q) ≡ signed_as (shown_true ρ C) q
  value_plus e = rw (← of_word, e)

  pub value_minus : t ≡ false → neg_ℤ (pos (nat_abs q)) ≡ signed_as (shown_true ρ C) q
  value_minus e = rw (← of_word, e)

-- ---- the values one by one
module _ (s : ℤ → Bool) (g out : List ℤ) (i : ℕ) where
  pub values_write : i < length g → {w : ℤ} → w ≡ signed_as s (get_or g i (pos 0)) → sets (set out i w) (i + 1) (signed s (drop (i + 1) g)) ≡ sets out i (signed s (drop i g))
  unfolding signed
  values_write h e = rw (e, next g i (pos 0) h, add-one i)

  pub values_written : length g ≤ i → sets out i (signed s (drop i g)) ≡ out
  unfolding signed
  values_written h = rw (ended g i h)
