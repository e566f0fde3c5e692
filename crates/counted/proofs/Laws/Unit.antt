-- A clause of key 1 is a unit clause if its open literal is of a lower level than its unassigned universal ones: both are found by one pass.
use Rattle.std.specs.Prelude.{ℕ, ◌+◌, min, ◌≡◌, refl, ◌⊎◌, Bool, true, false, cond, not, ◌&&◌, ◌||◌, ltb, ℤ, pos}
use Rattle.std.proofs.Math.Path.{sym}
use Rattle.std.proofs.Common.{◌∙◌, inl, inr, arith, lt-ltb}
use Rattle.std.proofs.Math.Bool.{and-true, and_assoc, and-false}
use mathlib.Core.List.{List, [], ◌∷◌}
use Rattle.std.proofs.Math.Dec.{eqb}
use Rattle.words.specs.Lists.{In, here, all, there}
use Rattle.words.specs.Laws.Bools.{look}
use Rattle.formula.specs.Formula.{universal, level}
use Rattle.theory.specs.Record.{Assignment, assigned}
use Rattle.theory.specs.Tests.{unassigned_existential, unassigned_universal}
use Rattle.rules.specs.Due.{candidate, is_unit}
use Rattle.rules.specs.Inner.Tabled.{Sorted, as_false, as_true, as_existential, as_universal}
use Rattle.record.specs.Inner.Tables.{places}
use Rattle.rules.proofs.Laws.ClausesMean.{ltb_min}
use Rattle.rules.specs.Inner.Meant.{Meant, AllMeant}
use Rattle.counted.specs.Fresh.{count_if}
use Rattle.counted.specs.Inner.Numbers.{with_status}
use Rattle.counted.specs.Inner.Unit.{above, last_open}
use Rattle.counted.proofs.Laws.Keys.{higher, key, key_open, key_unit}
use Rattle.counted.proofs.Laws.Numbers.{numbers_mean, open_means}

-- ---- what they mean, of a clause with one open literal
universal_means : (p : List ℤ) (ρ : Assignment) (st : ℤ → ℕ) (x : ℤ) → Sorted p ρ st x → eqb (st x) 3 ≡ unassigned_universal p ρ x
unfolding unassigned_universal assigned
universal_means p ρ st x (as_false s t e u) = rw s (sym u)
universal_means p ρ st x (as_true s t) = rw (s, t) (sym (and-false (universal p x)))
universal_means p ρ st x (as_existential s t e u) = rw s (sym u)
universal_means p ρ st x (as_universal s t e u) = rw s (sym u)

last_none : (st : ℤ → ℕ) (l : ℤ) (C : List ℤ) → with_status st 2 C ≡ 0 → last_open st l C ≡ l
unfolding last_open with_status count_if
last_none st l [] e = refl
last_none st l (x ∷ C) e = by (look (eqb (st x) 2)) (last_none st l C)
  where
    by : (eqb (st x) 2 ≡ true) ⊎ (eqb (st x) 2 ≡ false) → (with_status st 2 C ≡ 0 → last_open st l C ≡ l) → last_open st (cond (eqb (st x) 2) x l) C ≡ l
    by (inl t) ih = let z : 1 + with_status st 2 C ≡ 0 = rw t at e in absurd (omega arith)
    by (inr t) ih = let z : 0 + with_status st 2 C ≡ 0 = rw t at e in rw t (ih (omega arith))

module _ (p : List ℤ) (ρ : Assignment) (st : ℤ → ℕ) where
  last_candidate : (l : ℤ) (C : List ℤ) → ((x : ℤ) → In x C → Sorted p ρ st x) → with_status st 2 C ≡ 1 → last_open st l C ≡ candidate p ρ C
  unfolding last_open with_status count_if candidate
  last_candidate l [] h e = absurd (omega arith)
  last_candidate l (x ∷ C) h e = by (look (eqb (st x) 2)) (last_candidate l C (λ y i. h y (there i)))
    where
      m : eqb (st x) 2 ≡ unassigned_existential p ρ x
      m = open_means p ρ st x (h x (here refl))

      by : (eqb (st x) 2 ≡ true) ⊎ (eqb (st x) 2 ≡ false) → (with_status st 2 C ≡ 1 → last_open st l C ≡ candidate p ρ C) → last_open st (cond (eqb (st x) 2) x l) C ≡ cond (unassigned_existential p ρ x) x (candidate p ρ C)
      by (inl t) ih =
          let z : 1 + with_status st 2 C ≡ 1 = rw t at e in
          rw (← m, t) (last_none st x C (omega arith))
      by (inr t) ih =
          let z : 0 + with_status st 2 C ≡ 1 = rw t at e in
          rw (← m, t) (ih (omega arith))

module _ (p : List ℤ) (ρ : Assignment) (st lev : ℤ → ℕ) where
  above_higher : (l : ℤ) (a : ℕ) (C : List ℤ) → AllMeant p ρ st lev C → ltb (level p l) (above st lev a C) ≡ (ltb (level p l) a && higher p ρ C l)
  unfolding above higher all
  above_higher l a [] h = sym (and-true (ltb (level p l) a))
  above_higher l a (x ∷ C) h = by (look (eqb (st x) 3)) (λ b. above_higher l b C (λ y i. h y (there i)))
    where
      k : Meant p ρ st lev x
      k = h x (here refl)

      m : eqb (st x) 3 ≡ unassigned_universal p ρ x
      m = universal_means p ρ st x k.sorted

      rest : Bool
      rest = higher p ρ C l

      by : (eqb (st x) 3 ≡ true) ⊎ (eqb (st x) 3 ≡ false) → ((b : ℕ) → ltb (level p l) (above st lev b C) ≡ (ltb (level p l) b && higher p ρ C l))
          → ltb (level p l) (above st lev (cond (eqb (st x) 3) (min a (lev x)) a) C) ≡ (ltb (level p l) a && ((not (unassigned_universal p ρ x) || ltb (level p l) (level p x)) && higher p ρ C l))
      by (inl t) ih = rw (← m, t, ih (min a (lev x)), ltb_min (level p l) a (lev x), k.at) (and_assoc (ltb (level p l) a) (ltb (level p l) (level p x)) (higher p ρ C l))
      by (inr t) ih = rw (← m, t) (ih a)

  pub unit_test : (C : List ℤ) → AllMeant p ρ st lev C → key p ρ C ≡ 1
      → (is_unit p ρ C ≡ ltb (lev (last_open st (pos 0) C)) (above st lev places C)) × (last_open st (pos 0) C ≡ candidate p ρ C)
  unit_test C h e =
      let n = numbers_mean p ρ st C (λ x i. (h x i).sorted) in
      let o : with_status st 2 C ≡ 1 = omega (arith, n.1) in
      let c = last_candidate p ρ st (pos 0) C (λ x i. (h x i).sorted) o in
      let k = h (candidate p ρ C) (key_open p ρ C e) in
      let t = lt-ltb (level p (candidate p ρ C)) places k.low in
      (key_unit p ρ C e ∙ sym (rw (c, k.at, above_higher (candidate p ρ C) places C h, t)), c)
