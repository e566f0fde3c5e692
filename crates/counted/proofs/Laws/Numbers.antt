-- What the numbers by status mean, and the least clause with a key: the rules' own.
use Prim.Native.Nat.{ℕ, zero, suc, ◌+◌, ◌≤◌, ◌<◌}
use Rattle.std.specs.Prelude.{◌≡◌, refl, ◌⊎◌, Bool, true, false, cond, eqb, ltb, ℤ, pos, length, get_or, drop, Some, None}
use Rattle.std.proofs.Common.{sym, ◌∙◌, inl, inr}
use Rattle.std.proofs.Math.Bool.{and-false}
use mathlib.Core.List.{List, [], ◌∷◌}
use native.Mathlib.Omega.{arith}
use borrow.Author.Tests.{ltb-false, lt-ltb, le-ltb, ltb-true}
use Rattle.words.specs.Lists.{In}
use Rattle.words.specs.Laws.Bools.{look, eqb_ne, eqb_i}
use Rattle.words.specs.Laws.Lists.{next, ended}
use Rattle.formula.specs.Formula.{existential}
use Rattle.theory.specs.Record.{Assignment, assigned}
use Rattle.theory.specs.Tests.{unassigned_existential, in_conflict}
use Rattle.clauses.specs.Lowest.{lowest}
use Rattle.rules.specs.Inner.Tabled.{Sorted, as_false, as_true, as_existential, as_universal}
use Rattle.rules.proofs.Laws.ClausesMean.{status_true}
use Rattle.counted.specs.Fresh.{opens, bit, count_if, trues}
use Rattle.counted.specs.Inner.Numbers.{NoneFrom, Rest, key_at, with_status}
use Rattle.counted.proofs.Laws.Counts.{count_most, count_same}
use Rattle.counted.proofs.Laws.Keys.{conflict_key, key}

pub status_next : (st : ℤ → ℕ) (k : ℕ) (C : List ℤ) (j : ℕ) → j < length C → with_status st k (drop j C) ≡ bit (eqb (st (get_or C j (pos 0))) k) + with_status st k (drop (j + 1) C)
unfolding with_status count_if
status_next st k C j h = rw (next C j (pos 0) h)

pub status_ended : (st : ℤ → ℕ) (k : ℕ) (C : List ℤ) (j : ℕ) → length C ≤ j → with_status st k (drop j C) ≡ 0
unfolding with_status count_if
status_ended st k C j h = rw (ended C j h)

pub status_most : (st : ℤ → ℕ) (k : ℕ) (C : List ℤ) → with_status st k C ≤ length C
unfolding with_status
status_most st k C = count_most _ C

-- what they mean
module _ (p : List ℤ) (ρ : Assignment) (st : ℤ → ℕ) where
  pub open_means : (x : ℤ) → Sorted p ρ st x → eqb (st x) 2 ≡ unassigned_existential p ρ x
  unfolding unassigned_existential assigned
  open_means x (as_false s t e u) = rw s (sym e)
  open_means x (as_true s t) = rw (s, t) (sym (and-false (existential p x)))
  open_means x (as_existential s t e u) = rw s (sym e)
  open_means x (as_universal s t e u) = rw s (sym e)

  pub numbers_mean : (C : List ℤ) → ((x : ℤ) → In x C → Sorted p ρ st x) → (with_status st 1 C ≡ trues ρ C) × (with_status st 2 C ≡ opens p ρ C)
  unfolding with_status
  numbers_mean C h = (count_same _ _ C (λ x i. status_true p ρ st x (h x i)), count_same _ _ C (λ x i. open_means x (h x i)))

-- ---- what stays, stays over two walks
pub rest_none : (n : ℕ) (ts os : List ℕ) → Rest n ts os ts os
rest_none n ts os = record { trues = refl; opens = refl }

pub rest_on : {n : ℕ} {ts₀ os₀ ts₁ os₁ ts₂ os₂ : List ℕ} → Rest n ts₁ os₁ ts₂ os₂ → Rest n ts₀ os₀ ts₁ os₁ → Rest n ts₀ os₀ ts₂ os₂
rest_on r s = record { trues = r.trues ∙ s.trues; opens = r.opens ∙ s.opens }

-- ---- the least clause with a key
-- no clause below the bound has the key: none from the bound on is none of all
pub none_all : (ts os : List ℕ) (from most wanted : ℕ) → ((k : ℕ) → k < from → key_at ts os k ≡ wanted → ⊥) → NoneFrom ts os from most wanted → (k : ℕ) → k < most → key_at ts os k ≡ wanted → ⊥
none_all ts os from most wanted none n k h = by (look (ltb k from))
  where
    by : (ltb k from ≡ true) ⊎ (ltb k from ≡ false) → key_at ts os k ≡ wanted → ⊥
    by (inl t) e = none k (ltb-true k from t) e
    by (inr t) e = n k (ltb-false k from t) h e

ltb_suc : (a b : ℕ) → ltb (suc a) (suc b) ≡ ltb a b
ltb_suc a b = by (look (ltb a b))
  where
    by : (ltb a b ≡ true) ⊎ (ltb a b ≡ false) → ltb (suc a) (suc b) ≡ ltb a b
    by (inl t) = let l = ltb-true a b t in rw (t, lt-ltb (suc a) (suc b) (omega arith))
    by (inr t) = let l = ltb-false a b t in rw (t, le-ltb (suc a) (suc b) (omega arith))

-- the least whose test holds is what the rules look for
module _ {A : Type 0} (f : A → Bool) (d : A) where
  pub lowest_is : (n : ℕ) (m : List A) (r : ℕ) → r ≤ length m → ((k : ℕ) → k < r → f (get_or m k d) ≡ false) → (r < length m → f (get_or m r d) ≡ true) → lowest f n m ≡ cond (ltb r (length m)) (Some (n + r)) None
  unfolding lowest
  lowest_is n [] r h none found = rw (le-ltb r 0 (omega arith))
  lowest_is n (x ∷ m) zero h none found =
      let z : 0 < suc (length m) = omega arith in
      let e : n + 0 ≡ n = omega arith in
      rw (found z, lt-ltb 0 (suc (length m)) z, e)
  lowest_is n (x ∷ m) (suc r) h none found =
      let e : suc n + r ≡ n + suc r = omega arith in
      rw (none 0 (omega arith), ltb_suc r (length m), ← e)
      (lowest_is (suc n) m r (omega arith) (λ k l. none (suc k) (omega arith)) (λ l. found (omega arith)))

-- with numbers that mean what they say, the least clause of key 0 is the rules' lowest clause in conflict
module _ (p : List ℤ) (ρ : Assignment) (m : List (List ℤ)) (ts os : List ℕ) (means : (c : ℕ) → c < length m → key_at ts os c ≡ key p ρ (get_or m c [])) where
  no_conflict : (r : ℕ) → r ≤ length m → ((k : ℕ) → k < r → key_at ts os k ≡ 0 → ⊥) → (k : ℕ) → k < r → in_conflict p ρ (get_or m k []) ≡ false
  no_conflict r h none k l = conflict_key p ρ (get_or m k []) ∙ eqb_ne _ 0 (λ e. none k l (means k (omega arith) ∙ e))

  pub conflict_none : ((k : ℕ) → k < length m → key_at ts os k ≡ 0 → ⊥) → lowest (in_conflict p ρ) 0 m ≡ None
  conflict_none none = lowest_is (in_conflict p ρ) [] 0 m (length m) (omega arith) (no_conflict (length m) (omega arith) none) (λ h. absurd (omega arith)) ∙ rw (le-ltb (length m) (length m) (omega arith))

  pub conflict_least : (r : ℕ) → r < length m → key_at ts os r ≡ 0 → ((k : ℕ) → k < r → key_at ts os k ≡ 0 → ⊥) → lowest (in_conflict p ρ) 0 m ≡ Some r
  conflict_least r h is none =
      let e : 0 + r ≡ r = omega arith in
      lowest_is (in_conflict p ρ) [] 0 m r (omega arith) (no_conflict r (omega arith) none) (λ l. conflict_key p ρ (get_or m r []) ∙ eqb_i (sym (means r h) ∙ is)) ∙ rw (lt-ltb r (length m) h, e)
