-- The lowest unit clause, from a bound below which there is none: a clause of another key is none, and of key 1 the levels decide.
use Rattle.clauses.specs.Found.{unit_clause}
use Rattle.std.specs.Prelude.{ℕ, zero, suc, ◌+◌, ◌-◌, ◌≤◌, ◌<◌, ◌≡◌, refl, ◌⊎◌, true, ℤ, pos, nat_abs, get_or, take, drop, Some, None}
use Rattle.std.proofs.Common.{sym, ◌∙◌, inl, inr}
use Rattle.std.proofs.Math.Bool.{Bool, false}
use mathlib.Core.List.{List, [], head-eq_of_cons-eq}
use Rattle.std.proofs.Math.Decide.{ℕ_discrete}
use native.Mathlib.Omega.{arith}
use Rattle.std.proofs.Math.Dec.{ltb}
use Rattle.std.proofs.Math.ListN.{length}
use borrow.Author.Tests.{lt-ltb, le-ltb}
use Rattle.words.specs.Laws.Bools.{look}
use Rattle.words.specs.Laws.Lists.{next, in_at}
use Rattle.words.specs.declared.Literal.{Literal}
use Rattle.formula.specs.Formula.{clauses_from}
use Rattle.formula.specs.Laws.Clauses.{clauses_at, clauses_length, clauses_from_lem}
use Rattle.formula.specs.Laws.Ends.{clause_start}
use Rattle.record.specs.Found.{literal}
use Rattle.clauses.specs.Lowest.{lowest}
use Rattle.rules.specs.Due.{candidate, is_unit, lowest_unit}
use Rattle.tables.specs.Inner.ByLiteral.{status_in}
use Rattle.clauses.specs.Inner.Clauses.{level_by}
use Rattle.record.specs.Inner.Tables.{places}
use Rattle.counted.specs.Inner.Numbers.{key_at}
use Rattle.counted.specs.Inner.Unit.{above, Looking, last_open, unit_by}
use Rattle.counted.proofs.Laws.Numbers.{lowest_is}
use Rattle.counted.proofs.Laws.State.{unit_passed}
use Rattle.counted.proofs.Laws.Unit.{unit_test}

-- ---- the clause of a number, as code asks for it
clause_is : (ls es : List ℤ) (c : ℕ) → c < length es → get_or (clauses_from ls 0 es) c [] ≡ take (nat_abs (get_or es c (pos 0)) - clause_start es c) (drop (clause_start es c) ls)
clause_is ls es c h = head-eq_of_cons-eq (sym (next (clauses_from ls 0 es) c [] (rw (clauses_length ls 0 es) h)) ∙ clauses_from_lem ls es c (omega arith) ∙ clauses_at ls (clause_start es c) es c h)

pub clause_taken : (ls es : List ℤ) (c from end : ℕ) → c < length es → from ≡ clause_start es c → end ≡ nat_abs (get_or es c (pos 0)) → take (end - from) (drop from ls) ≡ get_or (clauses_from ls 0 es) c []
clause_taken ls es c from end h f e = rw (f, e) (sym (clause_is ls es c h))

pub start_first : (es : List ℤ) (c : ℕ) → c ≡ 0 → 0 ≡ clause_start es c
unfolding clause_start
start_first es c e = rw e

pub start_later : (es : List ℤ) (c : ℕ) → (c ≡ 0 → ⊥) → nat_abs (get_or es (c - 1) (pos 0)) ≡ clause_start es c
unfolding clause_start
start_later es zero n = absurd (n refl)
start_later es (suc c) n = let e : suc c - 1 ≡ c = omega arith in rw e

module _ (es ls : List ℤ) (statuses levels ts os : List ℕ) (from : ℕ) (x : Looking es ls statuses levels ts os from) where
  -- none below c is a unit clause
  abbrev pub NoUnits : ℕ → Type 0
  NoUnits c = (k : ℕ) → k < c → is_unit x.p x.ρ (get_or (clauses_from ls 0 es) k []) ≡ false

  pub units_begin : NoUnits from
  units_begin k h = x.counted.unit k (omega (arith, x.bound))

  one_more : (c : ℕ) → NoUnits c → is_unit x.p x.ρ (get_or (clauses_from ls 0 es) c []) ≡ false → NoUnits (c + 1)
  one_more c n f k h = by (ℕ_discrete k c)
    where
      by : Dec (k ≡ c) → is_unit x.p x.ρ (get_or (clauses_from ls 0 es) k []) ≡ false
      by (yes q) = rw q f
      by (no q) = n k (omega arith)

  -- the clause c has another key than 1
  pub units_past : (c : ℕ) → NoUnits c → c < length es → (key_at ts os c ≡ 1 → ⊥) → NoUnits (c + 1)
  units_past c n h f = one_more c n (unit_passed x.p (clauses_from ls 0 es) x.ρ ts os x.b x.counted c (omega (arith, clauses_length ls 0 es)) f x.once)

  -- the clause c has key 1
  module _ (c : ℕ) (n : NoUnits c) (h : c < length es) (one : key_at ts os c ≡ 1) (C : List ℤ) (is : C ≡ get_or (clauses_from ls 0 es) c []) where
    inside : c < length (clauses_from ls 0 es)
    inside = rw (clauses_length ls 0 es) h

    test : (is_unit x.p x.ρ C ≡ ltb (level_by levels (last_open (status_in statuses) (pos 0) C)) (above (status_in statuses) (level_by levels) places C)) × (last_open (status_in statuses) (pos 0) C ≡ candidate x.p x.ρ C)
    test = rw is (unit_test x.p x.ρ (status_in statuses) (level_by levels) (get_or (clauses_from ls 0 es) c []) (x.meant (get_or (clauses_from ls 0 es) c []) (in_at (clauses_from ls 0 es) c [] inside)) (let k = x.counted.numbers c inside in omega (arith, k.0, k.1)))

    pub units_next : unit_by (status_in statuses) (level_by levels) C ≡ None → NoUnits (c + 1)
    unfolding unit_by
    units_next e = one_more c n (rw (← is) (test.0 ∙ by (look t)))
      where
        t : Bool
        t = ltb (level_by levels (last_open (status_in statuses) (pos 0) C)) (above (status_in statuses) (level_by levels) places C)

        by : (t ≡ true) ⊎ (t ≡ false) → t ≡ false
        by (inl u) = let z : Some (literal (last_open (status_in statuses) (pos 0) C)) ≡ None = rw u at e in let y : ◌≡◌ {A = ℕ} 0 1 = cc in absurd (omega arith)
        by (inr u) = u

    pub units_found : (l : Literal) → unit_by (status_in statuses) (level_by levels) C ≡ Some l → Some (unit_clause l c) ≡ lowest_unit x.p x.ρ (clauses_from ls 0 es)
    unfolding unit_by lowest_unit
    units_found l e =
        let z : 0 + c ≡ c = omega arith in
        let f = lowest_is (is_unit x.p x.ρ) [] 0 (clauses_from ls 0 es) c (omega (arith, inside)) n (λ g. rw (← is) (test.0 ∙ hit.0)) in
        let a : lowest (is_unit x.p x.ρ) 0 (clauses_from ls 0 es) ≡ Some c = rw (z, lt-ltb c (length (clauses_from ls 0 es)) inside) at f in
        rw (a, ← is, ← test.1, hit.1)
      where
        t : Bool
        t = ltb (level_by levels (last_open (status_in statuses) (pos 0) C)) (above (status_in statuses) (level_by levels) places C)

        by : (t ≡ true) ⊎ (t ≡ false) → (t ≡ true) × (literal (last_open (status_in statuses) (pos 0) C) ≡ l)
        by (inl u) = let z : Some (literal (last_open (status_in statuses) (pos 0) C)) ≡ Some l = rw u at e in (u, cc)
        by (inr u) = let z : None ≡ Some l = rw u at e in let y : ◌≡◌ {A = ℕ} 0 1 = cc in absurd (omega arith)

        hit : (t ≡ true) × (literal (last_open (status_in statuses) (pos 0) C) ≡ l)
        hit = by (look t)

  pub units_none : (c : ℕ) → NoUnits c → length es ≤ c → None ≡ lowest_unit x.p x.ρ (clauses_from ls 0 es)
  unfolding lowest_unit
  units_none c n h =
      let k = length (clauses_from ls 0 es) in
      let f = lowest_is (is_unit x.p x.ρ) [] 0 (clauses_from ls 0 es) k (omega arith) (λ j g. n j (omega (arith, clauses_length ls 0 es))) (λ g. absurd (omega arith)) in
      let a : lowest (is_unit x.p x.ρ) 0 (clauses_from ls 0 es) ≡ None = rw (le-ltb k k (omega arith)) at f in
      rw a
