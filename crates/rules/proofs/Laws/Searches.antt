-- What each search of the due rule finds, and what it means that it finds nothing. By induction on the list that is searched.
use Rattle.clauses.specs.declared.found.UnitClause.{UnitClause}
use Rattle.clauses.specs.Found.{unit_clause}
use Rattle.std.specs.Prelude.{ℕ, ◌≡◌, refl, Bool, true, false, cond, List, [], ℤ, neg_ℤ, get_or, Option, Some, None}
use Rattle.std.proofs.Common.{ap, ◌∙◌, arith}
use Rattle.std.proofs.Math.Bool.{and-false}
use Rattle.words.specs.Lists.{In}
use Rattle.words.specs.Laws.Lists.{all_e}
use Rattle.words.specs.declared.Literal.{Literal}
use Rattle.formula.specs.Formula.{existential, universal}
use Rattle.theory.specs.Record.{Assignment, assigned}
use Rattle.theory.specs.Tests.{unassigned_existential, unassigned_universal, unit_on, monotone, all_assigned}
use Rattle.theory.proofs.Laws.Assignment.{assigned_neg}
use Rattle.record.specs.Found.{literal, on_found}
use Rattle.choice.specs.First.{first_unassigned}
use Rattle.choice.specs.Laws.Searches.{first_found, none_picked, unassigned_none}
use Rattle.clauses.specs.Lowest.{lowest}
use Rattle.clauses.proofs.Laws.Lowest.{lowest_at}
use Rattle.rules.specs.Due.{candidate, is_unit, lowest_unit, first_monotone}

-- ---- Unit: the clause stands in the matrix and decides the literal
pub record UnitOf (p : List ℤ) (m : List (List ℤ)) (ρ : Assignment) (l : ℤ) : Type 0 where
  pub clause : List ℤ
  pub inside : In clause m
  pub decides : unit_on p ρ clause l ≡ true

pub unit_found : (p : List ℤ) (m : List (List ℤ)) (ρ : Assignment) (l : Literal) (c : ℕ) → lowest_unit p ρ m ≡ Some (unit_clause l c) → UnitOf p m ρ l.0
unfolding lowest_unit
unit_found p m ρ l c e = go (lowest (is_unit p ρ) 0 m) refl e
  where
    go : (o : Option ℕ) → lowest (is_unit p ρ) 0 m ≡ o → on_found o (λ c. Some (unit_clause (literal (candidate p ρ (get_or m c []))) c)) None ≡ Some (unit_clause l c) → UnitOf p m ρ l.0
    go (Some i) q e =
        let (j, s, t, u) = lowest_at (is_unit p ρ) [] 0 m i q in
        let z : j ≡ i = omega arith in
        let w : unit_clause (literal (candidate p ρ (get_or m i []))) i ≡ unit_clause l c = cc in
        let w0 : candidate p ρ (get_or m i []) ≡ l.0 = ap (λ (u : UnitClause). u.literal.0) w in
        record { clause = get_or m i []; inside = rw z at t; decides = rw (← w0) (rw z at u) }
    go None q e = let z : ◌≡◌ {A = ℕ} 0 1 = cc in absurd (omega arith)

-- ---- Monotone
pub monotone_found : (p : List ℤ) (m : List (List ℤ)) (ρ : Assignment) (l : Literal) → first_monotone p m ρ ≡ Some l → monotone p m ρ l.0 ≡ true
unfolding first_monotone
monotone_found p m ρ l e = let w = first_found _ p l e in go w.word (monotone p m ρ w.word) (monotone p m ρ (neg_ℤ w.word)) refl refl w.is
  where
    same : (x : ℤ) → literal x ≡ l → monotone p m ρ x ≡ true → monotone p m ρ l.0 ≡ true
    same x w h = let z : x ≡ l.0 = ap (λ (y : Literal). y.0) w in rw z at h

    go : (q : ℤ) (a b : Bool) → monotone p m ρ q ≡ a → monotone p m ρ (neg_ℤ q) ≡ b → cond a (Some (literal q)) (cond b (Some (literal (neg_ℤ q))) None) ≡ Some l → monotone p m ρ l.0 ≡ true
    go q true b s t e = same q (cc) s
    go q false true s t e = same (neg_ℤ q) (cc) t
    go q false false s t e = let z : ◌≡◌ {A = ℕ} 0 1 = cc in absurd (omega arith)

-- ---- with none unassigned none is monotone
module _ (ρ : Assignment) where
  set_not : (p : List ℤ) (m : List (List ℤ)) (q : ℤ) → assigned ρ q ≡ true → monotone p m ρ q ≡ false
  unfolding monotone unassigned_existential unassigned_universal
  set_not p m q a = rw (a, and-false (existential p q), and-false (universal p q))

  pub monotone_unassigned : (p : List ℤ) (m : List (List ℤ)) → first_unassigned ρ p ≡ None → first_monotone p m ρ ≡ None
  unfolding first_monotone all_assigned
  monotone_unassigned p m e = none_picked _ p (λ q i. let a = all_e (assigned ρ) p (unassigned_none ρ p e) i in rw (set_not p m q a, set_not p m (neg_ℤ q) (assigned_neg ρ q ∙ a)))
