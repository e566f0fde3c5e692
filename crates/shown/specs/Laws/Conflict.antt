-- The due rule names the lowest clause in conflict, if there is one, and that clause is the one that values are held against. By the cases of
-- the searches.
use Rattle.clauses.specs.declared.found.UnitClause.{UnitClause}
use Rattle.words.specs.declared.Literal.{Literal}
use Rattle.std.specs.Prelude.{ℕ, suc, ◌-◌, ◌≡◌, refl, List, [], ◌∷◌, ℤ, get_or, Option, Some, None}
use Rattle.std.proofs.Common.{◌∙◌, inl, inr, arith}
use Rattle.words.specs.Laws.Bools.{look}
use Rattle.formula.specs.Formula.{Formula}
use Rattle.theory.specs.Record.{Record, Assignment, true_in}
use Rattle.theory.specs.Tests.{in_conflict, untrue_of}
use Rattle.theory.specs.Witness.{conflicting}
use Rattle.record.specs.Found.{on_found, last}
use Rattle.record.specs.declared.rule.Rule.TheVariants.{BacktrackExists, Fail, Unit, Monotone, Decide, BacktrackForall, Succeed}
use Rattle.choice.specs.First.{first_unassigned}
use Rattle.clauses.specs.Lowest.{lowest}
use Rattle.clauses.proofs.Laws.Lowest.{lowest_at}
use Rattle.rules.specs.Due.{lowest_unit, first_monotone, due_assigned, due_decide, due_monotone, due_unit, due_conflict, due}
use Rattle.shown.specs.Inner.Conflict.{conflict_of, clause_of}

module _ (F : Formula) (r : Record) where
  by_last : (c : ℕ) (o : Option ℕ) → conflict_of (on_found o (λ i. BacktrackExists i c) (Fail c)) ≡ Some c
  by_last c (Some i) = refl
  by_last c None = refl

  by_assigned : (o : Option ℕ) → conflict_of (on_found o (λ i. BacktrackForall i) Succeed) ≡ None
  by_assigned (Some i) = refl
  by_assigned None = refl

  by_decide : (o : Option Literal) → conflict_of (on_found o (λ l. Decide l) (due_assigned r)) ≡ None
  by_decide (Some l) = refl
  by_decide None = by_assigned (last 2 0 r)

  by_monotone : (o : Option Literal) → conflict_of (on_found o (λ l. Monotone l) (due_decide F.prefix r)) ≡ None
  by_monotone (Some l) = refl
  by_monotone None = by_decide (first_unassigned (true_in r) F.prefix)

  by_unit : (o : Option UnitClause) → conflict_of (on_found o (λ u. Unit u.literal u.clause) (due_monotone F r)) ≡ None
  by_unit (Some u) = refl
  by_unit None = by_monotone (first_monotone F.prefix (untrue_of (true_in r) F.clauses) (true_in r))

  -- with none in conflict it names none
  names_it : conflict_of (due F r) ≡ lowest (in_conflict F.prefix (true_in r)) 0 F.clauses
  unfolding due
  names_it = go (lowest (in_conflict F.prefix (true_in r)) 0 F.clauses)
    where
      go : (o : Option ℕ) → conflict_of (on_found o (due_conflict r) (due_unit F r)) ≡ o
      go (Some c) = by_last c (last 1 0 r)
      go None = by_unit (lowest_unit F.prefix (true_in r) F.clauses)

-- the clauses m are numbered from n on
by_number : (p : List ℤ) (ρ : Assignment) (n : ℕ) (m : List (List ℤ)) → conflicting p m ρ ≡ on_found (lowest (in_conflict p ρ) n m) (λ c. get_or m (c - n) []) []
unfolding conflicting lowest
by_number p ρ n [] = refl
by_number p ρ n (C ∷ m) = elim (look (in_conflict p ρ C)) [
  | inl e ↦ let z : n - n ≡ 0 = omega arith in rw (e, z)
  | inr e ↦ rw e (by_number p ρ (suc n) m ∙ go (lowest (in_conflict p ρ) (suc n) m) refl)
]
  where
    go : (o : Option ℕ) → lowest (in_conflict p ρ) (suc n) m ≡ o → on_found o (λ c. get_or m (c - suc n) []) [] ≡ on_found o (λ c. get_or (C ∷ m) (c - n) []) []
    go None e = refl
    go (Some c) e = let t = lowest_at (in_conflict p ρ) [] (suc n) m c e in let k = t.1 in let z : c - n ≡ suc (c - suc n) = omega arith in rw z

pub conflicting_due : (F : Formula) (r : Record) → clause_of F.clauses (conflict_of (due F r)) ≡ conflicting F.prefix F.clauses (true_in r)
conflicting_due F r = rw (names_it F r, by_number F.prefix (true_in r) 0 F.clauses) (go (lowest (in_conflict F.prefix (true_in r)) 0 F.clauses))
  where
    go : (o : Option ℕ) → clause_of F.clauses o ≡ on_found o (λ c. get_or F.clauses (c - 0) []) []
    go None = refl
    go (Some c) = let z : c - 0 ≡ c = omega arith in rw z
