-- The due rule: the searches of the five conditions, each with what follows if it finds nothing. To be read from the end.
use Rattle.clauses.specs.Found.{unit_clause}
use Rattle.clauses.specs.declared.found.UnitClause.{UnitClause}
use Rattle.std.specs.Prelude.{ℕ, Bool, cond, List, [], ◌∷◌, ℤ, pos, neg_ℤ, get_or, Option, Some, None}
use Rattle.words.specs.declared.Literal.{Literal}
use Rattle.formula.specs.Formula.{Formula}
use Rattle.theory.specs.Record.{Record, Assignment, true_in}
use Rattle.theory.specs.Tests.{unassigned_existential, in_conflict, unit_on, monotone, untrue_of}
use Rattle.record.specs.Found.{literal, on_found, last}
use Rattle.record.specs.declared.rule.Rule.{Rule}
use Rattle.record.specs.declared.rule.Rule.TheVariants.{BacktrackExists, Fail, Unit, Monotone, Decide, BacktrackForall, Succeed}
use Rattle.choice.specs.First.{first_of, first_unassigned}
use Rattle.clauses.specs.Lowest.{lowest}

-- the first unassigned existential literal of a clause, 0 if there is none
unfoldable pub candidate : List ℤ → Assignment → List ℤ → ℤ
candidate p ρ [] = pos 0
candidate p ρ (x ∷ C) = cond (unassigned_existential p ρ x) x (candidate p ρ C)

-- a clause that Unit may take, on its one unassigned existential literal
abbrev pub is_unit : List ℤ → Assignment → List ℤ → Bool
is_unit p ρ C = unit_on p ρ C (candidate p ρ C)

-- the lowest of these clauses, and its literal [unit]
unfoldable pub lowest_unit : List ℤ → Assignment → List (List ℤ) → Option UnitClause
lowest_unit p ρ m = on_found (lowest (is_unit p ρ) 0 m) (λ c. Some (unit_clause (literal (candidate p ρ (get_or m c []))) c)) None

-- the first variable in prefix order that is monotone in the clauses m: the literal that it takes [monotone]
unfoldable pub first_monotone : List ℤ → List (List ℤ) → Assignment → Option Literal
first_monotone p m ρ = first_of (λ q. cond (monotone p m ρ q) (Some (literal q)) (cond (monotone p m ρ (neg_ℤ q)) (Some (literal (neg_ℤ q))) None)) p

-- 5: with no unassigned variable, by the last entry of kind 2 [backtrack-forall] [succeed]
abbrev pub due_assigned : Record → Rule
due_assigned r = on_found (last 2 0 r) (λ i. BacktrackForall i) Succeed

-- 4: Decide, where a variable is unassigned [decide]
abbrev pub due_decide : List ℤ → Record → Rule
due_decide p r = on_found (first_unassigned (true_in r) p) (λ l. Decide l) (due_assigned r)

-- 3: Monotone, in which only the clauses with no true literal count [monotone]
abbrev pub due_monotone : Formula → Record → Rule
due_monotone F r = on_found (first_monotone F.prefix (untrue_of (true_in r) F.clauses) (true_in r)) (λ l. Monotone l) (due_decide F.prefix r)

-- 2: Unit [unit]
abbrev pub due_unit : Formula → Record → Rule
due_unit F r = on_found (lowest_unit F.prefix (true_in r) F.clauses) (λ u. Unit u.literal u.clause) (due_monotone F r)

-- 1: with clause c in conflict, by the last entry of kind 1 [backtrack-exists] [fail]
abbrev pub due_conflict : Record → ℕ → Rule
due_conflict r c = on_found (last 1 0 r) (λ i. BacktrackExists i c) (Fail c)

-- the first in the order whose condition holds [due]
unfoldable pub due : Formula → Record → Rule
due F r = on_found (lowest (in_conflict F.prefix (true_in r)) 0 F.clauses) (due_conflict r) (due_unit F r)
