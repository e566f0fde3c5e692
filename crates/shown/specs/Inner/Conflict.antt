-- The lowest clause in conflict, by its number: as the due rule names it, and as a clause.
use Rattle.std.specs.Prelude.{List, [], ℤ, get_or, Option, Some, None, ℕ}
use Rattle.record.specs.Found.{on_found}
use Rattle.record.specs.declared.rule.Rule.{Rule}
use Rattle.record.specs.declared.rule.Rule.TheVariants.{BacktrackExists, Fail, Unit, Monotone, Decide, BacktrackForall, Succeed}

-- that a due rule names
abbrev pub conflict_of : Rule → Option ℕ
conflict_of (BacktrackExists i c) = Some c
conflict_of (Fail c) = Some c
conflict_of (Unit l c) = None
conflict_of (Monotone l) = None
conflict_of (Decide l) = None
conflict_of (BacktrackForall i) = None
conflict_of Succeed = None

-- the clause of a number, and with none a clause of no literals
abbrev pub clause_of : List (List ℤ) → Option ℕ → List ℤ
clause_of m f = on_found f (λ c. get_or m c []) []
