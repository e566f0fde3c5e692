-- What a due rule names is there.
use Rattle.std.specs.Prelude.{◌≤◌, ◌<◌, ◌≡◌, true, length, get_or}
use mathlib.Core.List.{[]}
use Rattle.formula.specs.Formula.{Formula}
use Rattle.theory.specs.Record.{Record, true_in}
use Rattle.theory.specs.Tests.{unit_on}
use Rattle.record.specs.declared.rule.Rule.{Rule}
use Rattle.record.specs.declared.rule.Rule.TheVariants.{BacktrackExists, Fail, Unit, Monotone, Decide, BacktrackForall, Succeed}

-- a clause of the formula; of a unit, one that decides its literal
abbrev pub Names : Formula → Record → Rule → Type 0
Names F r (BacktrackExists i c) = c < length F.clauses
Names F r (Fail c) = c < length F.clauses
Names F r (Unit l c) = (c < length F.clauses) × (unit_on F.prefix (true_in r) (get_or F.clauses c []) l.0 ≡ true)
Names F r (Monotone l) = 0 ≤ 0
Names F r (Decide l) = 0 ≤ 0
Names F r (BacktrackForall i) = 0 ≤ 0
Names F r Succeed = 0 ≤ 0
