-- No clause before c is a unit clause.
use Rattle.counted.specs.Inner.Unit.{Looking}
use Rattle.counted.proofs.Laws.Lowest.{NoUnits}
use Rattle.counted.proofs.unit.lowest_unit.Given as goal

abbrev pub invariant-loop-c : goal.invariant-loop-c
invariant-loop-c l = (x : Looking l.ends l.words l.statuses l.levels l.trues l.opens l.from) → NoUnits l.ends l.words l.statuses l.levels l.trues l.opens l.from x l.c
