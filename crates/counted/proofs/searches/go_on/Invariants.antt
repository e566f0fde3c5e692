-- The rounds of a run, with what is kept of the record.
use Rattle.memory.specs.Memory.{memory}
use Rattle.counted.proofs.Laws.Going.{Going}
use Rattle.counted.proofs.searches.go_on.Given as goal

abbrev pub invariant-loop-steps : goal.invariant-loop-steps
invariant-loop-steps l =
    Going l.block (memory l.fn.lits l.fn.kinds l.fn.reasons) l.count l.budget l.preferred l.fn.trues l.fn.opens (memory l.lits l.kinds l.reasons) l.statuses l.trues l.opens l.at l.bounds l.steps l.reason
