-- The marks are the variables of the words passed, from the last one on.
use Rattle.formula.specs.Limits.{limits}
use Rattle.formula.proofs.Seen.{Seen}
use Rattle.formula.proofs.marks.variable_twice.Given as goal

abbrev pub invariant-loop-i : goal.invariant-loop-i
invariant-loop-i l = Seen l.ws limits.variables l.seen l.i
