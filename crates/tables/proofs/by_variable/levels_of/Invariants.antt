-- After i words the level is the number of changes so far, and each variable passed has its own.
use Rattle.tables.proofs.Levelled.{Levelled}
use Rattle.tables.proofs.by_variable.levels_of.Given as goal

abbrev pub invariant-loop-i : goal.invariant-loop-i
invariant-loop-i l = Levelled l.fn.prefix l.levels l.level l.i
