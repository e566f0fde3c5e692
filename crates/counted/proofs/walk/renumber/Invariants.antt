-- The clauses before the index have their numbers.
use Rattle.std.specs.Prelude.{drop}
use Rattle.counted.specs.Inner.Walk.{Renumbered}
use Rattle.counted.proofs.walk.renumber.Given as goal

abbrev pub invariant-loop-c : goal.invariant-loop-c
invariant-loop-c l = Renumbered l.more l.less l.list l.fn.trues l.fn.opens l.fn.was (drop l.c-index l.list) l.trues l.opens l.bounds
