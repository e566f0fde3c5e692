-- The literals passed, from the last one on, have the clause's stamp.
use Rattle.formula.proofs.Stamped.{Stamped}
use Rattle.formula.proofs.marks.pair_in.Given as goal

abbrev pub invariant-loop-i : goal.invariant-loop-i
invariant-loop-i l = Stamped l.clause l.stamp l.marks l.again l.i
