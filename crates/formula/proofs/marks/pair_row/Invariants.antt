-- The clauses that are left, after what was seen, give the row that all clauses give.
use Rattle.formula.specs.Formula.{clauses_from}
use Rattle.formula.proofs.Looked.{Looked}
use Rattle.formula.proofs.marks.pair_row.Given as goal

abbrev pub invariant-loop-i : goal.invariant-loop-i
invariant-loop-i l =
    let s = l.i-iterator.iter in
    Looked l.marks l.repeated l.i-iterator.count (clauses_from s.literals.now s.from s.ends.now) (clauses_from l.literals 0 l.ends)
