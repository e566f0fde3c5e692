-- To mark the clauses that are left is to mark all.
use Rattle.formula.specs.Formula.{clauses_from}
use Rattle.tables.specs.Inner.ByLiteral.{status_in}
use Rattle.rules.specs.Inner.Occurrences.{true_by}
use Rattle.rules.proofs.Occurring.{Counting}
use Rattle.rules.proofs.occurrences.occurring.Given as goal

abbrev pub invariant-loop-clause : goal.invariant-loop-clause
invariant-loop-clause l =
    Counting (true_by (status_in l.fn.statuses)) (clauses_from l.fn.literals 0 l.fn.ends) l.occurs
    (clauses_from l.clause-iterator.literals.now l.clause-iterator.from l.clause-iterator.ends.now)
