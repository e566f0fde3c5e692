-- After j literals their numbers are counted.
use Rattle.tables.specs.Inner.ByLiteral.{status_in}
use Rattle.counted.proofs.Tallied.{Tallied}
use Rattle.counted.proofs.numbers.count_clause.Given as goal

abbrev pub invariant-loop-word : goal.invariant-loop-word
invariant-loop-word l = Tallied (status_in l.statuses) l.clause l.trues l.opens l.word-index
