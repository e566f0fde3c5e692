-- The last open literal so far, and the lowest universal level.
use Rattle.tables.specs.Inner.ByLiteral.{status_in}
use Rattle.clauses.specs.Inner.Clauses.{level_by}
use Rattle.counted.proofs.Passing.{Looked}
use Rattle.counted.proofs.unit.unit_literal.Given as goal

abbrev pub invariant-loop-word : goal.invariant-loop-word
invariant-loop-word l = Looked (status_in l.statuses) (level_by l.levels) l.clause l.open.0 l.above l.word-index
