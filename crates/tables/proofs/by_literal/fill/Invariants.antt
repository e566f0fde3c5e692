-- After a word's turn its variable's two places are written.
use Rattle.tables.proofs.Stated.{Stated}
use Rattle.tables.proofs.by_literal.fill.Given as goal

abbrev pub invariant-loop-word : goal.invariant-loop-word
invariant-loop-word l = Stated l.fn.prefix l.fn.values l.statuses l.word-index
