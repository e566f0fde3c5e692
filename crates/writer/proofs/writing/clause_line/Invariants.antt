-- What is left to write from each literal on gives what the whole line gives.
use Rattle.std.specs.Prelude.{map, drop}
use Rattle.grammar.specs.Written.{literal, line}
use Rattle.writer.proofs.Laws.Writing.{Owed}
use Rattle.writer.proofs.writing.clause_line.Given as goal

abbrev pub invariant-loop-word : goal.invariant-loop-word
invariant-loop-word l = Owed l.output l.at (line (map literal (drop l.word-index l.clause))) l.fn.output l.from (line (map literal l.clause))
