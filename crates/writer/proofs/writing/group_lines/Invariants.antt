-- What is left to write from each word on gives what all lines give.
use Rattle.std.specs.Prelude.{drop}
use Rattle.grammar.specs.Written.{group_lines}
use Rattle.writer.specs.Write.{groups_of}
use Rattle.writer.specs.Inner.Writing.{group_words}
use Rattle.writer.proofs.Laws.Writing.{Owed}
use Rattle.writer.proofs.writing.group_lines.Given as goal

abbrev pub invariant-loop-i : goal.invariant-loop-i
invariant-loop-i l = Owed l.output l.at (group_words l.new (drop l.i l.prefix)) l.fn.output l.from (group_lines (groups_of l.prefix))
