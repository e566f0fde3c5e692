-- After some of the words each variable has the value that they give it.
use Rattle.std.proofs.Common.{take}
use Rattle.record.specs.Inner.Tables.{places}
use Rattle.record.proofs.Laws.Filled.{Filled}
use Rattle.record.proofs.Values.{valued}
use Rattle.record.proofs.tables.values_of.Given as goal

abbrev pub invariant-loop-word : goal.invariant-loop-word
invariant-loop-word l = Filled valued places (take l.fn.count l.fn.lits) l.values l.word-index
