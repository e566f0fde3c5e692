-- After some of the words the literals among them are marked, and the other places are as they were.
use Rattle.formula.specs.Inner.Places.{literal_places}
use Rattle.record.proofs.Laws.Filled.{Filled}
use Rattle.rules.proofs.Occurring.{marked}
use Rattle.rules.proofs.occurrences.mark.Given as goal

abbrev pub invariant-loop-word : goal.invariant-loop-word
invariant-loop-word l = Filled (marked l.fn.occurs) literal_places l.fn.clause l.occurs l.word-index
