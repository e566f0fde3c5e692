-- What is counted and what is left make up the whole count.
use Rattle.formula.specs.Inner.Places.{literal_places}
use Rattle.counted.proofs.Counting.{Counting}
use Rattle.counted.proofs.index.count_literals.Given as goal

abbrev pub invariant-loop-word : goal.invariant-loop-word
invariant-loop-word l = Counting literal_places l.words l.counts l.word-index
