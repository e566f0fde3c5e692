-- What is left to write from each variable on gives what the whole gives.
use Rattle.laid.specs.Inner.Marks.{picked}
use Rattle.laid.specs.Laws.Marks.{Left}
use Rattle.laid.proofs.prefix.write_those.Given as goal

abbrev pub invariant-loop-v : goal.invariant-loop-v
invariant-loop-v l = let f = picked l.bound l.named l.wanted in Left f l.v l.n l.at l.output l.from l.fn.output
