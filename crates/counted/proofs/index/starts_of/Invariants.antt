-- Below p each place has how many words come before it, and from p on still its count.
use Rattle.counted.proofs.Starting.{Starting}
use Rattle.counted.proofs.index.starts_of.Given as goal

abbrev pub invariant-loop-start : goal.invariant-loop-start
invariant-loop-start l = Starting l.words l.start-items l.sum l.start-index
