-- Each sum is the count of the words before the next place, and so at most the number of words.
use Rattle.std.proofs.Common.{arith}
use Rattle.formula.specs.Laws.Limits.{literals_are}
use Rattle.counted.proofs.Starting.{start_begin, start_small, start_turn}
use Rattle.counted.proofs.index.starts_of.Goals as goal

pub loop-start-init : goal.loop-start-init
loop-start-init c = start_begin _ _ c.count_literals-starts.ensures

pub overflow_add-sum : goal.overflow_add-sum
overflow_add-sum c = let k = start_small c.args.words.now _ _ _ c.loop-start.invariant (omega arith) in omega (arith, literals_are, c.requires.words_len_bound)

pub loop-start-preserved : goal.loop-start-preserved
loop-start-preserved c = start_turn _ _ _ _ c.loop-start.invariant (omega arith)
