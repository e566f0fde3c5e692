-- Each round is a step of the run.
use Rattle.std.proofs.Common.{arith}
use Rattle.counted.proofs.Laws.Going.{going_ended, going_more, going_used}
use Rattle.counted.proofs.searches.go_on.Goals as goal

pub returns-then-is_over : goal.returns-then-is_over
returns-then-is_over c = going_ended c.loop-steps.invariant c.is_over.ensures c.if-is_over.true

pub loop-steps-preserved : goal.loop-steps-preserved
loop-steps-preserved c =
    going_more c.loop-steps.invariant c.loop-steps-test.true c.is_over.ensures c.if-is_over.false c.advance-next.ensures c.advance-next.auto.trues c.advance-next.auto.opens

pub returns : goal.returns
returns c = going_used c.loop-steps.invariant (omega arith)
