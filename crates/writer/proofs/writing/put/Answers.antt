-- The next byte is stored behind those that were.
use Rattle.writer.proofs.Laws.Writing.{put_turn}
use Rattle.writer.proofs.writing.put.Goals as goal

pub loop-i-preserved : goal.loop-i-preserved
loop-i-preserved c = put_turn _ _ _ _ c.loop-i.invariant c.loop-i-test.true c.store.ensures
