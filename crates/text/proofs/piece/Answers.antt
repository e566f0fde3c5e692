-- The reading goes on with the next byte.
use Rattle.text.proofs.Laws.Turns.{piece_none, piece_more}
use Rattle.text.proofs.piece.Goals as goal

pub loop-b-init : goal.loop-b-init
loop-b-init c = piece_none c.args.reader c.args.output.now

pub loop-b-preserved : goal.loop-b-preserved
loop-b-preserved c = piece_more c.loop-b.yielded c.in-Some.b _ _ _ _ _ _ c.loop-b.invariant c.take-reader.ensures
