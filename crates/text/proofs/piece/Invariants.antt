-- What was read of the bytes so far is where the reading is.
use Rattle.std.proofs.Common.{◌≡◌}
use Rattle.words.specs.Outcomes.{outcome}
use Rattle.text.specs.Pieces.{piece_of}
use Rattle.text.proofs.piece.Given as goal

abbrev pub invariant-loop-b : goal.invariant-loop-b
invariant-loop-b l = outcome l.reader l.output ≡ piece_of l.yielded l.fn.reader l.fn.output
