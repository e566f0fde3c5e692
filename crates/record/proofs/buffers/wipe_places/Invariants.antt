-- To set the places from i on leaves what setting all of them leaves.
use Rattle.std.proofs.Common.{◌≡◌}
use Rattle.record.specs.Trail.{wiped}
use Rattle.record.proofs.buffers.wipe_places.Given as goal

abbrev pub invariant-loop-i : goal.invariant-loop-i
invariant-loop-i g l = wiped l.blank l.places l.i l.fn.to ≡ wiped l.blank l.fn.places l.fn.from l.fn.to
