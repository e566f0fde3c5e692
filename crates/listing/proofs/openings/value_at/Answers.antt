-- A word of the other sign than the bit's value is flipped, any other stays.
use Rattle.std.proofs.Common.{arith}
use mir.ValLaws.{to_z-of_z}
use Rattle.words.specs.Laws.Words.{opposite_is}
use Rattle.listing.proofs.openings.value_at.Goals as goal

pub returns-then-negative-has_one : goal.returns-then-negative-has_one
returns-then-negative-has_one c = grind (arith, to_z-of_z, opposite_is)
