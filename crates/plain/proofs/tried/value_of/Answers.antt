-- The word is small, so its opposite is its negation.
use Rattle.std.proofs.Common.{arith}
use mir.ValLaws.{to_z-of_z}
use Rattle.words.specs.Laws.Words.{opposite_is}
use Rattle.plain.proofs.tried.value_of.Goals as goal

pub returns-then-second : goal.returns-then-second
returns-then-second c = grind (arith, to_z-of_z, opposite_is)
