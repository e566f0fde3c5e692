-- A status has a place for each size within the limit.
use Rattle.std.specs.Prelude.{nat_abs}
use Rattle.std.proofs.Common.{◌∙◌, ap, arith, w32}
use mir.ValLaws.{to_z-of_z}
use Rattle.formula.specs.Laws.Limits.{variables_are}
use Rattle.counted.proofs.free.is_free.Goals as goal

pub bounds-statuses-size : goal.bounds-statuses-size
bounds-statuses-size c = omega (arith, c.size.ensures ∙ ap nat_abs (to_z-of_z w32 _ c.ranges.word), variables_are, c.requires)
