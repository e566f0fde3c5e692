-- The truth from the first variable on, with no value so far.
use Rattle.formula.specs.Truth.{true?}
use Rattle.plain.specs.Solve.{holds_from}
use Rattle.plain.proofs.tried.holds.Goals as goal

pub returns : goal.returns
unfolding true? holds_from
returns c = c.holds_from.ensures.value
