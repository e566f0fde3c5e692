-- The word is widened and raised by the number of variables.
use Rattle.std.proofs.Common.{sym}
use Rattle.formula.specs.Limits.{max_variables}
use Rattle.formula.specs.Laws.Limits.{variables_are}
use Rattle.formula.proofs.Raised.{sum_cast, sum_place}
use Rattle.formula.proofs.places.place.Goals as goal

pub overflow_cast-result-2 : goal.overflow_cast-result-2
overflow_cast-result-2 c = sum_cast c.args.word c.ranges.word c.requires max_variables (sym variables_are)

pub returns : goal.returns
returns c = sum_place c.args.word c.ranges.word c.requires max_variables (sym variables_are)
