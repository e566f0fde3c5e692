-- The measure is the number of variables that are left.
use Rattle.std.proofs.Common.{◌-◌}
use Rattle.formula.specs.Formula.{variables_of}
use Rattle.plain.proofs.tried.+holds_from.Given as goal

abbrev pub decreases-holds_from : goal.decreases-holds_from
decreases-holds_from l = variables_of l.block.now - l.i
