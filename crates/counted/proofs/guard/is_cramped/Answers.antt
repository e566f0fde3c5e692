-- An accepted block's counts are small.
use Rattle.std.proofs.Common.{arith}
use Rattle.formula.specs.Limits.{limits}
use Rattle.formula.specs.Laws.Accepted.{accepted}
use Rattle.formula.specs.Laws.Limits.{variables_are, literals_are}
use Rattle.counted.proofs.guard.is_cramped.Goals as goal

pub overflow_add-result : goal.overflow_add-result
overflow_add-result c =
    let a = (accepted limits c.args.block.now c.requires).counts in
    omega (arith, c.size_at.ensures, c.size_at-else-opens-clauses.ensures, a.variables.most, a.literals.most, variables_are, literals_are)
