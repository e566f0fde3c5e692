-- The places wiped are those of the variables 1 to n and the one between them.
use Rattle.std.proofs.Common.{arith}
use Rattle.formula.specs.Laws.Limits.{variables_are}
use Rattle.rules.proofs.Wiping.{wiped_blank}
use Rattle.rules.proofs.by_literal.wipe.Goals as goal

pub returns : goal.returns
returns c = rw c.wipe_places.ensures (wiped_blank c.args.n (omega (arith, variables_are)) _ c.requires.blank_beyond)
