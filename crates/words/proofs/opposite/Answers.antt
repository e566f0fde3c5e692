-- Only the least word has no negation that is a word.
use Rattle.words.proofs.Machine.{opposed_least, opposed}
use Rattle.words.proofs.opposite.Goals as goal

pub returns-then-x-eq-LEAST : goal.returns-then-x-eq-LEAST
returns-then-x-eq-LEAST c = opposed_least c.args.x c.ranges.x c.if-x-eq-LEAST.true

pub returns-else-x-eq-LEAST : goal.returns-else-x-eq-LEAST
returns-else-x-eq-LEAST c = opposed c.args.x c.ranges.x c.if-x-eq-LEAST.false
