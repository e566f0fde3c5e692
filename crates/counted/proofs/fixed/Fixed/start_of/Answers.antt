-- At the stop of the place before.
use Rattle.counted.proofs.Laws.Held.{start_back, start_none}
use Rattle.counted.proofs.fixed.Fixed.start_of.Goals as goal

pub returns-then-p-eq0 : goal.returns-then-p-eq0
returns-then-p-eq0 c = start_none _ _ c.if-p-eq0.true

pub returns-else-p-eq0 : goal.returns-else-p-eq0
returns-else-p-eq0 c = start_back _ _ c.if-p-eq0.false
