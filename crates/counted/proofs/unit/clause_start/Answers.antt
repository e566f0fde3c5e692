-- At the end of the clause before.
use Rattle.std.proofs.Common.{◌∙◌}
use Rattle.counted.proofs.Laws.Lowest.{start_first, start_later}
use Rattle.counted.proofs.unit.clause_start.Goals as goal

pub returns-then-c-eq0 : goal.returns-then-c-eq0
returns-then-c-eq0 c = start_first _ _ c.if-c-eq0.true

pub returns-else-c-eq0 : goal.returns-else-c-eq0
returns-else-c-eq0 c = c.size_at.ensures ∙ start_later _ _ c.if-c-eq0.false
