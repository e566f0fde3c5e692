-- By the two answers of `is_decide`.
use Rattle.std.proofs.Common.{sym, ◌∙◌}
use Rattle.search.proofs.searches.proposal.Goals as goal

pub returns-then-is_decide : goal.returns-then-is_decide
returns-then-is_decide c = rw (sym c.is_decide.ensures ∙ c.if-is_decide.true) c.first_open.ensures

pub returns-else-is_decide : goal.returns-else-is_decide
returns-else-is_decide c = rw (sym c.is_decide.ensures ∙ c.if-is_decide.false)
