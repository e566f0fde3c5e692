-- The text may end here, or not.
use Rattle.std.proofs.Common.{rules, sym, ◌∙◌}
use Rattle.text.specs.Pieces.{end_of}
use Rattle.text.proofs.end.Goals as goal

pub returns-then-is_fresh : goal.returns-then-is_fresh
unfolding end_of
returns-then-is_fresh c = rw (sym c.is_fresh.ensures ∙ c.if-is_fresh.true) c.settle.ensures

pub returns-else-is_fresh : goal.returns-else-is_fresh
unfolding end_of
returns-else-is_fresh c = rw (sym c.is_fresh.ensures ∙ c.if-is_fresh.false) (search rules)
