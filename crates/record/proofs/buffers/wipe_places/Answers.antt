-- Each turn sets the first of the places that are left; at the end, or past the last place, none is.
use Rattle.std.proofs.Common.{sym, ◌∙◌, arith}
use Rattle.record.proofs.Laws.Wiped.{wiped_next, wiped_rest}
use Rattle.record.proofs.buffers.wipe_places.Goals as goal

pub loop-i-preserved : goal.loop-i-preserved
loop-i-preserved g c = sym (wiped_next _ _ _ _ (omega arith)) ∙ c.loop-i.invariant

pub returns : goal.returns
returns g c = sym (wiped_rest _ _ _ _ (omega arith)) ∙ c.loop-i.invariant
