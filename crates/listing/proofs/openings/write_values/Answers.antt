-- At each round one value more is written, and the place of its bit is one lower.
use Rattle.std.proofs.Common.{sym, ◌∙◌, ap, rules, get_or, length, ◌-◌}
use lib.IntN.{pos}
use mir.Syntax.{w32}
use mir.Val.{SFits}
use mir.ValLaws.{to_z-of_z}
use Rattle.listing.specs.Opening.{value_at}
use Rattle.listing.proofs.Groups.{values_write, values_written}
use Rattle.listing.proofs.openings.write_values.Goals as goal

pub loop-i-preserved : goal.loop-i-preserved
loop-i-preserved c =
    let g = c.args.group.now in
    let i = c.loop-i.i in
    let word : SFits w32 (get_or g i (pos 0)) = search rules in
    let value : SFits w32 c.value_at.result = search rules in
    values_write c.args.n g c.loop-i.lits i c.loop-i-test.true (to_z-of_z w32 _ value ∙ c.value_at.ensures ∙ ap (value_at c.args.n (length g - 1 - i)) (to_z-of_z w32 _ word))
    ∙ c.loop-i.invariant

pub returns : goal.returns
returns c = sym (values_written c.args.n c.args.group.now c.loop-i.lits c.loop-i.i c.loop-i-test.false) ∙ c.loop-i.invariant
