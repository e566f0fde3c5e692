-- At each round one value more is written.
use Rattle.std.proofs.Common.{sym, ◌∙◌, ap, rules, get_or}
use lib.IntN.{pos}
use mir.Syntax.{w32}
use mir.Val.{SFits}
use mir.ValLaws.{to_z-of_z}
use Rattle.theory.specs.Witness.{shown_true, signed_as}
use Rattle.shown.proofs.Shows.{values_write, values_written}
use Rattle.shown.proofs.values.write.Goals as goal

pub loop-i-preserved : goal.loop-i-preserved
loop-i-preserved c =
    let word : SFits w32 (get_or c.args.group.now c.loop-i.i (pos 0)) = search rules in
    let value : SFits w32 c.value_of.result = search rules in
    λ ρ t. values_write (shown_true ρ c.args.clause.now) c.args.group.now c.loop-i.output c.loop-i.i c.loop-i-test.true (to_z-of_z w32 _ value ∙ c.value_of.ensures ρ t ∙ ap (signed_as (shown_true ρ c.args.clause.now)) (to_z-of_z w32 _ word))
    ∙ c.loop-i.invariant ρ t

pub returns : goal.returns
returns c = λ ρ t. sym (values_written (shown_true ρ c.args.clause.now) c.args.group.now c.loop-i.output c.loop-i.i c.loop-i-test.false) ∙ c.loop-i.invariant ρ t
