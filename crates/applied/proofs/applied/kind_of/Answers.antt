-- The table says of each variable whether it is universal; where it has no place for one, its value is 0, as of a variable that is not bound.
use Rattle.std.proofs.Common.{◌∙◌, ap, nat_abs, rules}
use mir.Syntax.{w32}
use mir.Val.{SFits}
use mir.ValLaws.{to_z-of_z}
use Rattle.record.proofs.Laws.Filled.{bound_written, quantifiers_of}
use Rattle.applied.proofs.Applying.{kind_two, kind_one}
use Rattle.applied.proofs.applied.kind_of.Goals as goal

pub values_of-quantifiers-requires : goal.values_of-quantifiers-requires
values_of-quantifiers-requires c = bound_written c.requires

pub returns-then-eq : goal.returns-then-eq
returns-then-eq c =
    let word : SFits w32 c.args.literal.0 = search rules in
    kind_two _ c.requires _ _ (quantifiers_of _ _ c.values_of-quantifiers.ensures) c.size.result (c.size.ensures ∙ ap nat_abs (to_z-of_z w32 _ word)) (search rules)

pub returns-else-eq : goal.returns-else-eq
returns-else-eq c =
    let word : SFits w32 c.args.literal.0 = search rules in
    kind_one _ c.requires _ _ (quantifiers_of _ _ c.values_of-quantifiers.ensures) c.size.result (c.size.ensures ∙ ap nat_abs (to_z-of_z w32 _ word)) (search rules)
