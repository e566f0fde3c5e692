-- After the last word there is no change; before it the two signs are compared.
use Rattle.std.proofs.Common.{◌≡◌, ◌+◌, ◌<◌, ◌∙◌, sym, ap, pos, length, get_or, rules}
use mir.Syntax.{w32}
use mir.Val.{SFits}
use mir.ValLaws.{to_z-of_z}
use Rattle.words.specs.Words.{negative}
use Rattle.tables.proofs.Levelled.{change_last, change_next}
use Rattle.tables.proofs.by_variable.change_at.Goals as goal

pub returns-in-Some : goal.returns-in-Some
returns-in-Some c =
    let inside : c.args.i + 1 < length c.args.prefix.now = search rules in
    let here : SFits w32 (get_or c.args.prefix.now c.args.i (pos 0)) = search rules in
    let after : SFits w32 (get_or c.args.prefix.now (c.args.i + 1) (pos 0)) = search rules in
    let is : c.in-Some.next.now ≡ get_or c.args.prefix.now (c.args.i + 1) (pos 0) = search rules in
    c.from.ensures
    ∙ change_next (get_or c.args.prefix.now c.args.i (pos 0)) c.args.prefix.now c.args.i inside _ _ (c.negative.ensures ∙ ap negative (to_z-of_z w32 _ here))
    (c.negative-in-Some.ensures ∙ ap negative (rw is (to_z-of_z w32 _ after)))

pub returns-in-None : goal.returns-in-None
returns-in-None c = sym (change_last _ c.args.prefix.now c.args.i (search rules))
