-- The word goes to the place before the values so far.
use Rattle.std.proofs.Common.{List, ℤ, get_or, pos, arith, rules, ap, ◌∙◌}
use mir.Syntax.{w32}
use mir.Val.{SFits}
use mir.ValLaws.{to_z-of_z}
use Rattle.plain.specs.Inner.Tried.{Small, value_of}
use Rattle.plain.proofs.Given.{word_small, given}
use Rattle.plain.proofs.tried.give.Goals as goal
use Rattle.plain.proofs.tried.give.Goals.{After-prefix}

small : (c : After-prefix) → Small c.prefix.result.now c.args.i
small c = rw c.prefix.ensures (word_small _ _ c.requires.ready)

pub bounds-prefix-i : goal.bounds-prefix-i
bounds-prefix-i c = (small c).inside

pub value_of-requires : goal.value_of-requires
value_of-requires c =
    let word : SFits w32 (get_or c.prefix.result.now c.args.i (pos 0)) = search rules in
    rw to_z-of_z (small (goal.at.value_of-requires c).After-prefix).small

pub returns : goal.returns
returns c =
    let word : SFits w32 (get_or c.prefix.result.now c.args.i (pos 0)) = search rules in
    let value : SFits w32 c.value_of.result = search rules in
    let m = c.requires.ready.most in
    let f = c.requires.ready.few in
    given _ _ (omega arith) c.requires.values_len _ _
    (to_z-of_z w32 _ value ∙ c.value_of.ensures ∙ ap (value_of c.args.second) (to_z-of_z w32 _ word) ∙ ap (λ (ws : List ℤ). value_of c.args.second (get_or ws c.args.i (pos 0))) c.prefix.ensures)
