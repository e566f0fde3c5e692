-- The first unassigned variable, or none, picks the case; a variable of the prefix has a place.
use Rattle.std.proofs.Common.{◌≡◌, ◌∙◌, sym, length, nat_abs, rules, arith}
use mir.Syntax.{w32}
use mir.Val.{SFits}
use Rattle.formula.specs.Laws.Limits.{variables_are}
use Rattle.formula.specs.Laws.Named.{in_named}
use Rattle.record.proofs.Laws.Filled.{size_read}
use Rattle.choice.specs.Inner.Variables.{lowest_in}
use Rattle.choice.specs.Laws.VariablesMean.{unassigned_in_lem}
use Rattle.choice.proofs.open.lowest_level.Goals as goal
use Rattle.choice.proofs.open.lowest_level.Goals.{After-size}

-- the variable is the literal's
sized : (c : After-size) → c.size.result ≡ nat_abs c.in-Some.first.0
sized c =
    let word : SFits w32 c.in-Some.first.0 = search rules in
    size_read _ word c.size.ensures

pub bounds-levels-size : goal.bounds-levels-size
bounds-levels-size c =
    let (q, i, e) = unassigned_in_lem _ _ _ (sym c.first_unassigned.ensures ∙ c.in-Some.is) in
    let n = in_named (length c.args.prefix.now) _ c.requires.binds.named i in
    omega (arith, sized (goal.at.bounds-levels-size c).After-size, e, n.most, c.requires.room, variables_are)

pub returns-in-Some : goal.returns-in-Some
unfolding lowest_in
returns-in-Some c = rw (← c.first_unassigned.ensures, c.in-Some.is, sized (goal.at.returns-in-Some c).After-size)

pub returns-in-None : goal.returns-in-None
unfolding lowest_in
returns-in-None c = rw (← c.first_unassigned.ensures, c.in-None.is)
