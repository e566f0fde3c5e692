-- Each literal of the clause has a place, and its turn marks that one alone.
use Rattle.std.proofs.Common.{◌≡◌, ◌∙◌, ap, get_or, pos, rules}
use mir.Syntax.{w32}
use mir.Val.{SFits}
use mir.ValLaws.{to_z-of_z}
use Rattle.formula.specs.Inner.Places.{place_of}
use Rattle.rules.proofs.Occurring.{mark_begin, mark_placed, mark_next, mark_end}
use Rattle.rules.proofs.occurrences.mark.Goals as goal
use Rattle.rules.proofs.occurrences.mark.Goals.{After-place}

pub loop-word-init : goal.loop-word-init
loop-word-init c = mark_begin _ _ c.requires.occurs_len

-- the place of this turn's literal
place_is : (c : After-place) → c.place.result ≡ place_of (get_or c.args.clause.now c.loop-word.word-index (pos 0))
place_is c =
    let word : SFits w32 (get_or c.args.clause.now c.loop-word.word-index (pos 0)) = search rules in
    c.place.ensures ∙ ap place_of (to_z-of_z w32 _ word)

pub bounds-occurs-place : goal.bounds-occurs-place
bounds-occurs-place c = mark_placed c.args.occurs.now _ c.requires.placed _ c.loop-word-test.true _ (place_is (goal.at.bounds-occurs-place c).After-place)

pub loop-word-preserved : goal.loop-word-preserved
loop-word-preserved c = mark_next c.args.occurs.now _ c.requires.placed _ c.loop-word-test.true _ (place_is (goal.at.loop-word-preserved c).After-place) _ c.loop-word.invariant

pub returns : goal.returns
returns c = mark_end _ _ _ _ c.loop-word.invariant c.loop-word-test.false
