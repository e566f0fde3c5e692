-- A variable that is picked is the next of those that are left; at the end none is.
use Rattle.std.proofs.Common.{sym, ◌∙◌, arith, rules}
use Rattle.formula.specs.Laws.Limits.{variables_small}
use Rattle.laid.specs.Laws.Marks.{left_room, left_yes, left_no, left_ended}
use Rattle.laid.proofs.Words.{word}
use Rattle.laid.proofs.prefix.write_those.Goals as goal
use Rattle.laid.proofs.prefix.write_those.Goals.{then-picks, else-picks}

pub bounds-output-at : goal.bounds-output-at
bounds-output-at c = omega (arith, left_room c.loop-v.invariant c.loop-v-test.true (sym c.picks.ensures ∙ c.if-picks.true), c.requires.n_in_bounds)

pub loop-v-preserved : goal.loop-v-preserved
loop-v-preserved c =
    elim c.if-picks.branch [
      | then-picks w ↦ left_yes c.loop-v.invariant c.loop-v-test.true (sym c.picks.ensures ∙ w.if-picks.true) w.at-is (w.output-is ∙ search (rules, variables_small, word))
      | else-picks w ↦ left_no c.loop-v.invariant c.loop-v-test.true (sym c.picks.ensures ∙ w.if-picks.false) w.at-is w.output-is
    ]

pub returns : goal.returns
returns c = left_ended c.loop-v.invariant (c.loop-v-test.false)

pub returns-after-picks : goal.returns-after-picks
returns-after-picks c =
    elim c.if-picks.branch [
      | then-picks w ↦ left_ended (left_yes c.loop-v.invariant c.loop-v-test.true (sym c.picks.ensures ∙ w.if-picks.true) w.at-is (w.output-is ∙ search (rules, variables_small, word))) (omega arith)
      | else-picks w ↦ left_ended (left_no c.loop-v.invariant c.loop-v-test.true (sym c.picks.ensures ∙ w.if-picks.false) w.at-is w.output-is) (omega arith)
    ]
