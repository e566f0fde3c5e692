-- Each literal's status says what it is, and its place and its variable lie in the tables.
use Rattle.std.proofs.Common.{◌∙◌, ◌≡◌, ap, arith, rules, get_or, pos, nat_abs, w32, FitsSigned}
use mir.ValLaws.{to_z-of_z}
use Rattle.formula.specs.Laws.Limits.{variables_are}
use Rattle.tables.specs.Inner.ByLiteral.{status_in}
use Rattle.counted.proofs.Passing.{look_begin, look_open, look_universal, look_other, unit_hit, unit_miss}
use Rattle.counted.proofs.unit.unit_literal.Goals as goal
use Rattle.counted.proofs.unit.unit_literal.Goals.{After-status, in-2, in-3, in_default}

-- the literal of this turn and its status
module _ (c : After-status) where
  word_fits : FitsSigned w32 (get_or c.args.clause.now c.loop-word.word-index (pos 0))
  word_fits = search rules

  status_is : c.status.result ≡ status_in c.args.statuses.now (get_or c.args.clause.now c.loop-word.word-index (pos 0))
  status_is = c.status.ensures ∙ ap (status_in c.args.statuses.now) (to_z-of_z w32 _ word_fits)

pub bounds-levels-size : goal.bounds-levels-size
bounds-levels-size c =
    let is = c.size.ensures ∙ ap nat_abs (to_z-of_z w32 _ (word_fits (goal.at.bounds-levels-size c).After-status)) in
    omega (arith, variables_are, c.requires c.loop-word.word-index)

pub loop-word-init : goal.loop-word-init
loop-word-init c = look_begin _ _ _

pub loop-word-preserved : goal.loop-word-preserved
loop-word-preserved c =
    let at = (goal.at.loop-word-preserved c).After-status in
    elim c.match-status.branch [
      | in-2 w ↦ rw (w.open-is, w.above-is, to_z-of_z w32 _ (word_fits at)) (look_open _ _ _ _ _ _ c.loop-word.invariant c.loop-word-test.true _ (status_is at) w.in-2.is (c.requires _))
      | in-3 w ↦
          let is = w.size.ensures ∙ ap nat_abs (to_z-of_z w32 _ (word_fits at)) in
          rw (w.open-is, w.above-is, w.min-above.ensures, is) (look_universal _ _ _ _ _ _ c.loop-word.invariant c.loop-word-test.true _ (status_is at) w.in-3.is)
      | in_default w ↦ rw (w.open-is, w.above-is) (look_other _ _ _ _ _ _ c.loop-word.invariant c.loop-word-test.true _ (status_is at) (λ e. omega arith) (λ e. omega arith))
    ]

pub bounds-levels-size-2 : goal.bounds-levels-size-2
bounds-levels-size-2 c =
    let word : FitsSigned w32 c.loop-word.open.0 = search rules in
    omega (arith, c.size-2.ensures ∙ ap nat_abs (to_z-of_z w32 _ word), variables_are, c.loop-word.invariant.small)

pub returns-then-levels-size : goal.returns-then-levels-size
returns-then-levels-size c =
    let word : FitsSigned w32 c.loop-word.open.0 = search rules in
    unit_hit _ c.args.levels.now _ _ _ _ _ c.loop-word.invariant c.loop-word-test.false (c.size-2.ensures ∙ ap nat_abs (to_z-of_z w32 _ word)) c.if-levels-size.true

pub returns-else-levels-size : goal.returns-else-levels-size
returns-else-levels-size c =
    let word : FitsSigned w32 c.loop-word.open.0 = search rules in
    unit_miss _ c.args.levels.now _ _ _ _ _ c.loop-word.invariant c.loop-word-test.false (c.size-2.ensures ∙ ap nat_abs (to_z-of_z w32 _ word)) c.if-levels-size.false
