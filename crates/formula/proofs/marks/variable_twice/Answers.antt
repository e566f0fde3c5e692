-- A word over the table's size is answered at once, and one whose variable is marked too; any other marks its variable.
use Rattle.std.proofs.Common.{◌≡◌, ◌+◌, ◌-◌, rules, get_or, pos, nat_abs, ap, ◌∙◌, arith, w32, FitsSigned}
use mir.ValLaws.{to_z-of_z}
use Rattle.formula.specs.Laws.Limits.{variables_are}
use Rattle.formula.proofs.Seen.{begin, large, hit, more, end}
use Rattle.formula.proofs.marks.variable_twice.Goals as goal
use Rattle.formula.proofs.marks.variable_twice.Goals.{After-size-v, then-v-gt-MAX_VARIABLES-via-then-v-gt-MAX_VARIABLES, then-v-gt-MAX_VARIABLES-via-else-v-gt-MAX_VARIABLES+then-seen-v}

-- the word of this turn is the one before the i-th
module _ (c : After-size-v) where
  step : c.loop-i.i - 1 + 1 ≡ c.loop-i.i
  step = omega arith

  v-is : c.size-v.result ≡ nat_abs (get_or c.args.ws.now (c.loop-i.i - 1) (pos 0))
  v-is =
      let word : FitsSigned w32 (get_or c.args.ws.now (c.loop-i.i - 1) (pos 0)) = search rules in
      c.size-v.ensures ∙ ap nat_abs (to_z-of_z w32 _ word)

pub loop-i-init : goal.loop-i-init
loop-i-init c = rw variables_are (begin c.args.ws.now _)

pub returns-then-v-gt-MAX_VARIABLES : goal.returns-then-v-gt-MAX_VARIABLES
returns-then-v-gt-MAX_VARIABLES c =
    let at = (goal.at.returns-then-v-gt-MAX_VARIABLES c).After-size-v in
    elim c.then-v-gt-MAX_VARIABLES.branch [
      | then-v-gt-MAX_VARIABLES-via-then-v-gt-MAX_VARIABLES w ↦ large _ _ _ _ c.loop-i.invariant _ (step at) _ (v-is at) (rw variables_are w.if-v-gt-MAX_VARIABLES.true)
      | then-v-gt-MAX_VARIABLES-via-else-v-gt-MAX_VARIABLES+then-seen-v w ↦ hit _ _ _ _ c.loop-i.invariant _ (step at) _ (v-is at) w.if-seen-v.true
    ]

pub loop-i-preserved : goal.loop-i-preserved
loop-i-preserved c =
    let at = (goal.at.loop-i-preserved c).After-size-v in
    more _ _ _ _ c.loop-i.invariant _ (step at) _ (v-is at) c.if-seen-v.false (rw variables_are c.if-v-gt-MAX_VARIABLES.false)

pub returns : goal.returns
returns c = end _ _ _ _ c.loop-i.invariant (omega arith)
