-- A literal's place and its opposite's are within the table; a marked place of the opposite is row 10, a marked one of its own is row 23.
use Rattle.std.proofs.Common.{◌≡◌, ◌≤◌, ◌+◌, ◌-◌, ◌*◌, rules, get_or, pos, nat_abs, ap, ◌∙◌, arith, w32, FitsSigned}
use mir.ValLaws.{to_z-of_z}
use Rattle.formula.specs.Limits.{limits}
use Rattle.formula.specs.Laws.Limits.{variables_are}
use Rattle.formula.specs.Inner.Places.{place_of}
use Rattle.formula.proofs.Stamped.{own_within, begin, hit, more, end}
use Rattle.formula.proofs.marks.pair_in.Goals as goal
use Rattle.formula.proofs.marks.pair_in.Goals.{After-place-own}

-- the literal of this turn is the one before the i-th and names a variable, and the constant is the limit
module _ (c : After-place-own) where
  step : c.loop-i.i - 1 + 1 ≡ c.loop-i.i
  step = omega arith

  small : nat_abs (get_or c.args.clause.now (c.loop-i.i - 1) (pos 0)) ≤ limits.variables
  small = (c.requires.all_named.at (c.loop-i.i - 1) (omega (arith, c.loop-i.invariant.at))).most

  own-is : c.place-own.result ≡ place_of (get_or c.args.clause.now (c.loop-i.i - 1) (pos 0))
  own-is =
      let word : FitsSigned w32 (get_or c.args.clause.now (c.loop-i.i - 1) (pos 0)) = search rules in
      c.place-own.ensures ∙ ap place_of (to_z-of_z w32 _ word)

  other-is : 2048 - c.place-own.result ≡ 2 * limits.variables - c.place-own.result
  other-is = omega (arith, variables_are)

pub loop-i-init : goal.loop-i-init
loop-i-init c = begin _ _ _ c.requires.fresh

pub prove-unreachable-requires : goal.prove-unreachable-requires
prove-unreachable-requires c =
    let at = (goal.at.prove-unreachable-requires c).After-place-own in
    omega (arith, own_within _ (small at) _ (own-is at))

pub returns-then-opposite-clause-value : goal.returns-then-opposite-clause-value
returns-then-opposite-clause-value c =
    let at = (goal.at.returns-then-opposite-clause-value c).After-place-own in
    hit _ _ _ _ _ c.loop-i.invariant _ (step at) (small at) _ (own-is at) _ (other-is at) c.if-opposite.true

pub loop-i-preserved : goal.loop-i-preserved
loop-i-preserved c =
    let at = (goal.at.loop-i-preserved c).After-place-own in
    more _ _ _ _ _ c.loop-i.invariant _ (step at) (small at) _ (own-is at) _ (other-is at) c.if-opposite.false

pub returns-clause-value : goal.returns-clause-value
returns-clause-value c = end _ _ _ _ _ c.loop-i.invariant (omega arith)
