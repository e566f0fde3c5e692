-- The variable itself, or its opposite.
use Rattle.std.proofs.Common.{◌≡◌, ap, ◌∙◌, arith}
use Rattle.std.proofs.lemmas.Int.{ints}
use lib.IntN.{pos, neg_ℤ, nat_abs, ◌-ℤ◌}
use mir.Syntax.{w32}
use mir.Val.{to_z, of_z}
use mir.ValLaws.{to_z-of_z}
use Rattle.formula.specs.Laws.Limits.{variables_are}
use Rattle.shown.proofs.Shows.{value_plus, value_minus}
use Rattle.shown.proofs.values.value_of.Goals as goal
use Rattle.shown.proofs.values.value_of.Goals.{After-size-v}

pub overflow_cast-literal : goal.overflow_cast-literal
overflow_cast-literal c = grind (arith, variables_are)

pub overflow_sub-result : goal.overflow_sub-result
overflow_sub-result c = grind (arith, variables_are)

-- the variable as a literal
module _ (c : After-size-v) where
  size_is : c.size-v.result ≡ nat_abs c.args.word
  size_is = c.size-v.ensures ∙ ap nat_abs (to_z-of_z w32 _ c.ranges.word)

  literal : to_z w32 c.size-v.result ≡ pos (nat_abs c.args.word)
  literal = let e = size_is in omega (arith, ints, variables_are, c.requires)

pub returns-then-is_true : goal.returns-then-is_true
returns-then-is_true c =
    let a = (goal.at.returns-then-is_true c).After-size-v in
    λ ρ t. literal a ∙ value_plus ρ c.args.clause.now c.args.word (size_is a) (c.is_true.ensures ρ t) c.if-is_true.true

pub returns-else-is_true : goal.returns-else-is_true
returns-else-is_true c =
    let a = (goal.at.returns-else-is_true c).After-size-v in
    let e = literal a in
    let opposite : to_z w32 (of_z w32 (pos 0 -ℤ to_z w32 c.size-v.result)) ≡ neg_ℤ (pos (nat_abs c.args.word)) = omega (arith, ints, variables_are, c.requires) in
    λ ρ t. opposite ∙ value_minus ρ c.args.clause.now c.args.word (size_is a) (c.is_true.ensures ρ t) c.if-is_true.false
