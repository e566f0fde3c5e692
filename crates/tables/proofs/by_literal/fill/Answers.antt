-- A word's variable has two places, and its turn writes what both of its literals are.
use Rattle.std.proofs.Common.{◌≤◌, get_or, pos, rules, refl, arith}
use mir.Syntax.{w32}
use mir.Val.{SFits}
use Rattle.formula.specs.Limits.{max_variables}
use Rattle.record.proofs.Laws.Filled.{size_read, sign_read}
use Rattle.tables.proofs.Stated.{stated_begin, variable_small, stated_turn, stated_end}
use Rattle.tables.proofs.by_literal.fill.Goals as goal
use Rattle.tables.proofs.by_literal.fill.Goals.{After-size-v}

pub loop-word-init : goal.loop-word-init
loop-word-init c = stated_begin _ _ _ c.requires.blank

-- a word's variable has a place
small : (c : After-size-v) → c.size-v.result ≤ max_variables
small c =
    let word : SFits w32 (get_or c.args.prefix.now c.loop-word.word-index (pos 0)) = search rules in
    variable_small _ _ _ _ c.loop-word.invariant c.requires.bound c.loop-word-test.true _ (size_read _ word c.size-v.ensures) _ refl

pub bounds-values-v : goal.bounds-values-v
bounds-values-v c = omega (arith, small (goal.at.bounds-values-v c).After-size-v)

pub bounds-statuses-v : goal.bounds-statuses-v
bounds-statuses-v c = omega (arith, small (goal.at.bounds-statuses-v c).After-size-v)

pub overflow_sub-statuses : goal.overflow_sub-statuses
overflow_sub-statuses c = omega (arith, small (goal.at.overflow_sub-statuses c).After-size-v)

pub loop-word-preserved : goal.loop-word-preserved
loop-word-preserved c =
    let word : SFits w32 (get_or c.args.prefix.now c.loop-word.word-index (pos 0)) = search rules in
    stated_turn _ _ _ _ c.loop-word.invariant c.requires.bound c.loop-word-test.true _ (size_read _ word c.size-v.ensures) _ (sign_read _ word c.sign-quantifier.ensures) _ _ c.status_of.ensures
    c.status_of-in-loop-word.ensures

pub returns : goal.returns
returns c = stated_end _ _ _ _ c.loop-word.invariant c.loop-word-test.false
