-- A word's variable is new, and has the level that the changes before it make; there are no more changes than words.
use Rattle.std.proofs.Common.{◌≡◌, ◌+◌, get_or, drop, pos, nat_abs, rules, arith}
use mir.Syntax.{w32}
use mir.Val.{SFits}
use Rattle.formula.specs.Laws.Limits.{variables_are}
use Rattle.formula.specs.Laws.Prefix.{change_few, fresh_at}
use Rattle.record.proofs.Laws.Filled.{size_read, placed, bound_named}
use Rattle.tables.proofs.Levelled.{begin, turn, end}
use Rattle.tables.proofs.by_variable.levels_of.Goals as goal
use Rattle.tables.proofs.by_variable.levels_of.Goals.{After-size}

pub loop-i-init : goal.loop-i-init
loop-i-init c = begin _

-- the variable of this turn
size_is : (c : After-size) → c.size.result ≡ nat_abs (get_or c.args.prefix.now c.loop-i.i (pos 0))
size_is c =
    let word : SFits w32 (get_or c.args.prefix.now c.loop-i.i (pos 0)) = search rules in
    size_read _ word c.size.ensures

pub bounds-levels-size : goal.bounds-levels-size
bounds-levels-size c = placed _ _ _ (bound_named c.requires) c.loop-i-test.true (size_is c)

pub overflow_add-level : goal.overflow_add-level
overflow_add-level c =
    let few = change_few (get_or c.args.prefix.now c.loop-i.i (pos 0)) (drop (c.loop-i.i + 1) c.args.prefix.now) in
    omega (arith, c.change_at-level.ensures, c.requires.room, variables_are)

pub loop-i-preserved : goal.loop-i-preserved
loop-i-preserved c =
    let is = size_is (goal.at.loop-i-preserved c).After-size in
    turn _ _ _ _ c.loop-i.invariant c.loop-i-test.true _ is (placed _ _ _ (bound_named c.requires) c.loop-i-test.true is) (fresh_at _ c.requires.binds.once _ c.loop-i-test.true) _ c.change_at-level.ensures

pub returns : goal.returns
returns c = end _ _ _ _ c.loop-i.invariant c.loop-i-test.false
