-- Each number of the clause can move, so the clause has its numbers after this turn.
use Rattle.std.proofs.Common.{arith}
use Rattle.formula.specs.Laws.Limits.{literals_are}
use Rattle.counted.proofs.Walking.{move_enough, move_inside, move_small, walk_begin, walk_end, walk_turn}
use Rattle.counted.proofs.walk.renumber.Goals as goal

pub bounds-trues-c : goal.bounds-trues-c
bounds-trues-c c = move_inside _ _ _ _ c.requires.of_trues _ _ c.loop-c.invariant.trues c.loop-c-test.true

pub overflow_add-t : goal.overflow_add-t
overflow_add-t c = omega (arith, move_small _ _ _ _ c.requires.of_trues _ _ c.loop-c.invariant.trues c.loop-c-test.true, literals_are)

pub overflow_sub-t : goal.overflow_sub-t
overflow_sub-t c = move_enough _ _ _ _ c.requires.of_trues _ _ c.loop-c.invariant.trues c.loop-c-test.true

pub bounds-trues-c-in-loop-c : goal.bounds-trues-c-in-loop-c
bounds-trues-c-in-loop-c c = move_inside _ _ _ _ c.requires.of_trues _ _ c.loop-c.invariant.trues c.loop-c-test.true

pub bounds-opens-c : goal.bounds-opens-c
bounds-opens-c c = move_inside _ _ _ _ c.requires.of_opens _ _ c.loop-c.invariant.opens c.loop-c-test.true

pub overflow_add-o : goal.overflow_add-o
overflow_add-o c = omega (arith, move_small _ _ _ _ c.requires.of_opens _ _ c.loop-c.invariant.opens c.loop-c-test.true, literals_are)

pub overflow_sub-o : goal.overflow_sub-o
overflow_sub-o c = move_enough _ _ _ _ c.requires.of_opens _ _ c.loop-c.invariant.opens c.loop-c-test.true

pub bounds-opens-c-in-loop-c : goal.bounds-opens-c-in-loop-c
bounds-opens-c-in-loop-c c = move_inside _ _ _ _ c.requires.of_opens _ _ c.loop-c.invariant.opens c.loop-c-test.true

pub loop-c-init : goal.loop-c-init
loop-c-init c = walk_begin _ _ _ _ _ _

pub loop-c-preserved : goal.loop-c-preserved
loop-c-preserved c = walk_turn _ _ _ _ _ _ c.requires.of_trues c.requires.of_opens _ _ _ _ c.loop-c.invariant c.loop-c-test.true _ c.key.ensures _ c.lowered-bounds.ensures

pub returns : goal.returns
returns c = walk_end _ _ _ _ _ _ _ _ _ _ c.loop-c-test.false c.loop-c.invariant
