-- Each turn counts the next clause; in the end none is left.
use Rattle.formula.specs.Formula.{clauses_from}
use Rattle.clauses.proofs.Laws.Walk.{clauses_placed}
use Rattle.rules.proofs.Occurring.{count_begin, count_placed, count_next, count_end}
use Rattle.rules.proofs.occurrences.occurring.Goals as goal

pub loop-clause-init : goal.loop-clause-init
loop-clause-init c =
    rw (c.into_iter-clause-iterator.ensures.into_iter_gives, c.of-clause-items.ensures)
    (count_begin _ (clauses_from c.args.literals.now 0 c.args.ends.now) (clauses_placed _ c.requires.placed 0 _))

pub count-requires-clause-placed : goal.count-requires-clause-placed
count-requires-clause-placed c = count_placed _ _ _ _ c.loop-clause.invariant _ _ c.in-Some.ensures.steps

pub loop-clause-preserved : goal.loop-clause-preserved
loop-clause-preserved c = count_next _ _ _ _ c.loop-clause.invariant _ _ c.in-Some.ensures.steps _ c.count.ensures

pub returns : goal.returns
returns c = count_end _ _ _ _ c.loop-clause.invariant c.in-None.ensures.steps.0
