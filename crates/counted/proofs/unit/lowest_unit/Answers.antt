-- A clause of another key is no unit clause, and of key 1 its one open literal decides.
use Rattle.std.specs.Prelude.{◌-◌, ◌≤◌, ◌≡◌, [], length, get_or, take, drop}
use Rattle.std.proofs.Common.{◌∙◌, arith, rules, sym}
use Rattle.formula.specs.Formula.{clauses_from}
use Rattle.formula.specs.Laws.Ends.{good_at}
use Rattle.counted.proofs.Laws.Lowest.{clause_taken, units_begin, units_found, units_next, units_none, units_past}
use Rattle.counted.proofs.unit.lowest_unit.Goals as goal
use Rattle.counted.proofs.unit.lowest_unit.Goals.{After-size_at}

-- the clause of this turn
module _ (c : After-size_at) where
  starts : c.clause_start.result ≤ c.size_at.result
  starts = let g = good_at (length c.args.words.now) c.args.ends.now c.requires.clauses.ends c.loop-c.c c.loop-c-test.true in omega (arith, g.rises, c.clause_start.ensures, c.size_at.ensures)

  stops : c.size_at.result ≤ length c.args.words.now
  stops = let g = good_at (length c.args.words.now) c.args.ends.now c.requires.clauses.ends c.loop-c.c c.loop-c-test.true in omega (arith, g.fits, c.size_at.ensures)

  clause_is : take (c.size_at.result - c.clause_start.result) (drop c.clause_start.result c.args.words.now) ≡ get_or (clauses_from c.args.words.now 0 c.args.ends.now) c.loop-c.c []
  clause_is = clause_taken _ _ _ _ _ c.loop-c-test.true c.clause_start.ensures c.size_at.ensures

pub loop-c-init : goal.loop-c-init
loop-c-init c x = units_begin _ _ _ _ _ _ _ x

pub loop-c-preserved-then-key-ne1 : goal.loop-c-preserved-then-key-ne1
loop-c-preserved-then-key-ne1 c x = units_past _ _ _ _ _ _ _ x _ (c.loop-c.invariant x) c.loop-c-test.true (λ e. c.if-key-ne1.true (c.key.ensures ∙ e))

pub offset_bounds-words-clause_start : goal.offset_bounds-words-clause_start
offset_bounds-words-clause_start c = let h = starts (goal.at.offset_bounds-words-clause_start c).After-size_at in let k = stops (goal.at.offset_bounds-words-clause_start c).After-size_at in search rules

pub slice_bounds-clause-count : goal.slice_bounds-clause-count
slice_bounds-clause-count c = starts (goal.at.slice_bounds-clause-count c).After-size_at

pub slice_bounds-clause-start : goal.slice_bounds-clause-start
slice_bounds-clause-start c = starts (goal.at.slice_bounds-clause-start c).After-size_at

pub slice_bounds-clause-end : goal.slice_bounds-clause-end
slice_bounds-clause-end c = stops (goal.at.slice_bounds-clause-end c).After-size_at

pub returns-in-Some : goal.returns-in-Some
returns-in-Some c x = units_found _ _ _ _ _ _ _ x _ (c.loop-c.invariant x) c.loop-c-test.true (sym c.key.ensures ∙ c.if-key-ne1.false) _ (clause_is (goal.at.returns-in-Some c).After-size_at) _ (sym c.in-Some.ensures)

pub loop-c-preserved : goal.loop-c-preserved
loop-c-preserved c x = units_next _ _ _ _ _ _ _ x _ (c.loop-c.invariant x) c.loop-c-test.true (sym c.key.ensures ∙ c.if-key-ne1.false) _ (clause_is (goal.at.loop-c-preserved c).After-size_at) (sym c.in_default.ensures)

pub returns : goal.returns
returns c x = units_none _ _ _ _ _ _ _ x _ (c.loop-c.invariant x) c.loop-c-test.false
