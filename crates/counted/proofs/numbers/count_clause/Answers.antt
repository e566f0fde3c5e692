-- What is counted and what is left make up the whole, so each sum is at most the clause's length.
use Rattle.std.proofs.Common.{◌∙◌, ◌≡◌, ap, arith, rules, get_or, pos, w32, FitsSigned}
use mir.ValLaws.{to_z-of_z}
use Rattle.formula.specs.Laws.Limits.{literals_are}
use Rattle.tables.specs.Inner.ByLiteral.{status_in}
use Rattle.counted.proofs.Tallied.{opens_small, tally_end, tally_turn, trues_small}
use Rattle.counted.proofs.numbers.count_clause.Goals as goal
use Rattle.counted.proofs.numbers.count_clause.Goals.{After-from-trues}

-- the status of this turn's literal
module _ (c : After-from-trues) where
  status_is : c.status-status.result ≡ status_in c.args.statuses.now (get_or c.args.clause.now c.loop-word.word-index (pos 0))
  status_is =
      let word : FitsSigned w32 (get_or c.args.clause.now c.loop-word.word-index (pos 0)) = search rules in
      c.status-status.ensures ∙ ap (status_in c.args.statuses.now) (to_z-of_z w32 _ word)

pub overflow_add-trues : goal.overflow_add-trues
overflow_add-trues c =
    let k = trues_small _ _ _ _ _ c.loop-word.invariant c.loop-word-test.true _ (status_is (goal.at.overflow_add-trues c).After-from-trues) _ c.from-trues.ensures in
    omega (arith, literals_are)

pub overflow_add-opens : goal.overflow_add-opens
overflow_add-opens c =
    let k = opens_small _ _ _ _ _ c.loop-word.invariant c.loop-word-test.true _ (status_is (goal.at.overflow_add-opens c).After-from-trues) _ c.from-opens.ensures in
    omega (arith, literals_are)

pub loop-word-preserved : goal.loop-word-preserved
loop-word-preserved c = tally_turn _ _ _ _ _ c.loop-word.invariant c.loop-word-test.true _ (status_is (goal.at.loop-word-preserved c).After-from-trues) _ _ c.from-trues.ensures c.from-opens.ensures

pub returns : goal.returns
returns c = tally_end _ _ _ _ _ c.loop-word.invariant c.loop-word-test.false
