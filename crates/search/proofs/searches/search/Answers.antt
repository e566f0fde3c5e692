-- Each round is a step of the run; where it has ended, or the budget is used, the steps made are the run.
use Rattle.std.proofs.Common.{◌∙◌, refl, arith}
use Rattle.words.specs.Outcomes.{same_answer, same_memory, both_same}
use Rattle.search.proofs.Laws.Rounds.{begun, ended, more, used}
use Rattle.search.proofs.searches.search.Goals as goal

pub loop-steps-init : goal.loop-steps-init
loop-steps-init c = record { round = begun c.requires _ _; block = refl; levels = refl; statuses = refl }

pub returns-then-is_over-clause-search : goal.returns-then-is_over-clause-search
returns-then-is_over-clause-search c =
    let (led, why) = ended c.loop-steps.invariant.round c.is_over.ensures c.if-is_over.true in
    (both_same led c.loop-steps.invariant.statuses, why)

pub advance-next-requires : goal.advance-next-requires
advance-next-requires c = rw c.loop-steps.invariant.block c.loop-steps.invariant.round.on

pub loop-steps-preserved : goal.loop-steps-preserved
loop-steps-preserved c =
    let i = c.loop-steps.invariant in
    let e = c.advance-next.ensures in
    let led = rw i.block at e.search in
    let why = rw i.block at e.reasons in
    record {
      round = more i.round c.loop-steps-test.true c.is_over.ensures c.if-is_over.false (same_answer led, why);
      block = e.block ∙ i.block;
      levels = e.levels ∙ i.levels;
      statuses = same_memory e.search ∙ i.statuses;
    }

pub returns-clause-search : goal.returns-clause-search
returns-clause-search c = let (led, why) = used c.loop-steps.invariant.round (omega arith) in (both_same led c.loop-steps.invariant.statuses, why)
