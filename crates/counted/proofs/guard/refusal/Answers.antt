-- One way out for each part of the table.
use Rattle.std.specs.Prelude.{◌≡◌}
use Rattle.std.proofs.Common.{◌∙◌, ap, arith, sym, refl}
use Rattle.std.proofs.lemmas.Result.{err_from_is_err_and}
use Rattle.formula.specs.Limits.{limits}
use Rattle.formula.specs.Check.{checked_of}
use Rattle.formula.specs.Laws.Check.{checked_accepted, checked_some}
use Rattle.memory.specs.Memory.{memory}
use Rattle.session.specs.Inner.Guards.{session_refusal}
use Rattle.counted.specs.Inner.Guards.{early}
use Rattle.counted.proofs.Laws.Guards.{refused_early, block_passes, refused_cramped, refused_late, refused_last, refused_not}
use Rattle.counted.proofs.guard.refusal.Goals as goal
use Rattle.counted.proofs.guard.refusal.Goals.{After-is_early}

-- whether the number of the rows that a run has too is an early one
module _ (c : After-is_early) where
  early_is : c.is_early.result ≡ early (session_refusal limits c.args.session c.args.block.now (memory c.args.lits.now c.args.kinds.now c.args.reasons.now) c.args.seen)
  early_is = c.is_early.ensures _ c.session_refusal-asked.ensures

pub returns-then-is_early : goal.returns-then-is_early
returns-then-is_early c =
    let early = sym (early_is (goal.at.returns-then-is_early c).After-is_early) ∙ c.if-is_early.true in
    c.session_refusal-asked.ensures ∙ ap checked_of (refused_early limits _ _ _ _ _ refl early)

pub is_cramped-requires : goal.is_cramped-requires
is_cramped-requires c =
    let late = sym (early_is (goal.at.is_cramped-requires c).After-is_early) ∙ c.if-is_early.false in
    block_passes limits _ _ _ _ refl late

pub returns-then-is_cramped : goal.returns-then-is_cramped
unfolding checked_of
returns-then-is_cramped c =
    let late = sym (early_is (goal.at.returns-then-is_cramped c).After-is_early) ∙ c.if-is_early.false in
    ap checked_of (refused_cramped limits _ _ _ _ _ refl late c.is_cramped.ensures c.if-is_cramped.true)

pub returns-in_err-asked : goal.returns-in_err-asked
returns-in_err-asked c =
    let late = sym (early_is (goal.at.returns-in_err-asked c).After-is_early) ∙ c.if-is_early.false in
    let p = err_from_is_err_and c.from_residual.result c.from_residual.ensures.1 in
    let is = sym c.in_err-asked.was ∙ c.session_refusal-asked.ensures in
    rw (p.1, p.2) (is ∙ ap checked_of (refused_late limits _ _ _ _ _ refl late c.is_cramped.ensures c.if-is_cramped.false (checked_some _ _ is)))

pub returns-then-session-from : goal.returns-then-session-from
unfolding checked_of
returns-then-session-from c =
    let late = sym (early_is (goal.at.returns-then-session-from c).After-is_early) ∙ c.if-is_early.false in
    let passed = checked_accepted _ _ (sym c.in_ok-asked.was ∙ c.session_refusal-asked.ensures) in
    ap checked_of (refused_last limits _ _ _ _ _ refl late c.is_cramped.ensures c.if-is_cramped.false passed (omega (arith, c.from.ensures, c.if-session-from.true)))

pub returns : goal.returns
unfolding checked_of
returns c =
    let late = sym (early_is (goal.at.returns c).After-is_early) ∙ c.if-is_early.false in
    let passed = checked_accepted _ _ (sym c.in_ok-asked.was ∙ c.session_refusal-asked.ensures) in
    ap checked_of (refused_not limits _ _ _ _ _ refl late c.is_cramped.ensures c.if-is_cramped.false passed (omega (arith, c.well_formed)) (omega (arith, c.from.ensures, c.if-session-from.false)))
