-- A way out for each part of the table; after its last row the due rule is told and applied.
use Rattle.std.proofs.lemmas.Result.{err_from_is_err_and}
use Rattle.words.specs.Outcomes.{same_answer}
use Rattle.record.proofs.Laws.Accepted.{held_on}
use Rattle.search.proofs.Laws.Named.{fitting, tellable}
use Rattle.session.proofs.Exits.{shared, on_memory, step_stops, step_last, step_improper, step_moves}
use Rattle.session.proofs.Session.step.Goals as goal

pub returns-in_err-session_refusal : goal.returns-in_err-session_refusal
returns-in_err-session_refusal c =
    let p = err_from_is_err_and c.from_residual.result c.from_residual.ensures.1 in
    rw (p.1, p.2) (step_stops _ _ _ _ _ _ c.in_err-session_refusal.ensures)

pub returns-then-revision : goal.returns-then-revision
returns-then-revision c = step_last _ _ _ _ _ _ c.in_ok-session_refusal.ensures c.if-revision.true

pub of-tables-requires : goal.of-tables-requires
of-tables-requires c = (shared _ _ _ _ _ c.in_ok-session_refusal.ensures).on.block

pub due-rule-requires : goal.due-rule-requires
due-rule-requires c = rw c.of-tables.ensures (shared _ _ _ _ _ c.in_ok-session_refusal.ensures).on

pub proposal_refusal-requires : goal.proposal_refusal-requires
proposal_refusal-requires c = rw (c.due-rule.ensures.block, c.of-tables.ensures) (held_on _ _ _ (shared _ _ _ _ _ c.in_ok-session_refusal.ensures).on)

pub returns-in_err-proposal_refusal : goal.returns-in_err-proposal_refusal
returns-in_err-proposal_refusal c =
    let p = err_from_is_err_and c.from_residual-in_err-proposal_refusal.result c.from_residual-in_err-proposal_refusal.ensures.1 in
    let due = rw c.of-tables.ensures at c.due-rule.ensures.rule in
    let of = rw (c.due-rule.ensures.block, c.of-tables.ensures) at c.in_err-proposal_refusal.ensures in
    rw (p.1, p.2) (step_improper _ _ _ _ _ _ c.in_ok-session_refusal.ensures c.if-revision.false (same_answer due) _ of)

pub tell-reason-requires : goal.tell-reason-requires
tell-reason-requires c =
    let due = rw c.of-tables.ensures at c.due-rule.ensures.rule in
    rw (same_answer due) (tellable (on_memory _ _ _ _ _ c.in_ok-session_refusal.ensures))

pub apply-reached-requires-clause-on_block : goal.apply-reached-requires-clause-on_block
apply-reached-requires-clause-on_block c = (shared _ _ _ _ _ c.in_ok-session_refusal.ensures).on

pub apply-reached-requires-clause-fitting : goal.apply-reached-requires-clause-fitting
apply-reached-requires-clause-fitting c =
    let due = rw c.of-tables.ensures at c.due-rule.ensures.rule in
    rw (same_answer due) (fitting (shared _ _ _ _ _ c.in_ok-session_refusal.ensures).on)

pub returns : goal.returns
returns c =
    let due = rw c.of-tables.ensures at c.due-rule.ensures.rule in
    let of = rw (c.due-rule.ensures.block, c.of-tables.ensures) at c.in_ok-proposal_refusal.ensures in
    step_moves _ _ _ _ _ _ c.in_ok-session_refusal.ensures c.if-revision.false (same_answer due) _ of
    _ _ c.apply-reached.ensures c.moved.ensures _ _ c.tell-reason.ensures
