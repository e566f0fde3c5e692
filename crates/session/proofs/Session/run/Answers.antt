-- A way out for each part of the table; after its last row the search goes on for as many steps as it answers.
use Rattle.std.proofs.Common.{arith}
use Rattle.std.proofs.lemmas.Result.{err_from_is_err_and}
use Rattle.words.specs.Outcomes.{same_answer}
use Rattle.search.proofs.Laws.Rounds.{steps_within}
use Rattle.session.specs.Laws.Exits.{run_stops, run_over, run_moves}
use Rattle.session.proofs.Exits.{none_shared, shared, on_memory}
use Rattle.session.proofs.Session.run.Goals as goal

pub returns-in_err-session_refusal : goal.returns-in_err-session_refusal
returns-in_err-session_refusal c =
    let p = err_from_is_err_and c.from_residual.result c.from_residual.ensures.1 in
    rw (p.1, p.2) (run_stops _ _ _ _ _ _ _ c.in_err-session_refusal.ensures)

pub returns-then-most-from : goal.returns-then-most-from
returns-then-most-from c = run_over _ _ _ _ _ _ (none_shared _ _ _ _ _ c.in_ok-session_refusal.ensures) (omega arith)

pub of-tables-requires : goal.of-tables-requires
of-tables-requires c = (shared _ _ _ _ _ c.in_ok-session_refusal.ensures).on.block

pub search-found-requires : goal.search-found-requires
search-found-requires c = rw c.of-tables.ensures (on_memory _ _ _ _ _ c.in_ok-session_refusal.ensures)

pub overflow_add-revision : goal.overflow_add-revision
overflow_add-revision c =
    let run = rw c.of-tables.ensures at c.search-found.ensures.search.0 in
    let w = steps_within (shared _ _ _ _ _ c.in_ok-session_refusal.ensures).on c.args.budget c.args.preferred.now (same_answer run) in
    omega (arith, w)

pub returns : goal.returns
returns c =
    let run = rw c.of-tables.ensures at c.search-found.ensures.search.0 in
    let why = rw c.of-tables.ensures at c.search-found.ensures.search.1 in
    run_moves _ _ _ _ _ _ (none_shared _ _ _ _ _ c.in_ok-session_refusal.ensures) (omega arith) (omega arith) _ _ _ (same_answer run) _ _ why (rw c.from-2.ensures at c.moved.ensures)
