-- The block's refusal is the call's, whatever stands behind its rows; of an accepted block row 11 decides.
use Rattle.std.proofs.lemmas.Result.{err_from_is_err_and}
use Rattle.memory.proofs.Guards.{block_refused, buffers_short, buffers_pass}
use Rattle.memory.proofs.buffers.open_refusal.Goals as goal

pub returns-in_err-check : goal.returns-in_err-check
returns-in_err-check c =
    let p = err_from_is_err_and c.from_residual.result c.from_residual.ensures.1 in
    rw (p.1, p.2) (block_refused _ _ _ c.in_err-check.ensures)

pub returns-then-places-size_at : goal.returns-then-places-size_at
returns-then-places-size_at c = buffers_short _ _ _ c.in_ok-check.ensures c.size_at.ensures c.if-places-size_at.true

pub returns : goal.returns
returns c = buffers_pass _ _ _ c.in_ok-check.ensures c.size_at.ensures c.if-places-size_at.false
