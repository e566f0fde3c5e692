-- A refused call returns before anything is written; else the first V places are wiped, and there are as many.
use Rattle.std.proofs.lemmas.Result.{err_from_is_err_and}
use Rattle.session.proofs.Exits.{open_stops, open_clears}
use Rattle.session.proofs.open.Goals as goal

pub returns-in_err-open_refusal : goal.returns-in_err-open_refusal
returns-in_err-open_refusal c =
    let p = err_from_is_err_and c.from_residual.result c.from_residual.ensures.1 in
    rw (p.1, p.2) (open_stops _ _ _ c.places.ensures _ c.in_err-open_refusal.ensures)

pub returns : goal.returns
returns c = open_clears _ _ _ c.places.ensures _ c.in_ok-open_refusal.ensures c.size_at-n.ensures c.clear.ensures c.wipe.ensures
