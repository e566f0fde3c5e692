-- Rows 1 to 11 first; where they pass, the words that are lent are the prefix.
use Rattle.std.proofs.lemmas.Result.{err_from_is_err_and}
use Rattle.listing.proofs.Guards.{page_buffers, page_openings}
use Rattle.listing.proofs.guard.page_refusal.Goals as goal

pub returns-in_err-open_refusal : goal.returns-in_err-open_refusal
returns-in_err-open_refusal c =
    let p = err_from_is_err_and c.from_residual.result c.from_residual.ensures.1 in
    rw (p.1, p.2) (page_buffers _ _ _ c.record_places.ensures _ c.in_err-open_refusal.ensures)

pub returns : goal.returns
returns c = page_openings _ _ _ c.record_places.ensures _ c.in_ok-open_refusal.ensures c.prefix.ensures c.openings_refusal.ensures
