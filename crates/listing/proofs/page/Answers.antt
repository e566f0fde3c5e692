-- A refused page returns before anything is written; else its openings are searched, and then the first V places are wiped.
use Rattle.std.proofs.lemmas.Result.{err_from_is_err_and}
use Rattle.listing.proofs.Pages.{refuses, on_page, cleans}
use Rattle.listing.proofs.page.Goals as goal

pub returns-in_err-page_refusal : goal.returns-in_err-page_refusal
returns-in_err-page_refusal c =
    let p = err_from_is_err_and c.from_residual.result c.from_residual.ensures.1 in
    rw (p.1, p.2) (refuses _ _ _ _ _ _ c.in_err-page_refusal.ensures)

pub fill-page-requires : goal.fill-page-requires
fill-page-requires c = on_page _ _ _ _ c.in_ok-page_refusal.ensures c.prefix.ensures c.first_group-k.ensures

pub returns : goal.returns
returns c = cleans _ _ _ _ c.in_ok-page_refusal.ensures c.size_at.ensures _ _ _ c.fill-page.ensures c.clear.ensures
