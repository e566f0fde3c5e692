-- A way out for a refused call, and one for the search.
use Rattle.std.proofs.Common.{arith, refl}
use Rattle.std.proofs.lemmas.Result.{err_from_is_err_and}
use Rattle.formula.specs.Laws.Check.{checked_accepted}
use Rattle.counted.proofs.Laws.Exits.{counted_stops, search_asks, revision_fits, counted_moves}
use Rattle.counted.proofs.run.Goals as goal

pub returns-in_err-refusal : goal.returns-in_err-refusal
returns-in_err-refusal c =
    let p = err_from_is_err_and c.from_residual.result c.from_residual.ensures.1 in
    rw (p.1, p.2) (counted_stops _ _ _ _ _ _ _ c.in_err-refusal.ensures)

pub search-found-requires : goal.search-found-requires
search-found-requires c = search_asks _ _ _ _ _ (checked_accepted _ _ c.in_ok-refusal.ensures)

pub overflow_add-result : goal.overflow_add-result
overflow_add-result c = omega (arith, c.from.ensures, revision_fits _ _ _ _ _ (checked_accepted _ _ c.in_ok-refusal.ensures) _ c.search-found.ensures.0)

pub returns : goal.returns
returns c = rw c.from.ensures (counted_moves _ _ _ _ _ (checked_accepted _ _ c.in_ok-refusal.ensures) _ c.search-found.ensures.0 _ c.search-found.ensures.1 refl)
