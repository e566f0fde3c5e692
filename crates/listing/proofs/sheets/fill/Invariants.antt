-- At the opening n the entries so far are the definition's, and the page has neither paused nor gone past it.
use Rattle.std.proofs.Common.{◌≡◌, false, length}
use Rattle.formula.specs.Limits.{max_variables}
use Rattle.record.specs.Trail.{trail}
use Rattle.listing.specs.Page.{page_memory, page_at}
use Rattle.listing.proofs.Pages.{Round}
use Rattle.listing.proofs.sheets.fill.Given as goal

abbrev pub invariant-loop-n : goal.invariant-loop-n
invariant-loop-n l = record {
  round : Round l.block (page_memory l.fn.lits l.fn.kinds l.fn.output) l.k l.start l.preferred l.budget l.n-end l.n l.page.entries (trail l.lits l.kinds) l.output;
  page : l.page ≡ page_at l.n l.page.entries false;
  block : l.tables.block.now ≡ l.block;
  reasons : length l.reasons ≡ max_variables;
}
