-- Each round is one of the definition's, whatever the searches before it left; each way out is where the definition stops.
use Rattle.std.proofs.Common.{ℕ, ap, refl, arith, ◌∙◌}
use Rattle.std.proofs.lemmas.List.{length-replicate}
use Rattle.formula.specs.Limits.{max_variables}
use Rattle.listing.specs.declared.sheets.Page.{Page}
use Rattle.listing.proofs.Pages.{begins, still_on, full, pauses, wins, loses, stops}
use Rattle.listing.proofs.sheets.fill.Goals as goal
use Rattle.listing.proofs.sheets.fill.Goals.{in-Valid, in-Unsat}

pub loop-n-init : goal.loop-n-init
loop-n-init c = record {
  round = begins _ _ _ _ _ _ _ c.requires c.count-n-end.ensures;
  page = refl;
  block = c.of.ensures;
  reasons = length-replicate {A = ℕ} max_variables 0;
}

pub returns-then-output-page : goal.returns-then-output-page
returns-then-output-page c = rw c.loop-n.invariant.page (full c.loop-n.invariant.round c.loop-n-test.true c.if-output-page.true)

pub try_opening-reached-requires-clause-on_group : goal.try_opening-reached-requires-clause-on_group
try_opening-reached-requires-clause-on_group c = rw c.loop-n.invariant.block (still_on c.loop-n.invariant.round)

pub returns-in-Open : goal.returns-in-Open
returns-in-Open c =
    rw (ap (λ (p : Page). p.next) c.loop-n.invariant.page)
    (pauses c.loop-n.invariant.round c.loop-n-test.true (omega arith) (rw c.loop-n.invariant.block at c.try_opening-reached.ensures.search) c.in-Open.is)

pub loop-n-preserved : goal.loop-n-preserved
loop-n-preserved c =
    let led = rw c.loop-n.invariant.block at c.try_opening-reached.ensures.search in
    let live = ap (λ (p : Page). p.paused) c.loop-n.invariant.page in
    elim c.match-reached.branch [
      | in-Valid w ↦ rw (w.page-is, w.output-is) (record {
        round = wins c.loop-n.invariant.round c.loop-n-test.true (omega arith) led w.in-Valid.is w.write_entry.ensures;
        page = rw live;
        block = c.try_opening-reached.ensures.block ∙ c.loop-n.invariant.block;
        reasons = c.try_opening-reached.ensures.reasons_len_2;
      })
      | in-Unsat w ↦ rw (w.page-is, w.output-is) (record {
        round = loses c.loop-n.invariant.round c.loop-n-test.true (omega arith) led w.in-Unsat.is;
        page = rw live;
        block = c.try_opening-reached.ensures.block ∙ c.loop-n.invariant.block;
        reasons = c.try_opening-reached.ensures.reasons_len_2;
      })
    ]

pub returns : goal.returns
returns c = rw c.loop-n.invariant.page (stops c.loop-n.invariant.round c.loop-n-test.false)
