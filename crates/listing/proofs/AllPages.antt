-- Any list of pages. Each takes the listing below its start to the listing below its next; so after any pages what was written is the listing
-- below next.
use Rattle.std.specs.Prelude.{◌+◌, ◌*◌, ◌≤◌, ◌<◌, ◌≡◌, false, ℤ, take, Result, Ok, Err}
use Rattle.std.proofs.Math.Path.{refl}
use Rattle.std.proofs.Common.{sym, ◌∙◌, ap}
use mathlib.Core.List.{List, [], ◌∷◌, ◌++◌}
use Rattle.std.proofs.Math.Decide.{dec_lt}
use native.Mathlib.Omega.{arith}
use Rattle.std.proofs.Math.ListN.{length}
use Rattle.words.specs.Laws.Bools.{clash}
use Rattle.words.specs.Lists.{In, here, there}
use Rattle.formula.specs.Limits.{Limits}
use Rattle.formula.specs.Formula.{formula_of, variables_of, prefix_of, first_group}
use Rattle.formula.specs.Block.{refusal}
use Rattle.listing.specs.declared.sheets.Page.{Page}
use Rattle.words.specs.declared.Refusal.{Refusal}
use Rattle.listing.specs.Page.{Sheet, first_universal, page_of, sheet_of, PageMemory}
use Rattle.listing.specs.Opening.{openings, opening_end}
use Rattle.listing.specs.Wins.{winners, entries, listing}
use Rattle.listing.specs.Claims.{Stops, at_end, no_room, unended, PageClaims}
use Rattle.listing.specs.Rows.{PageGuarded, page_passes}
use Rattle.listing.proofs.Refused.{page_accepted}
use Rattle.listing.proofs.Accepted.{claimed, accepted_page}
use Rattle.record.specs.Trail.{wiped_trail}
use Rattle.words.specs.Outcomes.{Outcome}
use Rattle.listing.specs.Pages.{Given, Ledger, ledger, after_page, next_page, pages, pages_from0, Listed, Ample}

module _ (L : Limits) (b : List ℤ) where
  listed : (l : Ledger) → l.next ≤ openings (formula_of b) → l.written ≡ listing (formula_of b) l.next → Listed b l
  listed l h e = record { up_to = h; exactly = e; whole = λ z. e ∙ ap (listing (formula_of b)) z }

  next_listed : (l : Ledger) (p : Given) → Listed b l → Listed b (next_page L b l p)
  unfolding next_page
  next_listed l p h = go (page_of L b p.memory l.next p.preferred p.budget).answer refl
    where
      o : Outcome PageMemory (Result Page Refusal)
      o = page_of L b p.memory l.next p.preferred p.budget

      go : (a : Result Page Refusal) → o.answer ≡ a → Listed b (after_page l a o.memory.output)
      go (Ok r) z =
          let t = accepted_page L b p.memory l.next p.preferred p.budget r z in
          listed (ledger r.next (l.written ++ take (2 * r.entries) o.memory.output)) t.filled.up_to (rw h.exactly t.filled.listed)
      go (Err e) z = h

  pages_listed : (ps : List Given) (l : Ledger) → Listed b l → Listed b (pages L b l ps)
  unfolding pages
  pages_listed [] l h = h
  pages_listed (p ∷ ps) l h = pages_listed ps (next_page L b l p) (next_listed l p h)

  -- [demand.3]
  pub any_pages : (ps : List Given) → Listed b (pages_from0 L b ps)
  unfolding winners entries
  any_pages ps = pages_listed ps (ledger 0 []) (listed (ledger 0 []) (omega arith) refl)

  -- [demand.3.same]
  pub same_listing : (ps qs : List Given) → (pages_from0 L b ps).next ≡ openings (formula_of b) → (pages_from0 L b qs).next ≡ openings (formula_of b) → (pages_from0 L b ps).written ≡ (pages_from0 L b qs).written
  same_listing ps qs x y = (any_pages ps).whole x ∙ sym ((any_pages qs).whole y)

module _ (L : Limits) (b : List ℤ) (block : refusal L b ≡ 0) (exists : first_universal (formula_of b) ≡ false) (narrow : first_group (prefix_of b) ≤ L.group) where
  module _ (l : Ledger) (p : Given) (h : l.next ≤ openings (formula_of b)) (a : Ample b p) where
    guard : PageGuarded L b p.memory l.next
    guard = record { block = block; lent = a.lent; exists = exists; narrow = narrow; inside = h; room = a.room }

    -- its sheet
    s : Sheet
    s = sheet_of (formula_of b) p.memory l.next p.preferred p.budget

    next_is : (next_page L b l p).next ≡ s.next
    unfolding next_page s
    next_is = rw (page_accepted L b p.memory l.next p.preferred p.budget (page_passes L b p.memory l.next guard))

    claims : PageClaims b p.memory l.next p.preferred p.budget s (wiped_trail p.memory.work 0 (variables_of b))
    unfolding s
    claims = claimed L b p.memory l.next p.preferred p.budget guard

    -- with room for all openings it gets to the end
    pub one_page : 2 * openings (formula_of b) ≤ length p.memory.output → (next_page L b l p).next ≡ openings (formula_of b)
    one_page r = rw next_is (go claims.stops)
      where
        go : Stops (opening_end (formula_of b) p.preferred p.budget p.memory.work) (openings (formula_of b)) (length p.memory.output) s → s.next ≡ openings (formula_of b)
        go (at_end q e) = e
        go (no_room q h x z y) = let c = claims.filled.few in absurd (omega arith)
        go (unended q u) = clash q (claims.never_pauses a.enough)

  pages_end : (ps : List Given) (l : Ledger) → ((p : Given) → In p ps → Ample b p) → l.next ≤ openings (formula_of b) → openings (formula_of b) ≤ l.next + length ps → (pages L b l ps).next ≡ openings (formula_of b)
  unfolding pages
  pages_end [] l f h k = omega arith
  pages_end (p ∷ ps) l f h k =
      let a = f p (here refl) in
      let e = next_is l p h a in
      let u = (claims l p h a).filled.up_to in
      pages_end ps (next_page L b l p) (λ q i. f q (there i)) (omega arith) (further a (dec_lt l.next (openings (formula_of b))))
    where
      further : Ample b p → Dec (l.next < openings (formula_of b)) → openings (formula_of b) ≤ (next_page L b l p).next + length ps
      further a (yes i) = let c = claims l p h a in omega (arith, next_is l p h a, c.moves (c.never_pauses a.enough) i)
      further a (no i) = omega (arith, next_is l p h a, (claims l p h a).filled.few)

  pub finishes : (ps : List Given) → ((p : Given) → In p ps → Ample b p) → openings (formula_of b) ≤ length ps → (pages_from0 L b ps).next ≡ openings (formula_of b)
  finishes ps f k = pages_end ps (ledger 0 []) f (omega arith) (omega arith)
