-- [table.leaves] A refused page answers its number alone and leaves all memory; an accepted one is the sheet of its openings, on a wiped work
-- record. By the two cases of the number, 0 and not 0.
use Rattle.std.specs.Prelude.{ℕ, ◌≡◌, List, ℤ, Ok}
use Rattle.words.specs.Outcomes.{refused, ok_none, Left, unless_left, unless_ok}
use Rattle.formula.specs.Formula.{formula_of}
use Rattle.formula.specs.Limits.{Limits}
use Rattle.listing.specs.declared.sheets.Page.{Page}
use Rattle.listing.specs.Page.{PageMemory, page_refusal, paged, sheet_of, page_of}

module _ (L : Limits) (b : List ℤ) (m : PageMemory) (start : ℕ) (preferred : List ℤ) (budget : ℕ) where
  pub page_refused_leaves : (n : ℕ) → let o = page_of L b m start preferred budget in
      o.answer ≡ refused n → Left (page_refusal L b m start) n m o.memory
  unfolding page_of
  page_refused_leaves n = unless_left (page_refusal L b m start) m _ n (ok_none _ n)

  -- a page that breaks no row
  pub page_accepted : page_refusal L b m start ≡ 0 → page_of L b m start preferred budget ≡ paged (formula_of b) m.work (sheet_of (formula_of b) m start preferred budget)
  unfolding page_of
  page_accepted e = rw e

  -- an answer with a page comes from one
  pub answered_accepted : (a : Page) → (page_of L b m start preferred budget).answer ≡ Ok a → page_refusal L b m start ≡ 0
  unfolding page_of
  answered_accepted = unless_ok (page_refusal L b m start) m (paged (formula_of b) m.work (sheet_of (formula_of b) m start preferred budget))
