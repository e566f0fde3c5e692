-- [demand.3.pages] Any list of pages, each begun where the last one stopped, and what is claimed of it.
use Rattle.std.specs.Prelude.{ℕ, ◌+◌, ◌*◌, ◌-◌, ◌^◌, ◌≤◌, ◌≡◌, ℤ, take, Result, Ok, Err}
use mathlib.Core.List.{List, [], ◌∷◌, ◌++◌}
use Rattle.std.proofs.Math.ListN.{length}
use Rattle.formula.specs.Limits.{Limits}
use Rattle.formula.specs.Formula.{formula_of, variables_of, prefix_of, first_group}
use Rattle.listing.specs.declared.sheets.Page.{Page}
use Rattle.listing.specs.Page.{page_of, PageMemory}
use Rattle.listing.specs.Opening.{openings}
use Rattle.listing.specs.Wins.{listing}
use Rattle.record.specs.Inner.Ready.{Room}
use Rattle.words.specs.Outcomes.{Outcome}
use Rattle.words.specs.declared.Refusal.{Refusal}

-- ---- [demand.3.pages] what a page is given besides the block and its start: a work record, preferences, a budget and an output, each its own
pub record Given : Type 0 where
  pub memory : PageMemory
  pub preferred : List ℤ
  pub budget : ℕ

-- where a listing stands: the opening at which its next page begins, and all entries written so far
pub record Ledger : Type 0 where
  pub next : ℕ
  pub written : List ℕ

abbrev pub ledger : ℕ → List ℕ → Ledger
ledger n ws = record { next = n; written = ws }

-- a page adds its entries, each of two words; a refused one adds nothing
abbrev pub after_page : Ledger → Result Page Refusal → List ℕ → Ledger
after_page l (Ok a) out = ledger a.next (l.written ++ take (2 * a.entries) out)
after_page l (Err e) out = l

-- [demand.3.pages] each begins where the last one said
unfoldable pub next_page : Limits → List ℤ → Ledger → Given → Ledger
next_page L b l p =
    let o = page_of L b p.memory l.next p.preferred p.budget in
    after_page l o.answer o.memory.output

unfoldable pub pages : Limits → List ℤ → Ledger → List Given → Ledger
pages L b l [] = l
pages L b l (p ∷ ps) = pages L b (next_page L b l p) ps

-- the first from opening 0
abbrev pub pages_from0 : Limits → List ℤ → List Given → Ledger
pages_from0 L b ps = pages L b (ledger 0 []) ps

-- ---- what is claimed of it
pub record Listed (b : List ℤ) (l : Ledger) : Type 0 where
  pub up_to : l.next ≤ openings (formula_of b)
  -- [demand.3.exactly]
  pub exactly : l.written ≡ listing (formula_of b) l.next
  -- [demand.3.whole]
  pub whole : l.next ≡ openings (formula_of b) → l.written ≡ listing (formula_of b) (openings (formula_of b))

-- ---- [demand.3.finishes] pages with room for an entry and with the budget that is always enough, one for each opening at most
-- what a page needs, wherever it begins, to be accepted and not to pause
pub record Ample (b : List ℤ) (p : Given) : Type 0 where
  pub lent : Room (length (formula_of b).prefix) p.memory.work
  pub room : 2 ≤ length p.memory.output
  pub enough : 2 ^ (variables_of b + 1 - first_group (prefix_of b)) - 1 ≤ p.budget

-- the same answer, and the same output
pub record SamePage (o o' : Outcome PageMemory (Result Page Refusal)) : Type 0 where
  pub answer : o.answer ≡ o'.answer
  pub output : o.memory.output ≡ o'.memory.output
