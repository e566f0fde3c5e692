-- [page] A page: when it is refused, what it writes, and its answer with every lent buffer.
use Rattle.std.specs.Prelude.{ℕ, zero, suc, ◌+◌, ◌*◌, ◌-◌, Bool, true, false, ◌&&◌, cond, List, [], ◌∷◌, ◌++◌, ltb, leb, ℤ, length, set, Result, Ok}
use Rattle.std.specs.Int.Count.{ones}
use Rattle.words.specs.Rows.{Row, row, refusal_of}
use Rattle.words.specs.Words.{negative}
use Rattle.formula.specs.Formula.{Formula, formula_of, word, first_group}
use Rattle.record.specs.declared.rule.State.{State}
use Rattle.record.specs.declared.rule.State.TheVariants.{Open, Valid, Unsat}
use Rattle.record.specs.Trail.{Trail, trail, wiped_trail}
use Rattle.words.specs.Outcomes.{Outcome, outcome, unless, refused}
use Rattle.words.specs.declared.Refusal.{Refusal}
use Rattle.formula.specs.Limits.{Limits}
use Rattle.memory.specs.Memory.{record_places}
use Rattle.memory.specs.Refusals.{open_rows}
use Rattle.listing.specs.declared.sheets.Page.{Page}
use Rattle.listing.specs.Opening.{openings, opening_end}

-- ---- what is lent: the work record's two buffers, and the output
pub record PageMemory : Type 0 where
  pub work : Trail
  pub output : List ℕ

abbrev pub page_memory : List ℤ → List ℕ → List ℕ → PageMemory
page_memory ls ks out = record { work = trail ls ks; output = out }

-- ---- [calls.page] when a page is refused: rows 18 to 21, after those of an opening on the work record's buffers
-- [row.18]
abbrev pub first_universal : Formula → Bool
first_universal F = ltb 0 (length F.prefix) && negative (word F.prefix 0)

-- [row.18] [row.19] [row.20] [row.21]
abbrev pub of_page : Limits → Formula → ℕ → List ℕ → List Row
of_page L F start out =
    row 18 (first_universal F)
    ∷ row 19 (ltb L.group (first_group F.prefix))
    ∷ row 20 (ltb (openings F) start)
    ∷ row 21 (ltb (length out) 2)
    ∷ []

abbrev pub page_rows : Limits → List ℤ → PageMemory → ℕ → List Row
page_rows L b m start = open_rows L b (record_places m.work) ++ of_page L (formula_of b) start m.output

unfoldable pub page_refusal : Limits → List ℤ → PageMemory → ℕ → ℕ
page_refusal L b m start = refusal_of (page_rows L b m start)

-- ---- what a page writes
-- where a page stands: the next opening, the entries written, whether it is paused, and the output
pub record Sheet : Type 0 where
  pub next : ℕ
  pub entries : ℕ
  pub paused : Bool
  pub output : List ℕ

abbrev pub sheet : ℕ → ℕ → Bool → List ℕ → Sheet
sheet n e p out = record { next = n; entries = e; paused = p; output = out }

-- [page.entry] the opening's number, and how many of its binary digits are 1, after e entries
abbrev pub written : ℕ → ℕ → List ℕ → List ℕ
written n e out = set (set out (2 * e) n) (2 * e + 1) (ones n)

abbrev pub by_search {ℓ} : {A : Type ℓ} → State → A → A → A → A
by_search Valid won lost unended = won
by_search Unsat won lost unended = lost
by_search Open won lost unended = unended

-- `ends n` is the state that the search of the opening n comes to
module _ (ends : ℕ → State) where
  -- [page.stops] [page.room] [page.next] [page.paused] the m openings from n on, with e entries written: the room is looked at first, then the
  -- opening n is searched
  unfoldable pub page_from : ℕ → ℕ → ℕ → List ℕ → Sheet
  page_from zero n e out = sheet n e false out
  page_from (suc m) n e out =
      cond (leb (2 * e + 2) (length out))
      (by_search (ends n)
      (page_from m (n + 1) (e + 1) (written n e out))
      (page_from m (n + 1) e out)
      (sheet n e true out))
      (sheet n e false out)

-- ---- the answer and every lent buffer
-- [page.answer] where the next page begins, the entries written, and whether it is paused
abbrev pub page_at : ℕ → ℕ → Bool → Page
page_at n e p = record { next = n; entries = e; paused = p }

-- [page.after] the first V places of the work record are 0
abbrev pub paged : Formula → Trail → Sheet → Outcome PageMemory (Result Page Refusal)
paged F work s =
    outcome (Ok (page_at s.next s.entries s.paused)) (record { work = wiped_trail work 0 (length F.prefix); output = s.output })

-- a page's sheet: all openings from its start on
abbrev pub sheet_of : Formula → PageMemory → ℕ → List ℤ → ℕ → Sheet
sheet_of F m start preferred budget = page_from (opening_end F preferred budget m.work) (openings F - start) start 0 m.output

unfoldable pub page_of : Limits → List ℤ → PageMemory → ℕ → List ℤ → ℕ → Outcome PageMemory (Result Page Refusal)
page_of L b m start preferred budget =
    let F = formula_of b in
    unless refused (page_refusal L b m start) m (paged F m.work (sheet_of F m start preferred budget))
