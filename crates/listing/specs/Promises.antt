-- What a page promises of everything at entry, r being its answer and m' the memory that it leaves; and that this leaves one answer and one content
-- of each lent buffer.
use Rattle.std.specs.Prelude.{ℕ, ◌≡◌, List, ℤ, Result}
use Rattle.words.specs.Outcomes.{only_one, outcome, Same, same}
use Rattle.listing.specs.declared.sheets.Page.{Page}
use Rattle.words.specs.declared.Refusal.{Refusal}
use Rattle.listing.specs.Page.{PageMemory, page_of}
use Rattle.formula.specs.Limits.{limits}
use Rattle.formula.specs.Formula.{first_group}

abbrev pub PagePromise : List ℤ → PageMemory → ℕ → List ℤ → ℕ → Result Page Refusal → PageMemory → Type 0
PagePromise b m start preferred budget r m' = outcome r m' ≡ page_of limits b m start preferred budget

-- an inner door: the size of the first group
abbrev pub FirstGroupPromise : List ℤ → ℕ → Type 0
FirstGroupPromise p r = r ≡ first_group p

pub only_first_group : {r r' : ℕ} (p : List ℤ) → FirstGroupPromise p r → FirstGroupPromise p r' → r ≡ r'
only_first_group p = only_one

-- [only]
pub only_page : {r r' : Result Page Refusal} {m' m'' : PageMemory} (b : List ℤ) (m : PageMemory) (start : ℕ) (preferred : List ℤ) (budget : ℕ)
    → PagePromise b m start preferred budget r m' → PagePromise b m start preferred budget r' m'' → Same r r' m' m''
only_page b m start preferred budget = same
