-- What each public function promises of everything at entry, r being its answer and a' what it leaves in the array; and [only] that the promise fits one
-- result. A promise is an equation with a definition.
use Rattle.std.specs.Prelude.{◌≡◌, Bool, List, ℕ, Result}
use Rattle.words.specs.Outcomes.{outcome, only_one, Same, same}
use Rattle.words.specs.declared.Refusal.{Refusal}
use Rattle.session.specs.declared.Session.{Session}
use Rattle.session.specs.declared.Stepped.{Stepped}
use Rattle.session.specs.declared.Ran.{Ran}
use Rattle.listing.specs.declared.sheets.Page.{Page}
use Rattle.text.specs.declared.Unread.{Unread}
use Rattle.answers.specs.Answers.{telling, session_of, opened_status, opened_numbers, stepped_status, stepped_numbers, ran_status, ran_numbers, paged_status, paged_numbers, showed_status, showed_numbers, solved_status, solved_numbers, read_status, read_numbers, wrote_status, wrote_numbers}

abbrev pub SessionOfPromise : ℕ → ℕ → ℕ → Session → Type 0
SessionOfPromise n rev st r = r ≡ session_of n rev st

abbrev pub OpenedPromise : Result Session Refusal → List ℕ → ℕ → List ℕ → Type 0
OpenedPromise x a r a' = outcome r a' ≡ telling opened_status opened_numbers a x

abbrev pub SteppedPromise : Result Stepped Refusal → List ℕ → ℕ → List ℕ → Type 0
SteppedPromise x a r a' = outcome r a' ≡ telling stepped_status stepped_numbers a x

abbrev pub RanPromise : Result Ran Refusal → List ℕ → ℕ → List ℕ → Type 0
RanPromise x a r a' = outcome r a' ≡ telling ran_status ran_numbers a x

abbrev pub PagedPromise : Result Page Refusal → List ℕ → ℕ → List ℕ → Type 0
PagedPromise x a r a' = outcome r a' ≡ telling paged_status paged_numbers a x

abbrev pub ShowedPromise : Result ℕ Refusal → List ℕ → ℕ → List ℕ → Type 0
ShowedPromise x a r a' = outcome r a' ≡ telling showed_status showed_numbers a x

abbrev pub SolvedPromise : Result Bool Refusal → List ℕ → ℕ → List ℕ → Type 0
SolvedPromise x a r a' = outcome r a' ≡ telling solved_status solved_numbers a x

abbrev pub ToldPromise : Result ℕ Unread → List ℕ → ℕ → List ℕ → Type 0
ToldPromise x a r a' = outcome r a' ≡ telling read_status read_numbers a x

abbrev pub WrotePromise : Result ℕ Refusal → List ℕ → ℕ → List ℕ → Type 0
WrotePromise x a r a' = outcome r a' ≡ telling wrote_status wrote_numbers a x

pub only_session_of : {r r' : Session} (n rev st : ℕ) → SessionOfPromise n rev st r → SessionOfPromise n rev st r' → r ≡ r'
only_session_of n rev st = only_one

module _ (r r' : ℕ) (a a' a'' : List ℕ) where
  pub only_opened : (x : Result Session Refusal) → OpenedPromise x a r a' → OpenedPromise x a r' a'' → Same r r' a' a''
  only_opened x = same

  pub only_stepped : (x : Result Stepped Refusal) → SteppedPromise x a r a' → SteppedPromise x a r' a'' → Same r r' a' a''
  only_stepped x = same

  pub only_ran : (x : Result Ran Refusal) → RanPromise x a r a' → RanPromise x a r' a'' → Same r r' a' a''
  only_ran x = same

  pub only_paged : (x : Result Page Refusal) → PagedPromise x a r a' → PagedPromise x a r' a'' → Same r r' a' a''
  only_paged x = same

  pub only_showed : (x : Result ℕ Refusal) → ShowedPromise x a r a' → ShowedPromise x a r' a'' → Same r r' a' a''
  only_showed x = same

  pub only_solved : (x : Result Bool Refusal) → SolvedPromise x a r a' → SolvedPromise x a r' a'' → Same r r' a' a''
  only_solved x = same

  pub only_told : (x : Result ℕ Unread) → ToldPromise x a r a' → ToldPromise x a r' a'' → Same r r' a' a''
  only_told x = same

  pub only_wrote : (x : Result ℕ Refusal) → WrotePromise x a r a' → WrotePromise x a r' a'' → Same r r' a' a''
  only_wrote x = same
