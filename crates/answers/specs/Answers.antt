-- What a call answers, as a status and as numbers: the status is 0, or the refusal's number; the numbers stand in the first places of a lent array.
use Rattle.std.specs.Prelude.{ℕ, Bool, cond, List, [], ◌∷◌, ◌++◌, Result, Ok, Err}
use Rattle.std.proofs.lemmas.List.Edits.{sets}
use Rattle.words.specs.declared.Refusal.{Refusal}
use Rattle.words.specs.Outcomes.{Outcome, outcome}
use Rattle.session.specs.declared.Session.{Session}
use Rattle.session.specs.declared.Stepped.{Stepped}
use Rattle.session.specs.declared.Ran.{Ran}
use Rattle.memory.specs.States.{number_of, state_numbered}
use Rattle.session.specs.Outcome.{session}
use Rattle.listing.specs.declared.sheets.Page.{Page}
use Rattle.plain.specs.Agrees.{state_told}
use Rattle.text.specs.declared.Unread.{Unread}
use Rattle.text.specs.declared.Unread.TheVariants.{Misfit, Refused, Row}

-- an answer x told: its status, and its numbers in the first places of the array a
abbrev pub telling : {A : Type 0} → (A → ℕ) → (A → List ℕ) → List ℕ → A → Outcome (List ℕ) ℕ
telling status numbers a x = outcome (status x) (sets a 0 (numbers x))

-- ---- a session as three numbers: its record's length, its revision, and its state's
abbrev pub session_of : ℕ → ℕ → ℕ → Session
session_of n rev st = session n rev (state_numbered st)

abbrev pub numbers_of : Session → List ℕ
numbers_of s = s.length ∷ s.revision.0 ∷ number_of s.state ∷ []

-- ---- opening: status 0 and the session's numbers, or the refusal's number and none
abbrev pub opened_status : Result Session Refusal → ℕ
opened_status (Ok s) = 0
opened_status (Err e) = e.0

abbrev pub opened_numbers : Result Session Refusal → List ℕ
opened_numbers (Ok s) = numbers_of s
opened_numbers (Err e) = []

-- ---- a step: its reason is a fourth number
abbrev pub stepped_status : Result Stepped Refusal → ℕ
stepped_status (Ok r) = 0
stepped_status (Err e) = e.0

abbrev pub stepped_numbers : Result Stepped Refusal → List ℕ
stepped_numbers (Ok r) = numbers_of r.session ++ r.reason ∷ []
stepped_numbers (Err e) = []

-- ---- a run: the count of accepted steps is a fourth number, and the last one's reason a fifth
abbrev pub ran_status : Result Ran Refusal → ℕ
ran_status (Ok r) = 0
ran_status (Err e) = e.0

abbrev pub ran_numbers : Result Ran Refusal → List ℕ
ran_numbers (Ok r) = numbers_of r.session ++ r.steps ∷ r.reason ∷ []
ran_numbers (Err e) = []

-- ---- a page: where the next one begins, the entries written, and 1 for paused, else 0
abbrev pub paged_status : Result Page Refusal → ℕ
paged_status (Ok r) = 0
paged_status (Err e) = e.0

abbrev pub paged_numbers : Result Page Refusal → List ℕ
paged_numbers (Ok r) = r.next ∷ r.entries ∷ cond r.paused 1 0 ∷ []
paged_numbers (Err e) = []

-- ---- [calls.shown] what an ended session shows: how many values were written
abbrev pub showed_status : Result ℕ Refusal → ℕ
showed_status (Ok n) = 0
showed_status (Err e) = e.0

abbrev pub showed_numbers : Result ℕ Refusal → List ℕ
showed_numbers (Ok n) = n ∷ []
showed_numbers (Err e) = []

-- ---- [calls.plain] a second opinion: the number of the state that it tells
abbrev pub solved_status : Result Bool Refusal → ℕ
solved_status (Ok t) = 0
solved_status (Err e) = e.0

abbrev pub solved_numbers : Result Bool Refusal → List ℕ
solved_numbers (Ok t) = number_of (state_told (Ok t)) ∷ []
solved_numbers (Err e) = []

-- ---- [calls.read] a text: status 0 and the block's length; 27 and the place; 28, 29 or 30, and 0; 31 and the row
abbrev pub read_status : Result ℕ Unread → ℕ
read_status (Ok n) = 0
read_status (Err (Misfit i)) = 27
read_status (Err (Refused e)) = e.0
read_status (Err (Row e)) = 31

abbrev pub read_numbers : Result ℕ Unread → List ℕ
read_numbers (Ok n) = n ∷ []
read_numbers (Err (Misfit i)) = i ∷ []
read_numbers (Err (Refused e)) = 0 ∷ []
read_numbers (Err (Row e)) = e.0 ∷ []

-- ---- [calls.write] a block written as a text: status 0 and the text's length, or the refusal's number and none
abbrev pub wrote_status : Result ℕ Refusal → ℕ
wrote_status (Ok n) = 0
wrote_status (Err e) = e.0

abbrev pub wrote_numbers : Result ℕ Refusal → List ℕ
wrote_numbers (Ok n) = n ∷ []
wrote_numbers (Err e) = []
