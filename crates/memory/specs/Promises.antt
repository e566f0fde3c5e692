-- What each public function promises of everything at entry, r being its answer and ws' the reasons that it leaves; and [only] that the promise fits
-- one answer and one content of each lent buffer. A promise is an equation with a definition.
use Rattle.std.specs.Prelude.{◌≡◌, Bool, List, ℕ, ℤ, Result}
use Rattle.std.proofs.Common.{ap}
use Rattle.words.specs.Outcomes.{only_one, Same}
use Rattle.words.specs.declared.Refusal.{Refusal}
use Rattle.formula.specs.Limits.{limits}
use Rattle.formula.specs.Formula.{clause_count_of}
use Rattle.formula.specs.Check.{checked_of}
use Rattle.record.specs.declared.rule.State.{State}
use Rattle.record.specs.declared.rule.Rule.{Rule}
use Rattle.record.specs.Trail.{Trail, wiped}
use Rattle.memory.specs.Memory.{Memory, record_places, places}
use Rattle.memory.specs.States.{number_of, state_numbered}
use Rattle.memory.specs.Reasons.{Why, why, told, bad_reasons}
use Rattle.memory.specs.Refusals.{open_refusal}

-- ---- a state as a number
abbrev pub NumberOfPromise : State → ℕ → Type 0
NumberOfPromise st r = r ≡ number_of st

abbrev pub StateOfPromise : ℕ → State → Type 0
StateOfPromise n r = r ≡ state_numbered n

pub only_number_of : {r r' : ℕ} (st : State) → NumberOfPromise st r → NumberOfPromise st r' → r ≡ r'
only_number_of st = only_one

pub only_state_of : {r r' : State} (n : ℕ) → StateOfPromise n r → StateOfPromise n r' → r ≡ r'
only_state_of n = only_one

-- ---- rows 11 and 12
abbrev pub RecordPlacesPromise : Trail → ℕ → Type 0
RecordPlacesPromise t r = r ≡ record_places t

abbrev pub PlacesPromise : Memory → ℕ → Type 0
PlacesPromise m r = r ≡ places m

abbrev pub OpenRefusalPromise : List ℤ → ℕ → Result (Unit {0}) Refusal → Type 0
OpenRefusalPromise b n r = r ≡ checked_of (open_refusal limits b n)

abbrev pub BadReasonsPromise : List ℤ → List ℕ → List ℕ → ℕ → Bool → Type 0
BadReasonsPromise b ks ws n r = r ≡ bad_reasons (clause_count_of b) ks ws n

pub only_record_places : {r r' : ℕ} (t : Trail) → RecordPlacesPromise t r → RecordPlacesPromise t r' → r ≡ r'
only_record_places t = only_one

pub only_places : {r r' : ℕ} (m : Memory) → PlacesPromise m r → PlacesPromise m r' → r ≡ r'
only_places m = only_one

pub only_open_refusal : {r r' : Result (Unit {0}) Refusal} (b : List ℤ) (n : ℕ) → OpenRefusalPromise b n r → OpenRefusalPromise b n r' → r ≡ r'
only_open_refusal b n = only_one

pub only_bad_reasons : {r r' : Bool} (b : List ℤ) (ks ws : List ℕ) (n : ℕ) → BadReasonsPromise b ks ws n r → BadReasonsPromise b ks ws n r' → r ≡ r'
only_bad_reasons b ks ws n = only_one

-- ---- what is written to the reasons
abbrev pub WipePromise : List ℕ → ℕ → ℕ → List ℕ → Type 0
WipePromise ws from to ws' = ws' ≡ wiped 0 ws from to

abbrev pub TellPromise : List ℕ → Rule → ℕ → ℕ → List ℕ → Type 0
TellPromise ws rule n r ws' = why ws' r ≡ told rule n ws

pub only_wipe : {ws' ws'' : List ℕ} (ws : List ℕ) (from to : ℕ) → WipePromise ws from to ws' → WipePromise ws from to ws'' → ws' ≡ ws''
only_wipe ws from to = only_one

pub only_tell : {r r' : ℕ} {ws' ws'' : List ℕ} (ws : List ℕ) (rule : Rule) (n : ℕ) → TellPromise ws rule n r ws' → TellPromise ws rule n r' ws'' → Same r r' ws' ws''
only_tell ws rule n p q = let e = only_one p q in record { answer = ap (λ (w : Why). w.last) e; memory = ap (λ (w : Why). w.reasons) e }
