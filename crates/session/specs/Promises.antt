-- What each public function promises of everything at entry, r being its answer and m' the memory that it leaves; and [only] that the promise fits
-- one answer, one next session and one content of each lent buffer. A promise is an equation with a definition.
use Rattle.formula.specs.Check.{checked_of}
use Rattle.words.specs.declared.Refusal.{Refusal}
use Rattle.std.specs.Prelude.{◌≡◌, List, ℕ, ℤ, Result}
use Rattle.words.specs.Outcomes.{only_one, outcome, Same, same}
use Rattle.words.specs.declared.Literal.{Literal}
use Rattle.session.specs.declared.Revision.{Revision}
use Rattle.session.specs.declared.Session.{Session}
use Rattle.session.specs.declared.Stepped.{Stepped}
use Rattle.session.specs.declared.Ran.{Ran}
use Rattle.memory.specs.Memory.{Memory}
use Rattle.session.specs.Inner.Guards.{session_refusal}
use Rattle.session.specs.Outcome.{open_outcome, step_outcome}
use Rattle.session.specs.Run.{run_of}
use Rattle.formula.specs.Limits.{limits}

-- ---- the entrances
abbrev pub OpenPromise : List ℤ → Memory → Revision → Result Session Refusal → Memory → Type 0
OpenPromise b m rev r m' = outcome r m' ≡ open_outcome limits b m rev

abbrev pub StepPromise : Session → List ℤ → Memory → Revision → Literal → Result Stepped Refusal → Memory → Type 0
StepPromise s b m seen l r m' = outcome r m' ≡ step_outcome limits s b m seen l

abbrev pub RunPromise : Session → List ℤ → Memory → Revision → ℕ → List ℤ → Result Ran Refusal → Memory → Type 0
RunPromise s b m seen budget preferred r m' = outcome r m' ≡ run_of limits s b m seen budget preferred

module _ {m' m'' : Memory} (b : List ℤ) (m : Memory) where
  pub only_open : {r r' : Result Session Refusal} (rev : Revision) → OpenPromise b m rev r m' → OpenPromise b m rev r' m'' → Same r r' m' m''
  only_open rev = same

  pub only_step : {r r' : Result Stepped Refusal} (s : Session) (seen : Revision) (l : Literal) → StepPromise s b m seen l r m' → StepPromise s b m seen l r' m'' → Same r r' m' m''
  only_step s seen l = same

  pub only_run : {r r' : Result Ran Refusal} (s : Session) (seen : Revision) (budget : ℕ) (preferred : List ℤ) → RunPromise s b m seen budget preferred r m' → RunPromise s b m seen budget preferred r' m'' → Same r r' m' m''
  only_run s seen budget preferred = same

-- ---- the inner door
-- the rows that a step and a run share
abbrev pub SessionRefusalPromise : Session → List ℤ → Memory → Revision → Result (Unit {0}) Refusal → Type 0
SessionRefusalPromise s b m seen r = r ≡ checked_of (session_refusal limits s b m seen)

pub only_session_refusal : {r r' : Result (Unit {0}) Refusal} (s : Session) (b : List ℤ) (m : Memory) (seen : Revision) → SessionRefusalPromise s b m seen r → SessionRefusalPromise s b m seen r' → r ≡ r'
only_session_refusal s b m seen = only_one
