-- What each function promises of everything at entry, r being its answer; and that this leaves one answer. [only]
use Rattle.std.specs.Prelude.{◌≡◌, Bool, ℕ}
use Rattle.words.specs.Outcomes.{only_one}
use Rattle.grammar.specs.declared.State.{State}
use Rattle.grammar.specs.declared.Move.{Move}
use Rattle.grammar.specs.Machine.{inside, fresh, alive, move}

-- inner doors: the reader takes a text byte by byte, and asks where it is
abbrev pub StepPromise : State → ℕ → Move → Type 0
StepPromise s b r = r ≡ move s b

abbrev pub InsidePromise : State → Bool → Type 0
InsidePromise s r = r ≡ inside s

abbrev pub FreshPromise : State → Bool → Type 0
FreshPromise s r = r ≡ fresh s

abbrev pub AlivePromise : State → Bool → Type 0
AlivePromise s r = r ≡ alive s

pub only_step : {r r' : Move} (s : State) (b : ℕ) → StepPromise s b r → StepPromise s b r' → r ≡ r'
only_step s b = only_one

module _ {r r' : Bool} (s : State) where
  pub only_inside : InsidePromise s r → InsidePromise s r' → r ≡ r'
  only_inside = only_one

  pub only_fresh : FreshPromise s r → FreshPromise s r' → r ≡ r'
  only_fresh = only_one

  pub only_alive : AlivePromise s r → AlivePromise s r' → r ≡ r'
  only_alive = only_one
