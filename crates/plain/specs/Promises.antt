-- What `solve` promises of every block, r being its answer; and that this leaves one answer. [only]
use Rattle.std.specs.Prelude.{◌≡◌, Bool, List, ℤ, Result}
use Rattle.words.specs.Outcomes.{only_one}
use Rattle.formula.specs.Limits.{limits}
use Rattle.words.specs.declared.Refusal.{Refusal}
use Rattle.plain.specs.Solve.{solve_of}

abbrev pub SolvePromise : List ℤ → Result Bool Refusal → Type 0
SolvePromise b r = r ≡ solve_of limits b

pub only_solve : {r r' : Result Bool Refusal} (b : List ℤ) → SolvePromise b r → SolvePromise b r' → r ≡ r'
only_solve b = only_one
