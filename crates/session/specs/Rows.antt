-- [demand.1.number] [table.order] [table.exactly] Which number a refused call is given, by the one law of tables.
use Rattle.std.proofs.Math.Path.{refl}
use Rattle.std.specs.Prelude.{List, [], ◌∷◌, ◌++◌, ℕ, ℤ}
use Rattle.words.specs.Lists.{In}
use Rattle.words.specs.Rows.{Numbered}
use Rattle.words.specs.Laws.Rows.{numbered, given}
use Rattle.words.specs.declared.Literal.{Literal}
use Rattle.formula.specs.Rows.{block_numbers}
use Rattle.formula.specs.Limits.{Limits}
use Rattle.session.specs.declared.Revision.{Revision}
use Rattle.session.specs.declared.Session.{Session}
use Rattle.memory.specs.Memory.{Memory}
use Rattle.memory.specs.Refusals.{open_rows, open_refusal}
use Rattle.session.specs.Refusals.{step_rows, step_refusal, run_rows, run_refusal}

-- the numbers of each table in its order, and 0 for an accepted call
abbrev pub open_numbers : List ℕ
open_numbers = block_numbers ++ 11 ∷ []

module _ (L : Limits) (b : List ℤ) (n : ℕ) where
  pub open_numbered : Numbered (open_rows L b n) (open_refusal L b n)
  unfolding open_refusal
  open_numbered = numbered (open_rows L b n) refl

  pub open_gives : In (open_refusal L b n) (0 ∷ open_numbers)
  unfolding open_refusal
  open_gives = given (open_rows L b n)

module _ (L : Limits) (s : Session) (b : List ℤ) (m : Memory) (seen : Revision) where
  pub step_numbered : (l : Literal) → Numbered (step_rows L s b m seen l) (step_refusal L s b m seen l)
  unfolding step_refusal
  step_numbered l = numbered (step_rows L s b m seen l) refl

  pub step_gives : (l : Literal) → In (step_refusal L s b m seen l) (0 ∷ open_numbers ++ 12 ∷ 13 ∷ 14 ∷ 15 ∷ 16 ∷ 17 ∷ [])
  unfolding step_refusal
  step_gives l = given (step_rows L s b m seen l)

  pub run_numbered : (budget : ℕ) → Numbered (run_rows L s b m seen budget) (run_refusal L s b m seen budget)
  unfolding run_refusal
  run_numbered budget = numbered (run_rows L s b m seen budget) refl

  pub run_gives : (budget : ℕ) → In (run_refusal L s b m seen budget) (0 ∷ open_numbers ++ 12 ∷ 13 ∷ 14 ∷ 15 ∷ [])
  unfolding run_refusal
  run_gives budget = given (run_rows L s b m seen budget)
