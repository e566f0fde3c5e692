-- [demand.1.number] Which number a refused block is given: 1 to 10 and 23, each exactly when the table says.
use Rattle.std.proofs.Math.Path.{refl}
use Rattle.std.specs.Prelude.{List, [], ◌∷◌, ℕ, ℤ}
use Rattle.words.specs.Lists.{In}
use Rattle.words.specs.Rows.{Numbered}
use Rattle.words.specs.Laws.Rows.{numbered, given}
use Rattle.formula.specs.Limits.{Limits}
use Rattle.formula.specs.Block.{rows, refusal}

-- the numbers in the table's order
abbrev pub block_numbers : List ℕ
block_numbers = 1 ∷ 2 ∷ 3 ∷ 4 ∷ 5 ∷ 6 ∷ 7 ∷ 8 ∷ 9 ∷ 10 ∷ 23 ∷ []

module _ (L : Limits) (b : List ℤ) where
  pub check_numbered : Numbered (rows L b) (refusal L b)
  unfolding refusal
  check_numbered = numbered (rows L b) refl

  -- 0 for an accepted block
  pub check_gives : In (refusal L b) (0 ∷ block_numbers)
  unfolding refusal
  check_gives = given (rows L b)
