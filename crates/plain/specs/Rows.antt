-- [demand.1.number] [table.order] [table.exactly] Which number a refused block is given, by the one law of tables.
use Rattle.std.proofs.Math.Path.{refl}
use Rattle.std.specs.Prelude.{List, [], ◌∷◌, ◌++◌, ℕ, ℤ}
use Rattle.words.specs.Lists.{In}
use Rattle.words.specs.Rows.{Numbered}
use Rattle.words.specs.Laws.Rows.{numbered, given}
use Rattle.formula.specs.Rows.{block_numbers}
use Rattle.formula.specs.Limits.{Limits}
use Rattle.plain.specs.Solve.{plain_rows, plain_refusal}

-- the numbers in the table's order
abbrev pub plain_numbers : List ℕ
plain_numbers = block_numbers ++ 22 ∷ []

module _ (L : Limits) (b : List ℤ) where
  pub plain_numbered : Numbered (plain_rows L b) (plain_refusal L b)
  unfolding plain_refusal
  plain_numbered = numbered (plain_rows L b) refl

  -- 0 for an accepted block
  pub plain_gives : In (plain_refusal L b) (0 ∷ plain_numbers)
  unfolding plain_refusal
  plain_gives = given (plain_rows L b)
