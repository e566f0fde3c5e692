-- What is claimed of an accepted text.
use Rattle.std.specs.Prelude.{◌≡◌, ℕ, ◌-◌, ℤ, length}
use mathlib.Core.List.{List, ◌++◌}
use Rattle.formula.specs.Limits.{Limits}
use Rattle.formula.specs.Formula.{formula_of}
use Rattle.formula.specs.Truth.{true?}
use Rattle.formula.specs.Block.{refusal}
use Rattle.grammar.specs.Grammar.{Text, Spells}
use Rattle.text.specs.Tree.{block_of, zeros, read_of, own_formula}

-- ---- an accepted text
pub record AcceptedText (L : Limits) (bs : List ℕ) (o : List ℤ) (n : ℕ) : Type 0 where
  pub tree : Text
  pub spells : Spells bs tree
  -- the whole output: the block, and 0 past it
  pub output : (read_of L bs o).memory ≡ block_of tree ++ zeros (length o - n)
  pub long : length (block_of tree) ≡ n
  -- it passes the block's check, and has the text's meaning
  pub passes : refusal L (block_of tree) ≡ 0
  pub meaning : true? (formula_of (block_of tree)) ≡ true? (own_formula tree)
