-- In a block of the right length the rows of its parts are the block's rows 5 to 10.
use mathlib.Core.Path.{◌≡◌}
use mathlib.Core.Bool.{◌&&◌}
use mathlib.Core.List.{List}
use Prim.Native.Nat.{◌+◌, ◌-◌, ◌<◌}
use native.Mathlib.Omega.{arith}
use native.Mathlib.Decide.{ℕ_discrete}
use lib.Dec.{ltb}
use lib.IntN.{ℤ, pos}
use lib.ListN.{length, drop, get_or}
use borrow.Author.Tests.{lt-ltb, eq-eqb, ne_eqb}
use Rattle.words.specs.Rows.{refusal_of}
use Rattle.words.specs.Words.{negative}
use Rattle.formula.specs.Limits.{Limits}
use Rattle.formula.specs.Formula.{word, variables_of, clause_count_of, literal_count_of, prefix_of, ends_of, literals_of}
use Rattle.formula.specs.Block.{rows}
use Rattle.formula.specs.Laws.Layout.{prefix_last, prefix_length, literals_length}
use Rattle.formula.specs.Inner.Tables.{part_rows}

-- the last of as many words as there are variables
last : (b : List ℤ) → negative (get_or (prefix_of b) (variables_of b - 1) (pos 0)) ≡ ltb 0 (variables_of b) && negative (word b (5 + variables_of b))
last b = by (ℕ_discrete (variables_of b) 0)
  where
    by : Dec (variables_of b ≡ 0) → negative (get_or (prefix_of b) (variables_of b - 1) (pos 0)) ≡ ltb 0 (variables_of b) && negative (word b (5 + variables_of b))
    by (yes e) = rw e
    by (no k) = let some : 0 < variables_of b = omega arith in rw (prefix_last b some, lt-ltb 0 (variables_of b) some)

module _ (b : List ℤ) (L : Limits) where
  pub wrong_length : (length b ≡ 6 + variables_of b + clause_count_of b + literal_count_of b → ⊥) → refusal_of (drop 3 (rows L b)) ≡ 4
  wrong_length k = rw (ne_eqb (length b) (6 + variables_of b + clause_count_of b + literal_count_of b) k)

  pub right_length : length b ≡ 6 + variables_of b + clause_count_of b + literal_count_of b → refusal_of (drop 3 (rows L b)) ≡ refusal_of (part_rows (prefix_of b) (ends_of b) (literals_of b))
  right_length whole = rw (eq-eqb (length b) (6 + variables_of b + clause_count_of b + literal_count_of b) whole, prefix_length b whole, literals_length b whole, last b)
