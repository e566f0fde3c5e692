-- The place of a literal in a table by literal: the word itself, raised by the number of variables. The word 0, which is no literal, has the
-- place in the middle, a positive literal one above it, and its opposite is as far below.
use Rattle.std.specs.Prelude.{ℕ, suc, ◌+◌, ◌-◌, ◌*◌, ℤ, pos, negsuc}
use Rattle.std.proofs.Math.IntN.{sub_ℕ}
use Rattle.formula.specs.Limits.{limits, max_variables}

abbrev pub literal_places : ℕ
literal_places = suc (2 * max_variables)

unfoldable pub place_of : ℤ → ℕ
place_of (pos n) = limits.variables + n
place_of (negsuc n) = limits.variables - suc n

-- the word of a place
unfoldable pub word_at : ℕ → ℤ
word_at at = sub_ℕ at limits.variables
