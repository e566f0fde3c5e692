-- When the memory that is lent is turned away: row 11, after the block's rows, and row 12.
use Rattle.std.specs.Prelude.{ℕ, Bool, ◌||◌, List, [], ◌∷◌, ◌++◌, ltb, ℤ}
use Rattle.words.specs.Rows.{Row, row, refusal_of}
use Rattle.formula.specs.Limits.{Limits}
use Rattle.formula.specs.Formula.{variables_of, clause_count_of, prefix_of}
use Rattle.formula.specs.Block.{rows}
use Rattle.record.specs.Check.{bad_record}
use Rattle.memory.specs.Memory.{Memory}
use Rattle.memory.specs.Reasons.{bad_reasons}

-- [row.11] a buffer has fewer than V places, n being those that each of them has
abbrev pub short : List ℤ → ℕ → Bool
short b n = ltb n (variables_of b)

-- [row.12] the record of n entries is broken, or one of its reasons is wrong
abbrev pub broken : List ℤ → Memory → ℕ → Bool
broken b m n = bad_record (prefix_of b) m.trail n || bad_reasons (clause_count_of b) m.trail.kinds m.reasons n

abbrev pub of_buffers : List ℤ → ℕ → List Row
of_buffers b n = row 11 (short b n) ∷ []

-- [calls.open] on buffers of n places
abbrev pub open_rows : Limits → List ℤ → ℕ → List Row
open_rows L b n = rows L b ++ of_buffers b n

unfoldable pub open_refusal : Limits → List ℤ → ℕ → ℕ
open_refusal L b n = refusal_of (open_rows L b n)
