-- [row.27] Where a text stops being one.
use Rattle.std.specs.Prelude.{List, ◌++◌, ℕ, suc, ◌≤◌, ◌<◌, length, take}
use Rattle.grammar.specs.Grammar.{Text, Spells}

-- ---- [row.27] the first byte at which no text can go on, or the length
pub record Misfit (bs : List ℕ) (i : ℕ) : Type 0 where
  -- the bytes do not spell a text; the first i begin one; the first i + 1, if there are so many, begin none
  pub no_text : (t : Text) → Spells bs t → ⊥
  pub in_text : i ≤ length bs
  pub goes_on : (rest : List ℕ) × (t : Text) × Spells (take i bs ++ rest) t
  pub stops : i < length bs → (rest : List ℕ) (t : Text) → Spells (take (suc i) bs ++ rest) t → ⊥
