-- The table of levels.
use Rattle.std.specs.Prelude.{ℕ, ◌≡◌, cond, List, ℤ, get_or}
use Rattle.words.specs.Lists.{any}
use Rattle.formula.specs.Formula.{level_of}
use Rattle.formula.specs.Block.{names}

-- the level of a variable, 0 for what the prefix doesn't bind
abbrev pub level_at : List ℤ → ℕ → ℕ
level_at p v = cond (any (names v) p) (level_of p v) 0

abbrev pub Levels : List ℤ → List ℕ → Type 0
Levels p t = (v : ℕ) → get_or t v 0 ≡ level_at p v
