-- The table of levels has the level of each variable that the prefix binds.
use Rattle.std.specs.Prelude.{◌≡◌, true, List, ℕ, ℤ, get_or}
use Rattle.std.proofs.Common.{◌∙◌}
use Rattle.words.specs.Lists.{any}
use Rattle.formula.specs.Formula.{level_of}
use Rattle.formula.specs.Block.{names}
use Rattle.tables.specs.Inner.Levels.{Levels}

pub level_at_lem : (p : List ℤ) (t : List ℕ) → Levels p t → (v : ℕ) → any (names v) p ≡ true → get_or t v 0 ≡ level_of p v
level_at_lem p t said v h = said v ∙ rw h
