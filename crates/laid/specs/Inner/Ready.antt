-- What stands in the output before a block is laid.
use Rattle.std.specs.Prelude.{◌≡◌, false, List, ℕ, ◌+◌, ◌≤◌, ℤ, length, take, drop}
use Rattle.words.specs.Lists.{any}
use Rattle.formula.specs.Limits.{limits}
use Rattle.formula.specs.Block.{no_variable, twice}

-- what a prefix must be to be completed in its place: words that name variables within v, none twice, and room
pub record Ready (o : List ℤ) (v bound from t : ℕ) : Type 0 where
  pub few : v ≤ limits.variables
  pub words : bound ≤ v
  pub prefix : 6 + v ≤ length o
  pub literals : from + t ≤ length o
  pub known : any (no_variable v) (take bound (drop 6 o)) ≡ false
  pub once : twice (take bound (drop 6 o)) ≡ false

-- room for a header of counts that are words
pub record Headed (o : List ℤ) (v c t : ℕ) : Type 0 where
  pub room : 6 ≤ length o
  pub offsets : 6 + v + c ≤ 2147483647
  pub literals : t ≤ 2147483647
