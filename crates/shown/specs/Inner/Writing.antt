-- What is asked for values to be written: the group's words are small, and the output has a place for each.
use Rattle.std.specs.Prelude.{List, ℕ, ◌≤◌, ◌<◌, ℤ, pos, nat_abs, length, get_or}
use Rattle.formula.specs.Limits.{limits}

pub record Writable (g out : List ℤ) : Type 0 where
  pub room : length g ≤ length out
  pub small : (i : ℕ) → i < length g → nat_abs (get_or g i (pos 0)) ≤ limits.variables
