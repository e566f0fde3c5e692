-- A word that names one of n variables by its size, and a list of such words.
use Rattle.std.specs.Prelude.{List, ℕ, ◌≤◌, ◌<◌, ℤ, pos, nat_abs, length, get_or}

pub record Named (n : ℕ) (w : ℤ) : Type 0 where
  pub some : 0 < nat_abs w
  pub most : nat_abs w ≤ n

-- every word of a list does
pub record AllNamed (n : ℕ) (ws : List ℤ) : Type 0 where
  pub at : (i : ℕ) → i < length ws → Named n (get_or ws i (pos 0))
