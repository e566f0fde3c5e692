-- The table of statuses: what each place says. A literal's place is formula's.
use Rattle.std.specs.Prelude.{ℕ, ◌+◌, ◌≤◌, ◌<◌, true, cond, ◌≡◌, List, eqb, ℤ, nat_abs, length, get_or}
use Rattle.words.specs.Lists.{any}
use Rattle.formula.specs.Formula.{universal}
use Rattle.formula.specs.Block.{names}
use Rattle.formula.specs.Limits.{max_variables}
use Rattle.formula.specs.Inner.Places.{literal_places, place_of}
use Rattle.record.specs.Inner.Tables.{sign_of}

-- what a literal is to its clause: 0 false, 1 true, 2 unassigned existential, 3 unassigned universal
abbrev pub status_of : ℕ → ℕ → ℕ → ℕ
status_of value quantifier sign = cond (eqb value 0) (cond (eqb quantifier 2) 3 2) (cond (eqb value sign) 1 0)

-- by the table of values, and by the prefix
unfoldable pub status_by : List ℤ → List ℕ → ℤ → ℕ
status_by p values x = status_of (get_or values (nat_abs x) 0) (cond (universal p x) 2 1) (sign_of x)

-- by a table of its own
abbrev pub status_in : List ℕ → ℤ → ℕ
status_in statuses x = get_or statuses (place_of x) 0

-- a table that says nothing, and one that says nothing of the literals of other variables than 1 to n
pub record Blank (t : List ℕ) : Type 0 where
  pub long : length t ≡ literal_places
  pub none : (at : ℕ) → get_or t at 0 ≡ 0

pub record BlankBeyond (n : ℕ) (t : List ℕ) : Type 0 where
  pub long : length t ≡ literal_places
  pub low : (at : ℕ) → at + n < max_variables → get_or t at 0 ≡ 0
  pub high : (at : ℕ) → max_variables + n < at → get_or t at 0 ≡ 0
  pub middle : get_or t max_variables 0 ≡ 0

-- the statuses of the prefix's variables are written on a blank table
pub record Statuses (p : List ℤ) (values statuses : List ℕ) : Type 0 where
  pub said : (x : ℤ) → nat_abs x ≤ length p → any (names (nat_abs x)) p ≡ true → status_in statuses x ≡ status_by p values x
  pub beyond : BlankBeyond (length p) statuses
