-- The values so far, one more of them, and what the recursion asks.
use Rattle.std.specs.Prelude.{ℕ, ◌-◌, ◌≤◌, ◌<◌, ◌≡◌, Bool, cond, List, ℤ, pos, neg_ℤ, nat_abs, length, get_or, drop}
use Rattle.formula.specs.Limits.{limits}
use Rattle.formula.specs.Formula.{variables_of}
use Rattle.formula.specs.Block.{refusal}
use Rattle.plain.specs.Solve.{most_variables}

-- the last i words of the table
abbrev pub so_far : ℕ → List ℤ → List ℤ
so_far i values = drop (most_variables - i) values

-- a table whose last i words are σ
pub record Table (i : ℕ) (σ values : List ℤ) : Type 0 where
  pub long : length values ≡ most_variables
  pub told : so_far i values ≡ σ

-- the first value of the variable of the word q, or the second
abbrev pub value_of : Bool → ℤ → ℤ
value_of second q = cond second (neg_ℤ q) q

-- a word whose negation is a word
pub record Small (ws : List ℤ) (i : ℕ) : Type 0 where
  pub inside : i < length ws
  pub small : nat_abs (get_or ws i (pos 0)) ≤ 2147483647

-- an accepted block of few variables, i of which have values
pub record Ready (b : List ℤ) (i : ℕ) : Type 0 where
  pub block : refusal limits b ≡ 0
  pub few : variables_of b ≤ most_variables
  pub most : i ≤ variables_of b
