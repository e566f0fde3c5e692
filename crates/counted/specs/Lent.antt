-- [counted] The memory that is lent to a counted run beside the block: a run's own, the two numbers of each clause, and the index.
use Rattle.std.specs.Prelude.{ℕ, List, drop}
use Rattle.memory.specs.Memory.{Memory}

pub record Lent : Type 0 where
  pub memory : Memory
  pub trues : List ℕ
  pub opens : List ℕ
  pub index : List ℕ

abbrev pub lent : Memory → List ℕ → List ℕ → List ℕ → Lent
lent m ts os ix = record { memory = m; trues = ts; opens = os; index = ix }

-- [counted.index] all of it but the first n places of the index
abbrev pub past : ℕ → Lent → Lent
past n w = lent w.memory w.trues w.opens (drop n w.index)
