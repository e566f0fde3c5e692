-- [limits] They are a parameter of every definition and theorem that asks for them. The code has one instance of them, `limits`, whose numbers stand
-- here and as constants in src/lib.rt; what functions promise, tables' sizes and worked cases name it.
use Rattle.std.specs.Prelude.{ℕ}

pub record Limits : Type 0 where
  pub variables : ℕ
  pub clauses : ℕ
  pub literals : ℕ
  -- [row.19] of variables in a listing's first group
  pub group : ℕ

-- the constants of the code are these
abbrev pub max_variables : ℕ
max_variables = 1024

abbrev pub max_clauses : ℕ
max_clauses = 4096

abbrev pub max_literals : ℕ
max_literals = 8192

abbrev pub max_group : ℕ
max_group = 20

unfoldable pub limits : Limits
limits = record { variables = max_variables; clauses = max_clauses; literals = max_literals; group = max_group }
