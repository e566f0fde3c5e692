-- What the search of the clauses finds.
use Rattle.std.specs.Prelude.{ℕ}
use Rattle.words.specs.declared.Literal.{Literal}
use Rattle.clauses.specs.declared.found.UnitClause.{UnitClause}

-- clause number c, a unit clause on the literal l
abbrev pub unit_clause : Literal → ℕ → UnitClause
unit_clause l c = record { literal = l; clause = c }
