-- The lowest level of an unassigned variable.
use Rattle.std.specs.Prelude.{ℕ, ◌≤◌, ◌≡◌, ◌||◌, List, leb, ℤ}
use Rattle.words.specs.Lists.{all}
use Rattle.formula.specs.Formula.{level}
use Rattle.formula.specs.Limits.{limits}
use Rattle.theory.specs.Record.{Assignment, assigned}

-- n is the lowest level of an unassigned variable: it is at least k exactly if each variable of a level below k is assigned
abbrev pub Lowest : List ℤ → Assignment → ℕ → Type 0
Lowest p ρ n = (k : ℕ) → k ≤ limits.variables → leb k n ≡ all (λ q. assigned ρ q || leb k (level p q)) p
