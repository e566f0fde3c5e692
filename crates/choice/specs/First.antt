-- The first of a list: what a test picks, and the first unassigned variable.
use Rattle.std.specs.Prelude.{cond, List, [], ◌∷◌, ℤ, pos, nat_abs, Option, Some, None}
use Rattle.words.specs.declared.Literal.{Literal}
use Rattle.theory.specs.Record.{Assignment, assigned}
use Rattle.record.specs.Found.{literal, on_found}

-- the first of a list that a test picks
unfoldable pub first_of : (ℤ → Option Literal) → List ℤ → Option Literal
first_of f [] = None
first_of f (x ∷ xs) = on_found (f x) Some (first_of f xs)

-- the first unassigned variable in prefix order, as true [decide.zero]
unfoldable pub first_unassigned : Assignment → List ℤ → Option Literal
first_unassigned ρ p = first_of (λ q. cond (assigned ρ q) None (Some (literal (pos (nat_abs q))))) p
