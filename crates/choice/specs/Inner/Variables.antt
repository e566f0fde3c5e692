-- The searches over the prefix and over a list, by the tables.
use Rattle.words.specs.declared.Literal.{Literal}
use Rattle.std.specs.Prelude.{ℕ, Bool, cond, not, ◌&&◌, List, eqb, leb, ℤ, pos, nat_abs, get_or, Option, Some, None}
use Rattle.record.specs.Found.{literal, on_found}
use Rattle.choice.specs.First.{first_of}
use Rattle.record.specs.Inner.Tables.{places}

-- a word's variable has a value
abbrev pub assigned_in : List ℕ → ℤ → Bool
assigned_in values q = not (eqb (get_or values (nat_abs q) 0) 0)

unfoldable pub unassigned_in : List ℕ → ℤ → Option Literal
unassigned_in values q = cond (assigned_in values q) None (Some (literal (pos (nat_abs q))))

-- the lowest level of an unassigned variable is that of the first; more than any level if there is none
unfoldable pub lowest_in : List ℕ → List ℕ → List ℤ → ℕ
lowest_in values levels p = on_found (first_of (unassigned_in values) p) (λ l. get_or levels (nat_abs l.0) 0) places

-- a variable is of the prefix, of V words, unassigned, and of no higher level than the lowest
unfoldable pub open_in : ℕ → List ℕ → List ℕ → ℕ → ℕ → Bool
open_in n values levels lowest v = not (eqb v 0) && leb v n && (eqb (get_or values v 0) 0 && leb (get_or levels v 0) lowest)

unfoldable pub preferred_in : ℕ → List ℕ → List ℕ → ℕ → ℤ → Option Literal
preferred_in n values levels lowest l = cond (open_in n values levels lowest (nat_abs l)) (Some (literal l)) None
