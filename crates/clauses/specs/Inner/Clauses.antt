-- The tests of a clause over the tables: what the code's inner functions say to each other. A reader of `due` needs none of it.
use Rattle.clauses.specs.Found.{unit_clause}
use Rattle.clauses.specs.declared.found.UnitClause.{UnitClause}
use Rattle.words.specs.declared.Literal.{Literal}
use Rattle.std.specs.Prelude.{ℕ, zero, suc, ◌+◌, ◌≤◌, min, ◌≡◌, Bool, false, cond, not, ◌||◌, List, [], ◌∷◌, eqb, ltb, ℤ, pos, nat_abs, length, get_or, Option, Some, None}
use Rattle.words.specs.Lists.{any}
use Rattle.formula.specs.Limits.{limits}
use Rattle.formula.specs.Block.{bad_ends}
use Rattle.record.specs.Found.{on_found, literal}
use Rattle.clauses.specs.Lowest.{lowest}
use Rattle.record.specs.Inner.Tables.{places}
use Rattle.clauses.specs.declared.clauses.Sight.{Sight}
use Rattle.clauses.specs.declared.clauses.Sight.TheVariants.{InConflict, UnitOn, Neither}
use Rattle.clauses.specs.declared.found.Deciding.{Deciding}
use Rattle.clauses.specs.declared.found.Deciding.TheVariants.{Conflict, Quiet}

-- every word's size is a place
abbrev pub Placed : List ℤ → Type 0
Placed ws = (i : ℕ) → nat_abs (get_or ws i (pos 0)) ≤ limits.variables

-- clause ends that lie in the literal words, in order, the first clause beginning at `from`; and literal words that have a place
pub record Clauses (es ls : List ℤ) (from : ℕ) : Type 0 where
  pub ends : bad_ends (length ls) from es ≡ false
  pub placed : Placed ls

abbrev pub level_by : List ℕ → ℤ → ℕ
level_by levels x = get_or levels (nat_abs x) 0

-- one of four by a status
abbrev pub by_status {ℓ} : {A : Type ℓ} → ℕ → A → A → A → A → A
by_status zero f t e u = f
by_status (suc zero) f t e u = t
by_status (suc (suc zero)) f t e u = e
by_status (suc (suc (suc n))) f t e u = u

-- a literal that keeps its clause from conflict, and the clause in conflict, by the literals' status [conflict]
unfoldable pub keeps_by : (ℤ → ℕ) → ℤ → Bool
keeps_by st x = eqb (st x) 1 || eqb (st x) 2

unfoldable pub conflict_by : (ℤ → ℕ) → List ℤ → Bool
conflict_by st C = not (any (keeps_by st) C)

-- a clause shows when all its literals are read whether it is in conflict, a unit clause, or neither
abbrev pub unit_literal : Sight → Option Literal
unit_literal InConflict = None
unit_literal (UnitOn l) = Some l
unit_literal Neither = None

-- and it decides where it is one of the first two
abbrev pub decisive : Sight → Option Sight
decisive InConflict = Some InConflict
decisive (UnitOn l) = Some (UnitOn l)
decisive Neither = None

-- what follows the search for both
abbrev pub on_deciding : {A : Type 0} → Deciding → (ℕ → A) → (Option UnitClause → A) → A
on_deciding (Conflict c) f g = f c
on_deciding (Quiet u) f g = g u

-- what clause number n, seen so, makes due before the clauses m after it: after a unit clause a conflict alone counts. `rest` is what they make due
-- themselves
unfoldable pub decided_by : (ℤ → ℕ) → ℕ → Sight → List (List ℤ) → Deciding → Deciding
decided_by st n InConflict m rest = Conflict n
decided_by st n (UnitOn l) m rest = on_found (lowest (conflict_by st) (n + 1) m) Conflict (Quiet (Some (unit_clause l n)))
decided_by st n Neither m rest = rest

-- by the literals' status and level. `above` is the lowest level of the unassigned universal literals so far, more than any level if there is
-- none
module _ (st lev : ℤ → ℕ) where
  -- a clause whose one unassigned existential literal so far is l stays a unit clause to its end: no literal of the rest is true, none is
  -- existential, since a clause repeats no literal, and all universal ones are at a higher level than l
  unfoldable pub stays_unit : ℤ → ℕ → List ℤ → Bool
  stays_unit l above [] = ltb (lev l) above
  stays_unit l above (x ∷ C) = by_status (st x) (stays_unit l above C) false false (stays_unit l (min above (lev x)) C)

  abbrev pub unit_if : ℤ → ℕ → List ℤ → Sight
  unit_if l above C = cond (stays_unit l above C) (UnitOn (literal l)) Neither

  -- what a clause shows that has no true and no unassigned existential literal so far
  unfoldable pub sight_from : ℕ → List ℤ → Sight
  sight_from above [] = InConflict
  sight_from above (x ∷ C) = by_status (st x) (sight_from above C) Neither (unit_if x above C) (sight_from (min above (lev x)) C)

  -- the lowest unit clause and its literal, the first clause being number n
  unfoldable pub lowest_unit_by : ℕ → List (List ℤ) → Option UnitClause
  lowest_unit_by n [] = None
  lowest_unit_by n (C ∷ m) = on_found (unit_literal (sight_from places C)) (λ l. Some (unit_clause l n)) (lowest_unit_by (suc n) m)

  -- the lowest clause in conflict, or with none the lowest unit clause
  unfoldable pub deciding_by : ℕ → List (List ℤ) → Deciding
  deciding_by n m = on_found (lowest (conflict_by st) n m) Conflict (Quiet (lowest_unit_by n m))

  -- what is left of a clause shows, after literals of which the unassigned existential one, if any, is `kept`
  unfoldable pub sight_after : Option ℤ → ℕ → List ℤ → Sight
  sight_after None above C = sight_from above C
  sight_after (Some l) above C = unit_if l above C
