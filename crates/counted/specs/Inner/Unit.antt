-- The look for the lowest unit clause, from a bound below which there is none: only clauses of key 1 are looked at. Such a clause is a unit clause
-- if its open literal is of a lower level than its unassigned universal ones.
use Rattle.words.specs.declared.Literal.{Literal}
use Rattle.std.specs.Prelude.{ℕ, ◌≤◌, min, ◌≡◌, cond, List, [], ◌∷◌, eqb, ltb, ℤ, pos, length, Option, Some, None}
use Rattle.words.specs.Lists.{In}
use Rattle.formula.specs.Formula.{clauses_from}
use Rattle.theory.specs.Record.{Assignment}
use Rattle.record.specs.Found.{literal}
use Rattle.tables.specs.Inner.ByLiteral.{status_in}
use Rattle.clauses.specs.Inner.Clauses.{level_by, Clauses}
use Rattle.record.specs.Inner.Tables.{places}
use Rattle.rules.specs.Inner.Meant.{AllMeant}
use Rattle.counted.specs.Inner.State.{AllOnce, Counted}
use Rattle.counted.specs.declared.walk.Bounds.{Bounds}

-- the last open literal of a clause, and the lowest level of its unassigned universal ones
unfoldable pub last_open : (ℤ → ℕ) → ℤ → List ℤ → ℤ
last_open st l [] = l
last_open st l (x ∷ C) = last_open st (cond (eqb (st x) 2) x l) C

unfoldable pub above : (ℤ → ℕ) → (ℤ → ℕ) → ℕ → List ℤ → ℕ
above st lev a [] = a
above st lev a (x ∷ C) = above st lev (cond (eqb (st x) 3) (min a (lev x)) a) C

-- the literal of a clause of key 1, if it is a unit clause
unfoldable pub unit_by : (ℤ → ℕ) → (ℤ → ℕ) → List ℤ → Option Literal
unit_by st lev C = cond (ltb (lev (last_open st (pos 0) C)) (above st lev places C)) (Some (literal (last_open st (pos 0) C))) None

-- what a look asks of its parts
pub record LookRoom (es ls : List ℤ) (ts os : List ℕ) (from : ℕ) : Type 0 where
  pub clauses : Clauses es ls 0
  pub trues_room : length es ≤ length ts
  pub opens_room : length es ≤ length os
  pub below : from ≤ length es

-- a record's numbers and tables, and the bound below which no clause is a unit clause
pub record Looking (es ls : List ℤ) (statuses levels ts os : List ℕ) (from : ℕ) : Type 0 where
  pub p : List ℤ
  pub ρ : Assignment
  pub b : Bounds
  pub bound : from ≡ b.unit
  pub clauses : Clauses es ls 0
  pub counted : Counted p (clauses_from ls 0 es) ρ ts os b
  pub once : AllOnce (clauses_from ls 0 es)
  pub meant : (C : List ℤ) → In C (clauses_from ls 0 es) → AllMeant p ρ (status_in statuses) (level_by levels) C
