-- What a counted run keeps from step to step: the table of statuses, each clause's two numbers, and the two bounds.
use Rattle.std.specs.Prelude.{ℕ, ◌≤◌, ◌<◌, ◌≡◌, false, List, [], ℤ, nat_abs, length, get_or}
use Rattle.words.specs.Lists.{In}
use Rattle.formula.specs.Limits.{limits}
use Rattle.formula.specs.Block.{repeats}
use Rattle.formula.specs.Inner.Places.{literal_places}
use Rattle.theory.specs.Record.{Assignment}
use Rattle.rules.specs.Due.{is_unit}
use Rattle.rules.specs.Inner.Tabled.{Sorts}
use Rattle.counted.specs.Fresh.{opens, trues}
use Rattle.counted.specs.Inner.Numbers.{Rest}
use Rattle.counted.specs.Inner.Walk.{NoneBelow}
use Rattle.counted.specs.declared.walk.Bounds.{Bounds}

-- a clause whose literals have a place, with no literal twice, and not too long
pub record Once (C : List ℤ) : Type 0 where
  pub once : repeats C ≡ false
  pub placed : {x : ℤ} → In x C → nat_abs x ≤ limits.variables
  pub short : length C ≤ limits.literals

abbrev pub AllOnce : List (List ℤ) → Type 0
AllOnce m = (C : List ℤ) → In C m → Once C

-- the numbers are the fresh count; no clause below the one bound is in conflict, and none below the other is a unit clause
pub record Counted (p : List ℤ) (m : List (List ℤ)) (ρ : Assignment) (ts os : List ℕ) (b : Bounds) : Type 0 where
  pub trues_room : length m ≤ length ts
  pub opens_room : length m ≤ length os
  pub numbers : (c : ℕ) → c < length m → (get_or ts c 0 ≡ trues ρ (get_or m c [])) × (get_or os c 0 ≡ opens p ρ (get_or m c []))
  pub conflict_most : b.conflict ≤ length m
  pub conflict : NoneBelow ts os b.conflict 0
  pub unit_most : b.unit ≤ length m
  pub unit : (c : ℕ) → c < b.unit → is_unit p ρ (get_or m c []) ≡ false

-- with the table of statuses
pub record Set (p : List ℤ) (m : List (List ℤ)) (ρ : Assignment) (statuses ts os : List ℕ) (b : Bounds) : Type 0 where
  pub long : length statuses ≡ literal_places
  pub sorts : Sorts p ρ statuses
  pub counted : Counted p m ρ ts os b

-- and what the lists hold past the clauses' places stays
pub record SetFrom (p : List ℤ) (m : List (List ℤ)) (ρ : Assignment) (ts₀ os₀ statuses ts os : List ℕ) (b : Bounds) : Type 0 where
  pub now_set : Set p m ρ statuses ts os b
  pub rest : Rest (length m) ts₀ os₀ ts os
