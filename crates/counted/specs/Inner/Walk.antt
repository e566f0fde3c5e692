-- A walk over a part of the index that moves the numbers of its clauses and lowers the bounds. `left` is what the walk has before it.
use Rattle.std.specs.Prelude.{ℕ, ◌+◌, ◌≤◌, ◌<◌, ◌≡◌, cond, List, [], ◌∷◌, eqb, length, get_or}
use Rattle.formula.specs.Limits.{limits}
use Rattle.counted.specs.Inner.Numbers.{key_at}
use Rattle.counted.specs.declared.numbers.Numbers.{Numbers}
use Rattle.counted.specs.declared.walk.Bounds.{Bounds}

-- a, once for each time that c stands in the list
unfoldable pub added : ℕ → ℕ → List ℕ → ℕ
added a c [] = 0
added a c (k ∷ L) = cond (eqb k c) a 0 + added a c L

-- no number below the bound has the key
abbrev pub NoneBelow : List ℕ → List ℕ → ℕ → ℕ → Type 0
NoneBelow ts os bound wanted = (c : ℕ) → c < bound → key_at ts os c ≡ wanted → ⊥

-- bounds lowered to clause c where its key asks for it
pub record Lowered (b : Bounds) (c k : ℕ) (r : Bounds) : Type 0 where
  pub conflict_less : r.conflict ≤ b.conflict
  pub conflict_at : k ≡ 0 → r.conflict ≤ c
  pub unit_less : r.unit ≤ b.unit
  pub unit_at : k ≡ 1 → r.unit ≤ c

-- a number of every clause of the walk can get a more and b less for each time that the walk comes by
pub record Movable (a b : ℕ) (L xs : List ℕ) : Type 0 where
  pub inside : (c : ℕ) → 0 < added 1 c L → c < length xs
  pub small : (c : ℕ) → 0 < added 1 c L → get_or xs c 0 + added a c L ≤ limits.literals
  pub enough : (c : ℕ) → 0 < added 1 c L → added b c L ≤ get_or xs c 0

-- each place of xs has a more and b less than before for each time that the walk came by
pub record Moved (a b : ℕ) (L xs₀ left xs : List ℕ) : Type 0 where
  pub kept : length xs ≡ length xs₀
  pub said : (c : ℕ) → get_or xs c 0 + (added a c left + added b c L) ≡ get_or xs₀ c 0 + (added a c L + added b c left)

-- the bounds are still good: no conflict below the one, and below the other no clause that the walk has left with key 1
pub record Bounded (L ts₀ os₀ : List ℕ) (b₀ : Bounds) (left ts os : List ℕ) (b : Bounds) : Type 0 where
  pub conflict_less : b.conflict ≤ b₀.conflict
  pub conflict : NoneBelow ts₀ os₀ b₀.conflict 0 → NoneBelow ts os b.conflict 0
  pub unit_less : b.unit ≤ b₀.unit
  pub unit : (c : ℕ) → c < b.unit → 0 < added 1 c L → added 1 c left ≡ 0 → key_at ts os c ≡ 1 → ⊥

-- the walk as a literal is set, and as it is taken back
pub record Renumbered (more less : Numbers) (L ts₀ os₀ : List ℕ) (b₀ : Bounds) (left ts os : List ℕ) (b : Bounds) : Type 0 where
  pub trues : Moved more.trues less.trues L ts₀ left ts
  pub opens : Moved more.opens less.opens L os₀ left os
  pub bounds : Bounded L ts₀ os₀ b₀ left ts os b
