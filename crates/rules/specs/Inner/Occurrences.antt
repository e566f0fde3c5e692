-- The table of the literals that occur: what each place says. A literal's place is formula's.
use Rattle.std.specs.Prelude.{ℕ, Bool, cond, ◌≡◌, List, ◌∷◌, eqb, ℤ, length, get_or}
use Rattle.words.specs.Words.{mem}
use Rattle.formula.specs.Inner.Places.{literal_places, word_at}
use Rattle.theory.specs.Record.{Assignment}
use Rattle.theory.specs.Tests.{occurs, untrue_of}

-- 1 at the place of each literal that occurs in the clauses, else 0
abbrev pub Occurring : List (List ℤ) → List ℕ → Type 0
Occurring m t = (at : ℕ) → get_or t at 0 ≡ cond (occurs m (word_at at)) 1 0

-- after the literals of a clause are marked, those of it have a 1, and the others what they had
pub record Marked (C : List ℤ) (t t' : List ℕ) : Type 0 where
  pub long : length t' ≡ literal_places
  pub said : (at : ℕ) → get_or t' at 0 ≡ cond (mem (word_at at) C) 1 (get_or t at 0)

-- what a place has when those of the clauses m with no true literal are marked on the table t
abbrev pub marked_by : Assignment → List ℕ → List (List ℤ) → ℕ → ℕ
marked_by ρ t m at = cond (occurs (untrue_of ρ m) (word_at at)) 1 (get_or t at 0)

-- a clause is counted: to mark those of the clauses m after it is to mark those of it and m
pub record Counted (ρ : Assignment) (C : List ℤ) (t t' : List ℕ) : Type 0 where
  pub long : length t' ≡ literal_places
  pub said : (m : List (List ℤ)) (at : ℕ) → marked_by ρ t' m at ≡ marked_by ρ t (C ∷ m) at

-- a status says that the literal is true
abbrev pub true_by : (ℤ → ℕ) → ℤ → Bool
true_by st x = eqb (st x) 1
