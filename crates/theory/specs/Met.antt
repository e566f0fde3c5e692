-- What a test that is met says: the entries, words and clauses that it is about.
use Rattle.std.specs.Prelude.{◌≡◌, ◌⊎◌, ◌≤◌, ◌<◌, true, false, List, ◌∷◌, ◌++◌, ℕ, ℤ, neg_ℤ}
use Rattle.words.specs.Lists.{In, any}
use Rattle.formula.specs.Formula.{existential, universal, level}
use Rattle.formula.specs.Laws.Prefix.{stands}
use Rattle.theory.specs.Record.{entry, Record, Assignment, assigned, without}
use Rattle.theory.specs.Tests.{all_assigned, unassigned_existential, unassigned_universal}

-- the last entry of a kind
pub record Last (k : ℕ) (r : Record) : Type 0 where
  pub before : Record
  pub literal : ℤ
  pub later : Record
  pub whole : r ≡ before ++ entry k literal ∷ later
  pub none_later : without k later ≡ true

-- the first unassigned word of a prefix
pub record First (p : List ℤ) (ρ : Assignment) : Type 0 where
  pub before : List ℤ
  pub word : ℤ
  pub after : List ℤ
  pub whole : p ≡ before ++ word ∷ after
  pub set : all_assigned before ρ ≡ true
  pub unset : assigned ρ word ≡ false

-- ---- a clause in conflict
pub record Dead (p : List ℤ) (ρ : Assignment) (C : List ℤ) : Type 0 where
  pub untrue : any ρ C ≡ false
  pub helpless : any (unassigned_existential p ρ) C ≡ false

-- ---- the clause of a unit
pub record UnitAt (p : List ℤ) (C : List ℤ) (l : ℤ) (ρ : Assignment) : Type 0 where
  pub untrue : any ρ C ≡ false
  pub inside : In l C
  pub exists : existential p l ≡ true
  pub unset : assigned ρ l ≡ false
  pub only : (x : ℤ) → In x C → unassigned_existential p ρ x ≡ true → x ≡ l
  pub deeper : (x : ℤ) → In x C → unassigned_universal p ρ x ≡ true → level p l < level p x

-- ---- an open literal: unassigned, of the prefix, and no unassigned variable has a lower level
-- no unassigned variable of the part p has a lower level than l's
abbrev pub Lowest : List ℤ → Assignment → ℤ → List ℤ → Type 0
Lowest P ρ l p = (x : ℤ) → In x p → assigned ρ x ≡ false → level P l ≤ level P x

pub record OpenAt (p : List ℤ) (ρ : Assignment) (l : ℤ) : Type 0 where
  pub bound : stands p l ≡ true
  pub unset : assigned ρ l ≡ false
  pub lowest : Lowest p ρ l p

-- ---- a literal that stands in no clause without a true literal
abbrev pub Absent : List (List ℤ) → ℤ → Assignment → Type 0
Absent m a ρ = (C : List ℤ) → In C m → (any ρ C ≡ true) ⊎ (In a C → ⊥)

-- ---- a monotone literal: the sign that it gives up is so absent
pub record MonotoneAt (p : List ℤ) (m : List (List ℤ)) (l : ℤ) (ρ : Assignment) : Type 0 where
  pub unset : assigned ρ l ≡ false
  pub spare : ((existential p l ≡ true) × Absent m (neg_ℤ l) ρ) ⊎ ((universal p l ≡ true) × Absent m l ρ)
