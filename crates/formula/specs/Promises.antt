-- What each function promises of everything at entry, r being its answer; and that this leaves one answer. [only]
use Rattle.std.specs.Prelude.{◌≡◌, Bool, List, ℕ, ℤ, Result}
use Rattle.words.specs.declared.Refusal.{Refusal}
use Rattle.words.specs.Lists.{any}
use Rattle.words.specs.Outcomes.{only_one}
use Rattle.formula.specs.Limits.{limits}
use Rattle.formula.specs.Formula.{prefix_of, ends_of, literals_of, clauses_from}
use Rattle.formula.specs.Block.{no_variable, refusal}
use Rattle.formula.specs.Check.{checked_of}
use Rattle.formula.specs.Inner.Tables.{repeated}
use Rattle.formula.specs.Inner.Places.{place_of}

-- ---- the entrances
abbrev pub CheckPromise : List ℤ → Result (Unit {0}) Refusal → Type 0
CheckPromise b r = r ≡ checked_of (refusal limits b)

pub only_check : {r r' : Result (Unit {0}) Refusal} (b : List ℤ) → CheckPromise b r → CheckPromise b r' → r ≡ r'
only_check b = only_one

-- the parts of a block of any words
abbrev pub PrefixPromise : List ℤ → List ℤ → Type 0
PrefixPromise b r = r ≡ prefix_of b

abbrev pub EndsPromise : List ℤ → List ℤ → Type 0
EndsPromise b r = r ≡ ends_of b

abbrev pub LiteralsPromise : List ℤ → List ℤ → Type 0
LiteralsPromise b r = r ≡ literals_of b

-- the clauses that any ends and any literal words make, one after the other
abbrev pub ClausesPromise : List ℤ → List ℤ → List (List ℤ) → Type 0
ClausesPromise es ls r = r ≡ clauses_from ls 0 es

module _ {r r' : List ℤ} (b : List ℤ) where
  pub only_prefix : PrefixPromise b r → PrefixPromise b r' → r ≡ r'
  only_prefix = only_one

  pub only_ends : EndsPromise b r → EndsPromise b r' → r ≡ r'
  only_ends = only_one

  pub only_literals : LiteralsPromise b r → LiteralsPromise b r' → r ≡ r'
  only_literals = only_one

pub only_clauses : {r r' : List (List ℤ)} (es ls : List ℤ) → ClausesPromise es ls r → ClausesPromise es ls r' → r ≡ r'
only_clauses es ls = only_one

-- ---- the inner doors
abbrev pub SomeStrangerPromise : List ℤ → ℕ → Bool → Type 0
SomeStrangerPromise ws n r = r ≡ any (no_variable n) ws

abbrev pub VariableTwicePromise : List ℤ → Bool → Type 0
VariableTwicePromise ws r = r ≡ repeated limits.variables ws

abbrev pub PlaceAtPromise : ℤ → ℕ → Type 0
PlaceAtPromise l r = r ≡ place_of l

pub only_some_stranger : {r r' : Bool} (ws : List ℤ) (n : ℕ) → SomeStrangerPromise ws n r → SomeStrangerPromise ws n r' → r ≡ r'
only_some_stranger ws n = only_one

pub only_variable_twice : {r r' : Bool} (ws : List ℤ) → VariableTwicePromise ws r → VariableTwicePromise ws r' → r ≡ r'
only_variable_twice ws = only_one

pub only_place_at : {r r' : ℕ} (l : ℤ) → PlaceAtPromise l r → PlaceAtPromise l r' → r ≡ r'
only_place_at l = only_one
