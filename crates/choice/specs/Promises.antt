-- What each public function promises of everything at entry, r being its answer; and [only] that the promise fits one answer. A promise is an equation
-- with a definition.
use Rattle.std.specs.Prelude.{◌≡◌, Bool, List, ℕ, ℤ, take, Option}
use Rattle.words.specs.Outcomes.{only_one}
use Rattle.words.specs.declared.Literal.{Literal}
use Rattle.formula.specs.Formula.{prefix_of}
use Rattle.theory.specs.Record.{among}
use Rattle.theory.specs.Tests.{is_open}
use Rattle.record.specs.Found.{literal}
use Rattle.choice.specs.First.{first_of}
use Rattle.choice.specs.Preferred.{first_open}
use Rattle.choice.specs.Inner.Variables.{unassigned_in}

-- ---- what is asked of a block and a record, of n entries
-- the record's literals alone, ls, say which are open
abbrev pub IsOpenPromise : List ℤ → List ℤ → ℕ → Literal → Bool → Type 0
IsOpenPromise b ls n l r = r ≡ is_open (prefix_of b) (among (take n ls)) l.0

abbrev pub FirstOpenPromise : List ℤ → List ℤ → ℕ → List ℤ → Literal → Type 0
FirstOpenPromise b ls n list r = r ≡ literal (first_open (prefix_of b) (among (take n ls)) list)

pub only_is_open : {r r' : Bool} (b ls : List ℤ) (n : ℕ) (l : Literal) → IsOpenPromise b ls n l r → IsOpenPromise b ls n l r' → r ≡ r'
only_is_open b ls n l = only_one

pub only_first_open : {r r' : Literal} (b ls : List ℤ) (n : ℕ) (list : List ℤ) → FirstOpenPromise b ls n list r → FirstOpenPromise b ls n list r' → r ≡ r'
only_first_open b ls n list = only_one

-- ---- what is asked of a prefix and a table of values
abbrev pub FirstUnassignedPromise : List ℤ → List ℕ → Option Literal → Type 0
FirstUnassignedPromise p values r = r ≡ first_of (unassigned_in values) p

pub only_first_unassigned : {r r' : Option Literal} (p : List ℤ) (values : List ℕ) → FirstUnassignedPromise p values r → FirstUnassignedPromise p values r' → r ≡ r'
only_first_unassigned p values = only_one
