-- What each public function promises of everything at entry, r being its answer and s' the lent table as it leaves it; and [only] that the promise fits one
-- answer and one content of each lent buffer. A promise is an equation with a definition.
use Rattle.std.specs.Prelude.{◌≡◌, List, ℕ, ℤ}
use Rattle.words.specs.Outcomes.{outcome, Same, same}
use Rattle.formula.specs.Formula.{formula_of}
use Rattle.theory.specs.Record.{Record}
use Rattle.record.specs.declared.rule.Rule.{Rule}
use Rattle.record.specs.Trail.{Trail, record_of}
use Rattle.rules.specs.Due.{due, due_conflict}
use Rattle.rules.specs.Inner.Tabled.{Tabled}

-- ---- what is asked of a block and a record, of n entries
-- s is the table that is lent blank: it is left as it was
abbrev pub DuePromise : List ℤ → Trail → ℕ → List ℕ → Rule → List ℕ → Type 0
DuePromise b t n s r s' = outcome r s' ≡ outcome (due (formula_of b) (record_of t n)) s

-- with clause c in conflict, of any record that has these kinds
abbrev pub DueConflictPromise : List ℕ → ℕ → ℕ → Rule → Type 0
DueConflictPromise ks n c r = (R : Record) (table : List ℕ) → Tabled R table ks n → r ≡ due_conflict R c

pub only_due : {r r' : Rule} {s' s'' : List ℕ} (b : List ℤ) (t : Trail) (n : ℕ) (s : List ℕ) → DuePromise b t n s r s' → DuePromise b t n s r' s'' → Same r r' s' s''
only_due b t n s = same
