-- What the code of the due rule knows of the record: the values by variable, the last entry of each kind, and what each literal is to its clause.
use Rattle.std.specs.Prelude.{◌≡◌, true, false, List, ℕ, ◌<◌, ℤ, pos, neg_ℤ, length}
use Rattle.formula.specs.Inner.Named.{Named}
use Rattle.theory.specs.Record.{Record, Assignment, true_in}
use Rattle.theory.specs.Tests.{unassigned_existential, unassigned_universal}
use Rattle.record.specs.Found.{last}
use Rattle.record.specs.Inner.Tables.{Values}
use Rattle.tables.specs.Inner.ByLiteral.{status_in}
use Rattle.record.specs.Inner.Buffers.{last_kind}

-- no variable is both true and false
abbrev pub Consistent : Assignment → Type 0
Consistent ρ = (v : ℕ) → 0 < v → ρ (pos v) ≡ true → ρ (neg_ℤ (pos v)) ≡ false

pub record Tabled (r : Record) (table ks : List ℕ) (n : ℕ) : Type 0 where
  pub values : Values (true_in r) table
  pub consistent : Consistent (true_in r)
  pub lasts : (k : ℕ) → last_kind ks k n ≡ last k 0 r

-- the status of a literal says what it is
module _ (p : List ℤ) (ρ : Assignment) (st : ℤ → ℕ) where
  pub data Sorted (x : ℤ) : Type 0 where
    as_false : st x ≡ 0 → ρ x ≡ false → unassigned_existential p ρ x ≡ false → unassigned_universal p ρ x ≡ false → Sorted x
    as_true : st x ≡ 1 → ρ x ≡ true → Sorted x
    as_existential : st x ≡ 2 → ρ x ≡ false → unassigned_existential p ρ x ≡ true → unassigned_universal p ρ x ≡ false → Sorted x
    as_universal : st x ≡ 3 → ρ x ≡ false → unassigned_existential p ρ x ≡ false → unassigned_universal p ρ x ≡ true → Sorted x

-- a table of statuses says it of each literal of the prefix's variables
abbrev pub Sorts : List ℤ → Assignment → List ℕ → Type 0
Sorts p ρ statuses = (x : ℤ) → Named (length p) x → Sorted p ρ (status_in statuses) x
