-- What each public function promises of everything at entry, r being its answer and s' the lent table as it leaves it; and [only] that the promise fits one
-- answer and one content of each lent buffer. A promise is an equation with a definition.
use Rattle.std.specs.Prelude.{◌≡◌, List, ℕ, ℤ, length}
use Rattle.std.proofs.Common.{ext_get_or}
use Rattle.words.specs.Outcomes.{only_one}
use Rattle.formula.specs.Formula.{prefix_of}
use Rattle.record.specs.Inner.Ready.{Bound}
use Rattle.tables.specs.Inner.Levels.{Levels}
use Rattle.tables.specs.Inner.ByLiteral.{Statuses}
use Rattle.tables.specs.Laws.Blanks.{same_blank, same_statuses}
use Rattle.tables.specs.declared.lent.Tables.{Tables}

-- ---- what is asked of a block
-- the levels of the variables that its prefix binds
abbrev pub LevelsPromise : List ℤ → List ℕ → Type 0
LevelsPromise b r = Levels (prefix_of b) r

pub only_levels : {r r' : List ℕ} (b : List ℤ) → length r ≡ length r' → LevelsPromise b r → LevelsPromise b r' → r ≡ r'
only_levels {r} {r'} b e p q = ext_get_or 0 r r' e (λ v h. only_one (p v) (q v))

-- a block's tables: what the type says of them, of this block
abbrev pub TablesPromise : List ℤ → Tables → Type 0
TablesPromise b r = r.block.now ≡ b

pub only_tables : (r r' : Tables) (b : List ℤ) → length r.levels ≡ length r'.levels → TablesPromise b r → TablesPromise b r' → (r.levels ≡ r'.levels) × (r.statuses ≡ r'.statuses)
only_tables r r' b e p q =
    (only_levels b e (λ v. rw (← p) (r.told v)) (λ v. rw (← q) (r'.told v)), same_blank r.blank r'.blank)

-- ---- what is written to a table that is lent blank: the status of each literal of the prefix's variables
abbrev pub FillPromise : List ℤ → List ℕ → List ℕ → Type 0
FillPromise p values s' = Statuses p values s'

pub only_fill : {s' s'' : List ℕ} (p : List ℤ) → Bound p → (values : List ℕ) → FillPromise p values s' → FillPromise p values s'' → s' ≡ s''
only_fill p b values = same_statuses p b values
