-- What each public function promises of everything at entry, r being its answer; and [only] that the promise fits one answer. A promise is an equation
-- with a definition.
use Rattle.std.specs.Prelude.{◌≡◌, List, ℕ, ℤ, pos, get_or}
use Rattle.words.specs.Outcomes.{only_one}
use Rattle.formula.specs.Formula.{clauses_from}
use Rattle.tables.specs.Inner.ByLiteral.{status_in}
use Rattle.clauses.specs.Inner.Clauses.{level_by, deciding_by}
use Rattle.clauses.specs.declared.found.Deciding.{Deciding}

-- s is the table of what each literal is to its clause
abbrev pub StatusPromise : ℤ → List ℕ → ℕ → Type 0
StatusPromise w s r = r ≡ status_in s w

abbrev pub StatusAtPromise : List ℤ → ℕ → List ℕ → ℕ → Type 0
StatusAtPromise ws i s r = r ≡ status_in s (get_or ws i (pos 0))

-- and levels that of the variables' levels
abbrev pub DecidingPromise : List ℤ → List ℤ → List ℕ → List ℕ → Deciding → Type 0
DecidingPromise es ls s levels r = r ≡ deciding_by (status_in s) (level_by levels) 0 (clauses_from ls 0 es)

pub only_status : {r r' : ℕ} (w : ℤ) (s : List ℕ) → StatusPromise w s r → StatusPromise w s r' → r ≡ r'
only_status w s = only_one

pub only_status_at : {r r' : ℕ} (ws : List ℤ) (i : ℕ) (s : List ℕ) → StatusAtPromise ws i s r → StatusAtPromise ws i s r' → r ≡ r'
only_status_at ws i s = only_one

pub only_deciding : {r r' : Deciding} (es ls : List ℤ) (s levels : List ℕ) → DecidingPromise es ls s levels r → DecidingPromise es ls s levels r' → r ≡ r'
only_deciding es ls s levels = only_one
