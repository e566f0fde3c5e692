-- [plain] What the second opinion answers: the recursive truth of a block, or the number of the first row that applies.
use Rattle.std.specs.Prelude.{ℕ, zero, suc, Bool, List, [], ◌∷◌, ◌++◌, ltb, ℤ, drop, Result, Ok}
use Rattle.words.specs.Rows.{Row, row, refusal_of}
use Rattle.words.specs.Outcomes.{refused}
use Rattle.words.specs.declared.Refusal.{Refusal}
use Rattle.formula.specs.Limits.{Limits}
use Rattle.formula.specs.Formula.{Formula, variables_of, formula_of}
use Rattle.formula.specs.Truth.{truth, true?}
use Rattle.formula.specs.Block.{rows}

-- [row.22] the constant of the code is this
abbrev pub most_variables : ℕ
most_variables = 24

abbrev pub too_many : List ℤ → Bool
too_many b = ltb most_variables (variables_of b)

-- [calls.plain] the block's rows, then row 22
abbrev pub of_variables : List ℤ → List Row
of_variables b = row 22 (too_many b) ∷ []

abbrev pub plain_rows : Limits → List ℤ → List Row
plain_rows L b = rows L b ++ of_variables b

unfoldable pub plain_refusal : Limits → List ℤ → ℕ
plain_refusal L b = refusal_of (plain_rows L b)

-- the answer, by the number of the row, 0 for none, and the truth
unfoldable pub opinion_of : ℕ → Bool → Result Bool Refusal
opinion_of zero t = Ok t
opinion_of (suc n) t = refused (suc n)

unfoldable pub solve_of : Limits → List ℤ → Result Bool Refusal
solve_of L b = opinion_of (plain_refusal L b) (true? (formula_of b))

-- [plain.from] the truth from the variable at place i on, where σ holds the literals made true before it
unfoldable pub holds_from : Formula → ℕ → List ℤ → Bool
holds_from F i σ = truth (drop i F.prefix) F.clauses σ
