-- The search for a monotone variable, by the tables.
use Rattle.words.specs.declared.Literal.{Literal}
use Rattle.std.specs.Prelude.{ℕ, ◌+◌, ◌-◌, cond, List, eqb, ℤ, neg_ℤ, nat_abs, get_or, Option, Some, None}
use Rattle.formula.specs.Limits.{max_variables}
use Rattle.record.specs.Found.{literal}
use Rattle.choice.specs.Inner.Variables.{assigned_in}
use Rattle.rules.specs.declared.by_literal.Signs.{Signs}
use Rattle.rules.specs.declared.by_literal.Signs.TheVariants.{Neither, Positive, Negative, Both}

-- the signs with which a variable occurs, by whether its two literals do
abbrev pub signs_in : List ℕ → ℕ → Signs
signs_in occurs v =
    cond (eqb (get_or occurs (max_variables - v) 0) 0)
    (cond (eqb (get_or occurs (max_variables + v) 0) 0) Neither Positive)
    (cond (eqb (get_or occurs (max_variables + v) 0) 0) Negative Both)

-- the literal that a monotone variable takes: with positive occurrences only the prefix's own word, with negative ones only its opposite
abbrev pub by_signs : Signs → ℤ → Option Literal
by_signs Positive q = Some (literal q)
by_signs Negative q = Some (literal (neg_ℤ q))
by_signs Neither q = None
by_signs Both q = None

unfoldable pub monotone_in : List ℕ → List ℕ → ℤ → Option Literal
monotone_in values occurs q = cond (assigned_in values q) None (by_signs (signs_in occurs (nat_abs q)) q)
