-- The block's rows and row 22, one law for each way out: the rows passed so far do not hold, and the next one does, or the truth is told.
use Prim.Native.Nat.{ℕ, zero, suc}
use mathlib.Core.Path.{◌≡◌, refl, sym, ◌∙◌}
use mathlib.Core.Bool.{Bool, true, false}
use mathlib.Core.List.{List, ◌++◌}
use native.Mathlib.Omega.{arith}
use lib.IntN.{ℤ}
use borrow.Author.Tests.{ltb-false}
use Rattle.std.specs.Prelude.{Ok, Err}
use Rattle.words.specs.declared.Refusal.{Refusal}
use Rattle.words.specs.Outcomes.{by_row, refused}
use Rattle.words.specs.Rows.{refusal_of}
use Rattle.words.specs.Laws.Rows.{goes_on}
use Rattle.formula.specs.Limits.{limits}
use Rattle.formula.specs.Formula.{variables_of, formula_of}
use Rattle.formula.specs.Truth.{true?}
use Rattle.formula.specs.Block.{rows, refusal}
use Rattle.formula.specs.Check.{checked_of}
use Rattle.formula.specs.Laws.Check.{checked_accepted, checked_stops}
use Rattle.plain.specs.Solve.{most_variables, too_many, of_variables, plain_refusal, opinion_of, solve_of}
use Rattle.plain.specs.Inner.Tried.{Ready}

-- what a check refuses with is told, whatever the truth
told : (n : ℕ) (t : Bool) (e : Refusal) → Err e ≡ checked_of n → Err e ≡ opinion_of n t
unfolding checked_of opinion_of
told zero t e h = absurd cc
told (suc n) t e h = let is : e ≡ by_row (suc n) = cc in rw is

module _ (b : List ℤ) where
  pub block_refused : (e : Refusal) → Err e ≡ checked_of (refusal limits b) → Err e ≡ solve_of limits b
  unfolding solve_of plain_refusal refusal
  block_refused e h = told (refusal_of (rows limits b ++ of_variables b)) (true? (formula_of b)) e (checked_stops (rows limits b) (of_variables b) e h)

  module _ (u : Unit {0}) (h : Ok u ≡ checked_of (refusal limits b)) {m : Bool} (many : m ≡ too_many b) where
    accepted : refusal limits b ≡ 0
    accepted = checked_accepted (refusal limits b) u h

    passed : plain_refusal limits b ≡ refusal_of (of_variables b)
    unfolding plain_refusal refusal
    passed = goes_on (rows limits b) (of_variables b) refl accepted

    pub over : m ≡ true → refused 22 ≡ solve_of limits b
    unfolding solve_of opinion_of
    over x = rw (passed, ← many, x)

    module _ (x : m ≡ false) where
      pub ready : Ready b 0
      ready = record { block = accepted; few = ltb-false most_variables (variables_of b) (sym many ∙ x); most = omega arith }

      pub tells : {t : Bool} → t ≡ true? (formula_of b) → Ok t ≡ solve_of limits b
      unfolding solve_of opinion_of
      tells p = rw (passed, ← many, x, ← p)
