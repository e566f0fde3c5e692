-- [demand.1.number] [table.order] [table.exactly] Which number a refused counted run is given, by the one law of tables.
use Rattle.std.proofs.Math.Path.{refl}
use Rattle.std.specs.Prelude.{List, [], ◌∷◌, ◌++◌, ℕ, ℤ}
use Rattle.words.specs.Lists.{In}
use Rattle.words.specs.Rows.{Numbered}
use Rattle.words.specs.Laws.Rows.{numbered, given}
use Rattle.formula.specs.Limits.{Limits}
use Rattle.session.specs.declared.Revision.{Revision}
use Rattle.session.specs.declared.Session.{Session}
use Rattle.session.specs.Rows.{open_numbers}
use Rattle.counted.specs.Lent.{Lent}
use Rattle.counted.specs.Refusals.{counted_rows, counted_refusal}

module _ (L : Limits) (s : Session) (b : List ℤ) (w : Lent) (seen : Revision) (budget : ℕ) where
  pub counted_numbered : Numbered (counted_rows L s b w seen budget) (counted_refusal L s b w seen budget)
  unfolding counted_refusal
  counted_numbered = numbered (counted_rows L s b w seen budget) refl

  pub counted_gives : In (counted_refusal L s b w seen budget) (0 ∷ open_numbers ++ 12 ∷ 13 ∷ 14 ∷ 15 ∷ [])
  unfolding counted_refusal
  counted_gives = given (counted_rows L s b w seen budget)
