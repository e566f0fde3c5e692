-- [demand.1.number] Which number the call is refused with, each exactly when its row applies; [demand.1.leaves] and what a refused call leaves.
use Rattle.std.specs.Prelude.{◌≡◌, List, [], ◌∷◌, ◌++◌, ℕ, ℤ, length}
use Rattle.std.proofs.Math.Path.{refl}
use Rattle.words.specs.Lists.{In}
use Rattle.words.specs.Rows.{Numbered}
use Rattle.words.specs.Laws.Rows.{numbered, given}
use Rattle.words.specs.Outcomes.{refused, ok_none, Left, unless_left}
use Rattle.formula.specs.Limits.{Limits}
use Rattle.formula.specs.Rows.{block_numbers}
use Rattle.record.specs.Trail.{Trail}
use Rattle.session.specs.declared.Session.{Session}
use Rattle.shown.specs.Shown.{shown_rows, shown_refusal, shown_of}

module _ (L : Limits) (s : Session) (b : List ℤ) (t : Trail) (o : List ℤ) where
  pub shown_numbered : Numbered (shown_rows L s b t (length o)) (shown_refusal L s b t (length o))
  unfolding shown_refusal
  shown_numbered = numbered (shown_rows L s b t (length o)) refl

  -- [calls.shown]
  pub shown_gives : In (shown_refusal L s b t (length o)) (0 ∷ block_numbers ++ 11 ∷ 12 ∷ 32 ∷ 30 ∷ [])
  unfolding shown_refusal
  shown_gives = given (shown_rows L s b t (length o))

  pub shown_refused_leaves : (n : ℕ) → let r = shown_of L s b t o in r.answer ≡ refused n → Left (shown_refusal L s b t (length o)) n o r.memory
  unfolding shown_of
  shown_refused_leaves n = unless_left (shown_refusal L s b t (length o)) o _ n (ok_none _ n)
