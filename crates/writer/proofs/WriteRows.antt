-- [demand.1.number] Which number writing is refused with, each exactly when its row applies; [write.leaves] and what a refused call leaves.
use Rattle.std.specs.Prelude.{◌≡◌, List, [], ◌∷◌, ◌++◌, ℕ, ℤ, length}
use Rattle.std.proofs.Math.Path.{refl}
use Rattle.words.specs.Lists.{In}
use Rattle.words.specs.Rows.{Numbered}
use Rattle.words.specs.Laws.Rows.{numbered, given}
use Rattle.words.specs.Outcomes.{Left, unless_left, refused, ok_none}
use Rattle.formula.specs.Limits.{Limits}
use Rattle.formula.specs.Rows.{block_numbers}
use Rattle.writer.specs.Write.{write_rows, write_refusal, write_of}

module _ (L : Limits) (b : List ℤ) (o : List ℕ) where
  pub write_numbered : Numbered (write_rows L b (length o)) (write_refusal L b (length o))
  unfolding write_refusal
  write_numbered = numbered (write_rows L b (length o)) refl

  pub write_gives : In (write_refusal L b (length o)) (0 ∷ block_numbers ++ 30 ∷ [])
  unfolding write_refusal
  write_gives = given (write_rows L b (length o))

  pub write_refused_leaves : (n : ℕ) → let r = write_of L b o in r.answer ≡ refused n → Left (write_refusal L b (length o)) n o r.memory
  unfolding write_of
  write_refused_leaves n = unless_left (write_refusal L b (length o)) o _ n (ok_none _ n)
