-- An end that is negative, falls or is over the total is bad; after a good one the ends behind it decide.
use Rattle.std.proofs.Common.{◌≡◌, rules, get_or, pos, nat_abs, ap, sym, ◌∙◌, arith, inl, inr, w32, FitsSigned}
use mir.ValLaws.{to_z-of_z}
use borrow.Author.Tests.{lt-ltb, le-ltb}
use Rattle.words.specs.Words.{negative}
use Rattle.formula.specs.Laws.Ends.{ends_bad, ends_past, ends_ended}
use Rattle.formula.proofs.Rows.{end_negative, end_falls, end_over, end_fine}
use Rattle.formula.proofs.parts.bad_ends.Goals as goal
use Rattle.formula.proofs.parts.bad_ends.Goals.{After-negative}

-- the word of this turn
module _ (c : After-negative) where
  word : FitsSigned w32 (get_or c.args.ends.now c.loop-word.word-index (pos 0))
  word = search rules

  end-is : c.size-end.result ≡ nat_abs (get_or c.args.ends.now c.loop-word.word-index (pos 0))
  end-is = c.size-end.ensures ∙ ap nat_abs (to_z-of_z w32 _ word)

  sign-is : c.negative.result ≡ negative (get_or c.args.ends.now c.loop-word.word-index (pos 0))
  sign-is = c.negative.ensures ∙ ap negative (to_z-of_z w32 _ word)

pub returns-then-negative : goal.returns-then-negative
returns-then-negative c =
    let at = (goal.at.returns-then-negative c).After-negative in
    sym (
    ends_bad _ _ _ _ c.loop-word-test.true
    (elim c.then-negative.either [
      | inl n ↦ end_negative _ _ _ _ (end-is at) _ (sign-is at) n
      | inr (inl (p, f)) ↦ end_falls _ _ _ _ (end-is at) (lt-ltb _ _ f)
      | inr (inr (p, f, o)) ↦ end_over _ _ _ _ (end-is at) (lt-ltb _ _ o)
    ])
    )
    ∙ c.loop-word.invariant

pub loop-word-preserved : goal.loop-word-preserved
loop-word-preserved c =
    let at = (goal.at.loop-word-preserved c).After-negative in
    rw (end-is at)
    (ends_past _ _ _ _ c.loop-word-test.true (end_fine _ _ _ _ (end-is at) _ (sign-is at) c.if-negative.false (le-ltb c.size-end.result c.loop-word.from (omega arith)) (le-ltb c.args.total c.size-end.result (omega arith)))
    ∙ c.loop-word.invariant)

pub returns : goal.returns
returns c = sym (ends_ended _ _ _ _ c.loop-word-test.false) ∙ c.loop-word.invariant
