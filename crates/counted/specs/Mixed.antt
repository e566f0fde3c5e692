-- Any calls, counted runs among them.
use Rattle.std.specs.Prelude.{ℕ, ℤ, Result}
use mathlib.Core.List.{List, [], ◌∷◌}
use Rattle.words.specs.declared.Refusal.{Refusal}
use Rattle.words.specs.Outcomes.{Outcome}
use Rattle.formula.specs.Limits.{Limits}
use Rattle.session.specs.declared.Revision.{Revision}
use Rattle.session.specs.declared.Ran.{Ran}
use Rattle.session.specs.Calls.{Desk, Call, after_run, call}
use Rattle.counted.specs.Lent.{Lent, lent}
use Rattle.counted.specs.Counted.{counted_of}

-- a step or a run, or a counted run with the buffers that it is lent besides
pub data AnyCall : Type 0 where
  plain : Call → AnyCall
  counted : Revision → ℕ → List ℤ → List ℕ → List ℕ → List ℕ → AnyCall

module _ (L : Limits) (b : List ℤ) where
  abbrev pub counted_at : Desk → Revision → ℕ → List ℤ → List ℕ → List ℕ → List ℕ → Outcome Lent (Result Ran Refusal)
  counted_at d seen budget preferred ts os ix = counted_of L d.latest b (lent d.memory ts os ix) seen budget preferred

  unfoldable pub any_call : Desk → AnyCall → Desk
  any_call d (plain c) = call L b d c
  any_call d (counted seen budget preferred ts os ix) = let o = counted_at d seen budget preferred ts os ix in after_run d o.answer o.memory.memory

  unfoldable pub play_any : Desk → List AnyCall → Desk
  play_any d [] = d
  play_any d (c ∷ cs) = play_any (any_call d c) cs
