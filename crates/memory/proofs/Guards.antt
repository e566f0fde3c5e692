-- The block's rows and row 11, one law for each way out: the rows passed so far do not hold, the next one does.
use Prim.Native.Nat.{ℕ, ◌≤◌, ◌<◌}
use mathlib.Core.Path.{◌≡◌}
use mathlib.Core.List.{List}
use lib.IntN.{ℤ}
use borrow.Author.Tests.{lt-ltb, le-ltb}
use Rattle.std.specs.Prelude.{Ok, Err}
use Rattle.words.specs.declared.Refusal.{Refusal}
use Rattle.words.specs.Outcomes.{refused}
use Rattle.words.specs.Rows.{refusal_of}
use Rattle.formula.specs.Limits.{limits}
use Rattle.formula.specs.Formula.{variables_of}
use Rattle.formula.specs.Block.{rows, refusal}
use Rattle.formula.specs.Check.{checked_of}
use Rattle.formula.specs.Laws.Check.{checked_accepted, checked_stops}
use Rattle.memory.specs.Refusals.{of_buffers, open_refusal}
use Rattle.memory.proofs.Laws.Opened.{from_11}

module _ (b : List ℤ) (n : ℕ) where
  pub block_refused : (e : Refusal) → Err e ≡ checked_of (refusal limits b) → Err e ≡ checked_of (open_refusal limits b n)
  unfolding open_refusal refusal
  block_refused = checked_stops (rows limits b) (of_buffers b n)

  module _ (u : Unit {0}) (e : Ok u ≡ checked_of (refusal limits b)) {v : ℕ} (is : v ≡ variables_of b) where
    block_passed : open_refusal limits b n ≡ refusal_of (of_buffers b n)
    block_passed = from_11 limits b n (checked_accepted (refusal limits b) u e)

    pub buffers_short : n < v → refused 11 ≡ checked_of (open_refusal limits b n)
    unfolding checked_of
    buffers_short x = rw (block_passed, ← is, lt-ltb n v x)

    pub buffers_pass : v ≤ n → Ok tt ≡ checked_of (open_refusal limits b n)
    unfolding checked_of
    buffers_pass x = rw (block_passed, ← is, le-ltb n v x)
