-- What the block's rows and row 11 show where they are passed: every buffer has a place for each variable.
use Rattle.std.specs.Prelude.{ℕ, ◌≤◌, ◌≡◌, List, ℤ, length}
use Rattle.std.proofs.Math.Path.{refl}
use Rattle.std.proofs.Common.{arith}
use borrow.Author.Tests.{ltb-false, le-ltb}
use Rattle.words.specs.Rows.{refusal_of}
use Rattle.words.specs.Laws.Rows.{goes_on, first_part, passed}
use Rattle.formula.specs.Limits.{Limits}
use Rattle.formula.specs.Formula.{variables_of}
use Rattle.formula.specs.Block.{rows, refusal}
use Rattle.record.specs.Trail.{Trail}
use Rattle.record.specs.Inner.Ready.{OnBuffers}
use Rattle.memory.specs.Memory.{Memory, record_places, places}
use Rattle.memory.specs.Refusals.{of_buffers, open_rows, open_refusal}

pub record Opened (L : Limits) (b : List ℤ) (n : ℕ) : Type 0 where
  pub block : refusal L b ≡ 0
  pub enough : variables_of b ≤ n

module _ (L : Limits) (b : List ℤ) (n : ℕ) where
  pub from_11 : refusal L b ≡ 0 → open_refusal L b n ≡ refusal_of (of_buffers b n)
  unfolding refusal open_refusal
  from_11 = goes_on (rows L b) (of_buffers b n) refl

  pub opened : open_refusal L b n ≡ 0 → Opened L b n
  unfolding refusal open_refusal
  opened e = record { block = first_part (rows L b) (of_buffers b n) e; enough = ltb-false n (variables_of b) (passed (open_rows L b n) refl e 11) }

  pub open_passes : Opened L b n → open_refusal L b n ≡ 0
  open_passes o = rw (from_11 o.block, le-ltb n (variables_of b) o.enough)

-- the record's two buffers, and all three
pub record_room : {L : Limits} {b : List ℤ} (t : Trail) → Opened L b (record_places t) → OnBuffers L b t
record_room t o = let h = o.enough in record { block = o.block; room = record { lits = omega arith; kinds = omega arith } }

pub room_record : {L : Limits} {b : List ℤ} (t : Trail) → OnBuffers L b t → Opened L b (record_places t)
room_record t o = record { block = o.block; enough = omega (arith, o.room.lits, o.room.kinds) }

module _ {L : Limits} {b : List ℤ} (m : Memory) where
  pub buffers_room : Opened L b (places m) → OnBuffers L b m.trail
  buffers_room o = let h = o.enough in record_room m.trail (record { block = o.block; enough = omega arith })

  pub reasons_room : Opened L b (places m) → variables_of b ≤ length m.reasons
  reasons_room o = let h = o.enough in omega arith

  pub room_buffers : OnBuffers L b m.trail → variables_of b ≤ length m.reasons → Opened L b (places m)
  room_buffers o h = record { block = o.block; enough = omega (arith, (room_record m.trail o).enough) }
