-- Which row turns the call away, one law for each way out of the guard: the rows passed so far do not hold, the next one does.
use Prim.Native.Nat.{ℕ, ◌≤◌, ◌<◌}
use mathlib.Core.Path.{◌≡◌}
use mathlib.Core.Bool.{Bool, true, false}
use mathlib.Core.List.{List}
use lib.IntN.{ℤ}
use borrow.Author.Tests.{lt-ltb, le-ltb}
use Rattle.std.specs.Prelude.{Ok, Err}
use Rattle.words.specs.declared.Refusal.{Refusal}
use Rattle.words.specs.Outcomes.{refused}
use Rattle.words.specs.Rows.{refusal_of}
use Rattle.words.specs.Words.{negative}
use Rattle.formula.specs.Check.{checked_of}
use Rattle.formula.specs.Limits.{limits}
use Rattle.formula.specs.Formula.{word, variables_of, formula_of, prefix_of}
use Rattle.formula.specs.Laws.Check.{checked_accepted, checked_stops}
use Rattle.record.specs.Trail.{Trail}
use Rattle.record.specs.Check.{bad_record}
use Rattle.record.specs.Inner.Ready.{OnBuffers}
use Rattle.memory.specs.Memory.{record_places}
use Rattle.memory.specs.Refusals.{open_rows, open_refusal}
use Rattle.memory.proofs.Laws.Opened.{opened, record_room}
use Rattle.session.specs.declared.Session.{Session}
use Rattle.listing.proofs.Laws.Values.{first_word}
use Rattle.shown.specs.Shown.{no_witness, of_shown, shown_refusal}
use Rattle.shown.specs.Witnessed.{from_12}

module _ (s : Session) (b : List ℤ) (t : Trail) (room : ℕ) {n : ℕ} (is : n ≡ record_places t) where
  pub shown_buffers : (e : Refusal) → Err e ≡ checked_of (open_refusal limits b n) → Err e ≡ checked_of (shown_refusal limits s b t room)
  unfolding open_refusal shown_refusal
  shown_buffers e h = checked_stops (open_rows limits b (record_places t)) (of_shown s b t room) e (rw is at h)

  module _ (v : Unit {0}) (e : Ok v ≡ checked_of (open_refusal limits b n)) where
    none_open : open_refusal limits b (record_places t) ≡ 0
    none_open = checked_accepted (open_refusal limits b (record_places t)) v (rw is at e)

    passed_11 : shown_refusal limits s b t room ≡ refusal_of (of_shown s b t room)
    passed_11 = from_12 limits s b t room none_open

    pub record_asked : OnBuffers limits b t
    record_asked = record_room t (opened limits b (record_places t) none_open)

    module _ {x : Bool} (bad : x ≡ bad_record (prefix_of b) t s.length) where
      pub shown_record : x ≡ true → refused 12 ≡ checked_of (shown_refusal limits s b t room)
      unfolding checked_of
      shown_record h = rw (passed_11, ← bad, h)

      module _ (f : x ≡ false) {p : List ℤ} (cut : p ≡ prefix_of b) {u y : Bool} (sign : u ≡ negative (word p 0)) (nothing : y ≡ no_witness s.state u) where
        pub shown_nothing : y ≡ true → refused 32 ≡ checked_of (shown_refusal limits s b t room)
        unfolding formula_of checked_of
        shown_nothing h = rw (passed_11, ← bad, f, first_word (prefix_of b), ← cut, ← sign, ← nothing, h)

        module _ (g : y ≡ false) {k : ℕ} (count : k ≡ variables_of b) where
          pub shown_short : room < k → refused 30 ≡ checked_of (shown_refusal limits s b t room)
          unfolding formula_of checked_of
          shown_short h = rw (passed_11, ← bad, f, first_word (prefix_of b), ← cut, ← sign, ← nothing, g, ← count, lt-ltb room k h)

          pub shown_passes : k ≤ room → Ok tt ≡ checked_of (shown_refusal limits s b t room)
          unfolding formula_of checked_of
          shown_passes h = rw (passed_11, ← bad, f, first_word (prefix_of b), ← cut, ← sign, ← nothing, g, ← count, le-ltb room k h)
