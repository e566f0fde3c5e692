-- Which row turns a call away, one law for each way out of the guard: the rows passed so far do not hold, the next one does.
use Prim.Native.Nat.{ℕ}
use mathlib.Core.Path.{◌≡◌, sym, ◌∙◌}
use mathlib.Core.Bool.{Bool, true, false}
use mathlib.Core.List.{List}
use native.Mathlib.Omega.{arith}
use lib.IntN.{ℤ, nat_abs}
use borrow.Author.Tests.{eq-eqb, ne_eqb}
use Rattle.std.specs.Prelude.{Ok, Err}
use Rattle.words.specs.declared.Refusal.{Refusal}
use Rattle.words.specs.Outcomes.{refused}
use Rattle.words.specs.Rows.{refusal_of}
use Rattle.words.specs.declared.Literal.{Literal}
use Rattle.formula.specs.Limits.{limits}
use Rattle.formula.specs.Formula.{clause_count_of, prefix_of}
use Rattle.formula.specs.Check.{checked_of}
use Rattle.formula.specs.Laws.Check.{checked_accepted, checked_stops}
use Rattle.theory.specs.Record.{Assignment}
use Rattle.theory.specs.Tests.{is_open}
use Rattle.record.specs.declared.rule.Rule.{Rule}
use Rattle.record.specs.Check.{bad_record}
use Rattle.choice.specs.Preferred.{decides}
use Rattle.record.specs.Inner.Ready.{OnBuffers}
use Rattle.record.proofs.Laws.Records.{good}
use Rattle.record.proofs.Laws.Accepted.{prefix_length}
use Rattle.session.specs.declared.Revision.{Revision}
use Rattle.session.specs.declared.Session.{Session}
use Rattle.memory.specs.Memory.{Memory, places}
use Rattle.memory.specs.Reasons.{bad_reasons}
use Rattle.memory.specs.Refusals.{open_rows, open_refusal}
use Rattle.search.specs.Run.{over}
use Rattle.session.specs.Refusals.{of_session}
use Rattle.memory.proofs.Laws.Opened.{Opened, opened, buffers_room, reasons_room}
use Rattle.session.specs.Laws.Accepted.{from_12}
use Rattle.memory.specs.Inner.Reasons.{Beside}
use Rattle.session.specs.Inner.Guards.{session_refusal, proposal_refusal}

-- ---- rows 1 to 14
module _ (s : Session) (b : List ℤ) (m : Memory) (seen : Revision) {n : ℕ} (is : n ≡ places m) where
  pub session_buffers : (e : Refusal) → Err e ≡ checked_of (open_refusal limits b n) → Err e ≡ checked_of (session_refusal limits s b m seen)
  unfolding open_refusal session_refusal
  session_buffers e h = checked_stops (open_rows limits b (places m)) (of_session s b m seen) e (rw is at h)

  module _ (k : Unit {0}) (e : Ok k ≡ checked_of (open_refusal limits b n)) where
    none_open : open_refusal limits b (places m) ≡ 0
    none_open = checked_accepted (open_refusal limits b (places m)) k (rw is at e)

    buffers_passed : session_refusal limits s b m seen ≡ refusal_of (of_session s b m seen)
    buffers_passed = from_12 limits s b m seen none_open

    buffers_open : Opened limits b (places m)
    buffers_open = opened limits b (places m) none_open

    pub record_asked : OnBuffers limits b m.trail
    record_asked = buffers_room m buffers_open

    module _ {t : Bool} (bad : t ≡ bad_record (prefix_of b) m.trail s.length) where
      -- the record is within all buffers
      pub reasons_asked : t ≡ false → Beside s.length m.trail.kinds m.reasons
      reasons_asked x =
          let few = (good (prefix_of b) m.trail s.length (sym bad ∙ x)).few in
          let v = prefix_length limits b buffers_open.block in
          record { kinds = omega (arith, few, v, record_asked.room.kinds); reasons = omega (arith, few, v, reasons_room m buffers_open) }

      pub session_record : t ≡ true → refused 12 ≡ checked_of (session_refusal limits s b m seen)
      unfolding checked_of
      session_record x = rw (buffers_passed, ← bad, x)

      module _ (x : t ≡ false) {w : Bool} (wrong : w ≡ bad_reasons (clause_count_of b) m.trail.kinds m.reasons s.length) where
        pub session_reasons : w ≡ true → refused 12 ≡ checked_of (session_refusal limits s b m seen)
        unfolding checked_of
        session_reasons v = rw (buffers_passed, ← bad, x, ← wrong, v)

        module _ (v : w ≡ false) {u : Bool} (ended : u ≡ over s.state) where
          pub session_over : u ≡ true → refused 13 ≡ checked_of (session_refusal limits s b m seen)
          unfolding checked_of
          session_over y = rw (buffers_passed, ← bad, x, ← wrong, v, ← ended, y)

          module _ (y : u ≡ false) where
            pub session_stale : (seen.0 ≡ s.revision.0 → ⊥) → refused 14 ≡ checked_of (session_refusal limits s b m seen)
            unfolding checked_of
            session_stale f = rw (buffers_passed, ← bad, x, ← wrong, v, ← ended, y, ne_eqb seen.0 s.revision.0 f)

            pub session_passes : seen.0 ≡ s.revision.0 → Ok tt ≡ checked_of (session_refusal limits s b m seen)
            unfolding checked_of
            session_passes q = rw (buffers_passed, ← bad, x, ← wrong, v, ← ended, y, eq-eqb seen.0 s.revision.0 q)

-- ---- rows 16 and 17
module _ (p : List ℤ) (ρ : Assignment) (rule : Rule) (l : Literal) where
  pub proposal_none : nat_abs l.0 ≡ 0 → Ok tt ≡ checked_of (proposal_refusal p ρ rule l)
  unfolding proposal_refusal checked_of
  proposal_none z = rw (eq-eqb (nat_abs l.0) 0 z)

  module _ (some : nat_abs l.0 ≡ 0 → ⊥) {d : Bool} (decided : d ≡ decides rule) where
    pub proposal_undue : d ≡ false → refused 16 ≡ checked_of (proposal_refusal p ρ rule l)
    unfolding proposal_refusal checked_of
    proposal_undue x = rw (ne_eqb (nat_abs l.0) 0 some, ← decided, x)

    module _ (x : d ≡ true) {o : Bool} (free : o ≡ is_open p ρ l.0) where
      pub proposal_closed : o ≡ false → refused 17 ≡ checked_of (proposal_refusal p ρ rule l)
      unfolding proposal_refusal checked_of
      proposal_closed y = rw (ne_eqb (nat_abs l.0) 0 some, ← decided, x, ← free, y)

      pub proposal_passes : o ≡ true → Ok tt ≡ checked_of (proposal_refusal p ρ rule l)
      unfolding proposal_refusal checked_of
      proposal_passes y = rw (ne_eqb (nat_abs l.0) 0 some, ← decided, x, ← free, y)
