-- [shown.true] What the call writes after any history: an opening that wins, or a counter-example. The record of a history passes rows 1 to 12, and
-- the values that it shows are those of an opening.
use Rattle.std.specs.Prelude.{ℕ, ◌≤◌, ◌<◌, ◌≡◌, refl, Bool, List, ℤ, length, Ok}
use Rattle.std.proofs.Common.{◌∙◌}
use Rattle.std.proofs.Math.Bool.{true, false}
use Rattle.std.proofs.lemmas.List.Edits.{sets}
use borrow.Author.Tests.{le-ltb}
use Rattle.words.specs.Rows.{refusal_of}
use Rattle.words.specs.Outcomes.{outcome}
use Rattle.words.specs.Laws.Rows.{goes_on}
use Rattle.formula.specs.Limits.{Limits}
use Rattle.formula.specs.Formula.{variables_of, formula_of, first_group}
use Rattle.theory.specs.Witness.{group_of}
use Rattle.record.specs.declared.rule.State.TheVariants.{Valid, Unsat}
use Rattle.record.specs.Trail.{Trail}
use Rattle.record.proofs.Laws.Accepted.{prefix_length}
use Rattle.memory.specs.Memory.{Memory, record_places}
use Rattle.memory.specs.Refusals.{open_rows, open_refusal}
use Rattle.memory.proofs.Laws.Opened.{open_passes, room_record}
use Rattle.session.specs.declared.Revision.{Revision}
use Rattle.session.specs.declared.Session.{Session}
use Rattle.session.specs.Outcome.{open_outcome}
use Rattle.session.specs.Calls.{Desk, Call, play}
use Rattle.session.specs.History.{fresh_desk, history_kept}
use Rattle.listing.specs.Opening.{openings, values_of}
use Rattle.listing.specs.Page.{first_universal}
use Rattle.listing.specs.Wins.{wins}
use Rattle.listing.proofs.Found.{valid_wins, unsat_loses}
use Rattle.listing.specs.Found.{Found}
use Rattle.shown.specs.Shown.{no_witness, of_shown, shown_refusal, shown_of}

-- the call is accepted, and writes the values of an opening that wins or loses as v says
pub record Shows (L : Limits) (b : List ℤ) (d : Desk) (out : List ℤ) (v : Bool) : Type 0 where
  pub opening : ℕ
  pub below : opening < openings (formula_of b)
  pub won : wins (formula_of b) opening ≡ v
  pub leaves : shown_of L d.latest b d.memory.trail out ≡ outcome (Ok (first_group (formula_of b).prefix)) (sets out 0 (values_of opening (group_of (formula_of b))))

-- rows 12, 32 and 30, where those before have passed
pub from_12 : (L : Limits) (s : Session) (b : List ℤ) (t : Trail) (room : ℕ) → open_refusal L b (record_places t) ≡ 0 → shown_refusal L s b t room ≡ refusal_of (of_shown s b t room)
unfolding open_refusal shown_refusal
from_12 L s b t room = goes_on (open_rows L b (record_places t)) (of_shown s b t room) refl

module _ (L : Limits) (b : List ℤ) (m : Memory) (rev : Revision) (s : Session) (a : (open_outcome L b m rev).answer ≡ Ok s) (calls : List Call) (out : List ℤ) where
  d : Desk
  d = play L b (fresh_desk L b m rev s) calls

  accepted : no_witness d.latest.state (first_universal (formula_of b)) ≡ false → variables_of b ≤ length out → shown_refusal L d.latest b d.memory.trail (length out) ≡ 0
  unfolding d
  accepted w h =
      let k = history_kept L b m rev s a calls in
      let o = open_passes L b (record_places d.memory.trail) (room_record d.memory.trail (record { block = k.block; room = rw (← prefix_length L b k.block) k.kept.room })) in
      from_12 L d.latest b d.memory.trail (length out) o ∙ rw (k.kept.good, w, le-ltb (length out) (variables_of b) h)

  shows : (v : Bool) → Found b d v → shown_refusal L d.latest b d.memory.trail (length out) ≡ 0 → Shows L b d out v
  unfolding shown_of
  shows v f e = record { opening = f.opening; below = f.below; won = f.won; leaves = rw (e, f.values) }

  -- [shown.true] Valid, with a first group that is not universal: an opening that wins
  pub valid_shown : let d = play L b (fresh_desk L b m rev s) calls in d.latest.state ≡ Valid → first_universal (formula_of b) ≡ false → variables_of b ≤ length out → Shows L b d out true
  unfolding d
  valid_shown e u h = shows true (valid_wins L b m rev s a calls e) (accepted (rw (e, u)) h)

  -- [shown.true] Unsat, with a universal first group: a counter-example
  pub unsat_shown : let d = play L b (fresh_desk L b m rev s) calls in d.latest.state ≡ Unsat → first_universal (formula_of b) ≡ true → variables_of b ≤ length out → Shows L b d out false
  unfolding d
  unsat_shown e u h = shows false (unsat_loses L b m rev s a calls e) (accepted (rw (e, u)) h)
