-- What the rows that a call has passed show: the block's formula is proper and its prefix bound, the record is one that the rules keep, and its
-- reasons are right.
use Rattle.std.specs.Prelude.{ℕ, ◌+◌, ◌≤◌, ◌<◌, ◌≡◌, ◌⊎◌, Bool, true, false, not, ◌&&◌, List, eqb, ℤ, nat_abs, length}
use Rattle.std.proofs.Math.Path.{refl}
use Rattle.std.proofs.Common.{inl, inr}
use Rattle.std.proofs.Math.Bool.{and-false}
use borrow.Author.Tests.{eqb-true, ltb-false, not-false, lt-ltb, eq-eqb, ne_eqb}
use Rattle.words.specs.Laws.Bools.{clash, or_fl, or_fr}
use Rattle.words.specs.Rows.{refusal_of}
use Rattle.words.specs.Laws.Rows.{goes_on, first_part, passed}
use Rattle.words.specs.declared.Literal.{Literal}
use Rattle.formula.specs.Limits.{Limits}
use Rattle.formula.specs.Formula.{variables_of, clause_count_of, prefix_of, formula_of}
use Rattle.theory.specs.Record.{true_in}
use Rattle.theory.specs.Tests.{is_open}
use Rattle.record.specs.declared.rule.State.TheVariants.{Open}
use Rattle.rules.specs.Due.{due}
use Rattle.choice.specs.Preferred.{decides}
use Rattle.record.specs.Search.{record_in}
use Rattle.record.specs.Check.{bad_record}
use Rattle.record.specs.Inner.Ready.{OnBlock, Permitted}
use Rattle.record.proofs.Laws.Accepted.{prefix_length, on_block}
use Rattle.memory.proofs.Laws.Opened.{opened, open_passes, buffers_room, reasons_room, room_buffers}
use Rattle.session.specs.declared.Revision.{Revision}
use Rattle.session.specs.declared.Session.{Session}
use Rattle.memory.specs.Memory.{Memory, places}
use Rattle.memory.specs.Reasons.{bad_reasons}
use Rattle.memory.specs.Refusals.{open_rows, open_refusal}
use Rattle.search.proofs.Laws.Runs.{over_open}
use Rattle.session.specs.Refusals.{last_revision, proposed, of_session, session_rows, of_step, step_rows, step_refusal, of_run, run_rows, run_refusal}
use Rattle.session.specs.Inner.Guards.{session_refusal}
use Rattle.session.specs.Outcome.{search_of}

-- rows 11 and 12 as they speak of the reasons of a record of n entries
pub record Sound (b : List ℤ) (m : Memory) (n : ℕ) : Type 0 where
  pub places : variables_of b ≤ length m.reasons
  pub good : bad_reasons (clause_count_of b) m.trail.kinds m.reasons n ≡ false

-- ---- rows 1 to 14, which a step and a run share
pub record Guarded (L : Limits) (s : Session) (b : List ℤ) (m : Memory) (seen : Revision) : Type 0 where
  pub on : OnBlock L b m.trail s.length
  pub sound : Sound b m s.length
  pub live : s.state ≡ Open
  pub current : seen.0 ≡ s.revision.0

-- a proposal that passes rows 16 and 17 is 0, or such as the row asks, and the other way round
module _ (l : Literal) where
  proposed_so : (x : Bool) → (proposed l && not x) ≡ false → (nat_abs l.0 ≡ 0) ⊎ (x ≡ true)
  proposed_so = go (eqb (nat_abs l.0) 0) refl
    where
      go : (z : Bool) → eqb (nat_abs l.0) 0 ≡ z → (x : Bool) → (not z && not x) ≡ false → (nat_abs l.0 ≡ 0) ⊎ (x ≡ true)
      go true p x e = inl (eqb-true (nat_abs l.0) 0 p)
      go false p true e = inr refl
      go false p false e = clash refl e

  so_proposed : (x : Bool) → (nat_abs l.0 ≡ 0) ⊎ (x ≡ true) → (proposed l && not x) ≡ false
  so_proposed x (inl e) = rw (eq-eqb (nat_abs l.0) 0 e)
  so_proposed x (inr e) = rw e (and-false (proposed l))

module _ (L : Limits) (s : Session) (b : List ℤ) (m : Memory) (seen : Revision) where
  -- the rows from 12 on, where those before have passed; and from 15 on
  pub from_12 : open_refusal L b (places m) ≡ 0 → session_refusal L s b m seen ≡ refusal_of (of_session s b m seen)
  unfolding open_refusal session_refusal
  from_12 = goes_on (open_rows L b (places m)) (of_session s b m seen) refl

  pub step_from_15 : (l : Literal) → session_refusal L s b m seen ≡ 0 → step_refusal L s b m seen l ≡ refusal_of (of_step s b m seen l)
  unfolding step_refusal session_refusal
  step_from_15 l = goes_on (session_rows L s b m seen) (of_step s b m seen l) refl

  pub run_from_15 : (budget : ℕ) → session_refusal L s b m seen ≡ 0 → run_refusal L s b m seen budget ≡ refusal_of (of_run s b m seen budget)
  unfolding run_refusal session_refusal
  run_from_15 budget = goes_on (session_rows L s b m seen) (of_run s b m seen budget) refl

  pub guarded : session_refusal L s b m seen ≡ 0 → Guarded L s b m seen
  unfolding open_refusal session_refusal
  guarded e =
      let o = opened L b (places m) (first_part (open_rows L b (places m)) (of_session s b m seen) e) in
      let r = passed (session_rows L s b m seen) refl e in
      let x = bad_record (prefix_of b) m.trail s.length in
      let y = bad_reasons (clause_count_of b) m.trail.kinds m.reasons s.length in
      record {
        on = on_block b m.trail s.length (buffers_room m o) (or_fl x y (r 12));
        sound = record { places = reasons_room m o; good = or_fr x y (r 12) };
        live = over_open s.state (r 13);
        current = eqb-true seen.0 s.revision.0 (not-false _ (r 14));
      }

  -- an accepted step: its proposal is one that Decide may take
  pub record StepGuarded (l : Literal) : Type 0 where
    pub guard : Guarded L s b m seen
    pub permitted : Permitted (prefix_of b) (true_in (record_in (search_of s m))) l.0

  pub step_guarded : (l : Literal) → step_refusal L s b m seen l ≡ 0 → StepGuarded l
  unfolding step_refusal session_refusal formula_of
  step_guarded l e =
      let r = passed (step_rows L s b m seen l) refl e in
      record {
        guard = guarded (first_part (session_rows L s b m seen) (of_step s b m seen l) e);
        permitted = proposed_so l (is_open (prefix_of b) (true_in (record_in (search_of s m))) l.0) (r 17);
      }

  -- an accepted run: its revision can go up by its budget
  pub record RunGuarded (budget : ℕ) : Type 0 where
    pub guard : Guarded L s b m seen
    pub below : s.revision.0 + budget ≤ last_revision

  pub run_guarded : (budget : ℕ) → run_refusal L s b m seen budget ≡ 0 → RunGuarded budget
  unfolding run_refusal session_refusal
  run_guarded budget e =
      let r = passed (run_rows L s b m seen budget) refl e in
      record {
        guard = guarded (first_part (session_rows L s b m seen) (of_run s b m seen budget) e);
        below = ltb-false last_revision (s.revision.0 + budget) (r 15);
      }

  -- ---- the other way round: a call that is so breaks no row but 15
  module _ (g : Guarded L s b m seen) where
    guard_passes : session_refusal L s b m seen ≡ 0
    guard_passes =
        let o = open_passes L b (places m) (room_buffers m (record { block = g.on.block; room = rw (← prefix_length L b g.on.block) g.on.kept.room }) g.sound.places) in
        rw (from_12 o, g.on.kept.good, g.sound.good, g.live, eq-eqb seen.0 s.revision.0 g.current)

    pub step_last : s.revision.0 ≡ last_revision → (l : Literal) → step_refusal L s b m seen l ≡ 15
    step_last e l = rw (step_from_15 l guard_passes, eq-eqb s.revision.0 last_revision e)

    pub run_last : (budget : ℕ) → last_revision < s.revision.0 + budget → run_refusal L s b m seen budget ≡ 15
    run_last budget h = rw (run_from_15 budget guard_passes, lt-ltb last_revision (s.revision.0 + budget) h)

    pub step_passes : (s.revision.0 ≡ last_revision → ⊥) → (l : Literal) → let r = record_in (search_of s m) in
        (nat_abs l.0 ≡ 0) ⊎ (decides (due (formula_of b) r) ≡ true) → Permitted (prefix_of b) (true_in r) l.0 → step_refusal L s b m seen l ≡ 0
    unfolding formula_of
    step_passes below l d a =
        let r = record_in (search_of s m) in
        rw (step_from_15 l guard_passes, ne_eqb s.revision.0 last_revision below, so_proposed l (decides (due (formula_of b) r)) d, so_proposed l (is_open (prefix_of b) (true_in r) l.0) a)
