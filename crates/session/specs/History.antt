-- [demand.2] Any history of calls from an accepted opening on. On every desk that they lead to, the accepted steps are a path of the theory's rules
-- from the empty record to the search that stands there; what [order] says of every such path is said of the desk.
use Rattle.session.specs.Run.{run_to}
use Rattle.words.specs.declared.Refusal.{Refusal}
use Prim.Native.Nat.{ℕ, zero, suc, ◌+◌, ◌-◌, ◌^◌, ◌≤◌, ◌<◌}
use Rattle.std.specs.Prelude.{◌≡◌, Bool, ℤ, pos, get_or, Ok, Err, Result}
use Rattle.std.proofs.Math.Path.{refl, ap}
use Rattle.std.proofs.Common.{inl}
use Rattle.std.proofs.Math.Bool.{true, false}
use mathlib.Core.List.{List, [], ◌∷◌}
use native.Mathlib.Omega.{arith}
use Rattle.words.specs.Outcomes.{Outcome, unless_ok, by_row}
use Rattle.words.specs.declared.Literal.{Literal}
use Rattle.formula.specs.Limits.{Limits}
use Rattle.formula.specs.Formula.{formula_of, variables_of, prefix_of}
use Rattle.formula.specs.Block.{refusal}
use Rattle.formula.specs.Truth.{true?}
use Rattle.theory.specs.Rules.{going, Step, Path, stop}
use Rattle.theory.proofs.Laws.Moves.{path_snoc, good_none}
use Rattle.theory.proofs.Theorem.{accepted_any_order}
use Rattle.record.specs.declared.rule.State.{State}
use Rattle.record.specs.declared.rule.State.TheVariants.{Open, Valid, Unsat}
use Rattle.record.specs.Found.{literal}
use Rattle.record.specs.Trail.{record_of, wiped_trail}
use Rattle.record.proofs.Laws.Wiped.{wiped_length}
use Rattle.record.proofs.Laws.Good.{good_kept}
use Rattle.record.specs.Search.{record_in, standing_of}
use Rattle.record.specs.Inner.Ready.{KeptIn, OnBlock}
use Rattle.record.proofs.Laws.Accepted.{prefix_length, accepted_binds}
use Rattle.session.specs.declared.Revision.{Revision}
use Rattle.session.specs.declared.Session.{Session}
use Rattle.session.specs.declared.Stepped.{Stepped}
use Rattle.session.specs.declared.Ran.{Ran}
use Rattle.memory.specs.Memory.{Memory, places}
use Rattle.session.specs.Forced.{Forced, Explained}
use Rattle.memory.specs.Reasons.{bad_reasons}
use Rattle.memory.specs.Refusals.{open_refusal}
use Rattle.session.specs.Refusals.{last_revision}
use Rattle.session.specs.Outcome.{session, open_outcome, step_to}
use Rattle.session.specs.Calls.{Desk, desk, Call, step, run, after_step, step_at, run_at, call, play}
use Rattle.memory.proofs.Laws.Opened.{opened, buffers_room, reasons_room}
use Rattle.session.specs.Laws.Accepted.{Sound, Guarded, step_last, run_last, step_passes}
use Rattle.session.specs.Laws.Each.{Each}
use Rattle.session.specs.Refused.{step_refused, run_refused, step_refused_leaves}
use Rattle.session.specs.Stepped.{accepted_is, accepted_step}
use Rattle.session.specs.RunSteps.{search_at, handed, by_hand, hand_used, run_is_steps, run_pauses}

-- the state that tells the truth
abbrev pub verdict_of : Bool → State
verdict_of true = Valid
verdict_of false = Unsat

-- what is asked of a desk of a session opened at the revision `first` on the block b
pub record Demand (L : Limits) (b : List ℤ) (first : ℕ) (d : Desk) : Type 0 where
  -- [demand.2.steps]
  pub steps : d.steps < 2 ^ suc (variables_of b)
  pub open_fewer : d.latest.state ≡ Open → suc d.steps < 2 ^ suc (variables_of b)
  -- [demand.2.revision]
  pub revision : d.latest.revision.0 ≡ first + d.steps
  -- [demand.2.valid]
  pub valid_true : d.latest.state ≡ Valid → true? (formula_of b) ≡ true
  -- [demand.2.unsat]
  pub unsat_false : d.latest.state ≡ Unsat → true? (formula_of b) ≡ false
  -- [demand.2.goes-on]
  pub accepted : d.latest.state ≡ Open → (d.latest.revision.0 ≡ last_revision → ⊥)
      → (s : Session) × (w : ℕ) × ((step_at L b d d.latest.revision (literal (pos 0))).answer ≡ Ok (step_to s w))
  -- [demand.2.last] whatever is proposed; and so is a run that would go past the last revision
  pub refused : d.latest.state ≡ Open → d.latest.revision.0 ≡ last_revision
      → (l : Literal) → (step_at L b d d.latest.revision l).answer ≡ Err (by_row 15)
  pub run_stopped : d.latest.state ≡ Open → (budget : ℕ) → last_revision < d.latest.revision.0 + budget
      → (preferred : List ℤ) → (run_at L b d d.latest.revision budget preferred).answer ≡ Err (by_row 15)

-- ---- what every call keeps
-- the record of a desk was reached by a path, and one more rule made its state
pub record Closed (b : List ℤ) (d : Desk) : Type 0 where
  pub before : ℕ
  pub path : Path (formula_of b) before (going []) (going (record_in (search_at d)))
  pub rule : Step (formula_of b) (record_in (search_at d)) (standing_of (search_at d))

record Invariant (b : List ℤ) (first : ℕ) (d : Desk) : Type 0 where
  path : Path (formula_of b) d.steps (going []) (standing_of (search_at d))
  kept : KeptIn (prefix_of b) (search_at d)
  -- the rule that ended it left the record
  ended : (d.latest.state ≡ Open → ⊥) → Closed b d
  sound : Sound b d.memory d.latest.length
  explained : Each (Explained (formula_of b)) (search_at d) d.memory.reasons
  revision : d.latest.revision.0 ≡ first + d.steps

module _ (L : Limits) (b : List ℤ) (first : ℕ) where
  -- one more rule, or none
  step_holds : (d : Desk) (seen : Revision) (l : Literal) → Invariant b first d → Invariant b first (call L b d (step seen l))
  unfolding call
  step_holds d seen l r = go (step_at L b d seen l).answer refl
    where
      go : (a : Result Stepped Refusal) → (step_at L b d seen l).answer ≡ a → Invariant b first (after_step d a (step_at L b d seen l).memory)
      go (Ok q) e =
          let f = accepted_step L d.latest b d.memory seen l q.session q.reason e in
          let x : d.steps + 1 ≡ suc d.steps = omega arith in
          let y = r.revision in
          let z = f.revision in
          record {
            path = rw x (path_snoc (formula_of b) (rw f.live at r.path) f.step);
            kept = f.kept;
            ended = λ g.
                let (t, c) = f.ended_leaves g in
                let same : record_of (step_at L b d seen l).memory.trail q.session.length ≡ record_of d.memory.trail d.latest.length = rw (t, c) in
                record { before = d.steps; path = rw same (rw f.live at r.path); rule = rw same (rw same at f.step) };
            sound = f.sound;
            explained = f.explained r.explained;
            revision = omega arith;
          }
      go (Err n) e = let w = step_refused_leaves L d.latest b d.memory seen l n.0 e in rw w.memory r

  hand_holds : (preferred : List ℤ) (c : ℕ) (d : Desk) → Invariant b first d → Invariant b first (by_hand L b preferred c d)
  unfolding by_hand handed
  hand_holds preferred zero d r = r
  hand_holds preferred (suc c) d r = hand_holds preferred c (handed L b preferred d) (step_holds d _ _ r)

  hand_calls : (preferred : List ℤ) (n : ℕ) (d : Desk) → (calls : List Call) × (play L b d calls ≡ by_hand L b preferred n d)
  unfolding by_hand handed play
  hand_calls preferred zero d = ([], refl)
  hand_calls preferred (suc n) d = let (calls, e) = hand_calls preferred n (handed L b preferred d) in (step _ _ ∷ calls, e)

  call_holds : (d : Desk) (c : Call) → Invariant b first d → Invariant b first (call L b d c)
  call_holds d (step seen l) r = step_holds d seen l r
  call_holds d (run seen budget preferred) r = rw (run_is_steps L b d seen budget preferred) (hand_holds preferred _ d r)

  play_holds : (cs : List Call) (d : Desk) → Invariant b first d → Invariant b first (play L b d cs)
  unfolding play
  play_holds [] d r = r
  play_holds (c ∷ cs) d r = play_holds cs (call L b d c) (call_holds d c r)

-- ---- what is kept is what is asked
module _ (L : Limits) (b : List ℤ) (block : refusal L b ≡ 0) (first : ℕ) where
  guard : (d : Desk) → Invariant b first d → d.latest.state ≡ Open → Guarded L d.latest b d.memory d.latest.revision
  guard d r o = record { on = record { block = block; kept = r.kept }; sound = r.sound; live = o; current = refl }

  demand : (d : Desk) → Invariant b first d → Demand L b first d
  unfolding formula_of
  demand d r =
      let any = accepted_any_order L b block in
      record {
        steps = rw (prefix_length L b block) at (any.short r.path);
        open_fewer = λ o. rw (prefix_length L b block) at (any.fewer (rw o at r.path));
        revision = r.revision;
        valid_true = λ e. any.right true (rw e at r.path);
        unsat_false = λ e. any.right false (rw e at r.path);
        accepted = λ o h.
            let e = step_passes L _ _ _ _ (guard d r o) h (literal (pos 0)) (inl refl) (inl refl) in
            (_, _, ap (λ (o : Outcome Memory (Result Stepped Refusal)). o.answer) (accepted_is L _ _ _ _ _ e));
        refused = λ o h l. ap (λ (o : Outcome Memory (Result Stepped Refusal)). o.answer) (step_refused L _ _ _ _ l 14 (step_last L _ _ _ _ (guard d r o) h l));
        run_stopped = λ o budget h preferred. ap (λ (o : Outcome Memory (Result Ran Refusal)). o.answer) (run_refused L _ _ _ _ budget preferred 14 (run_last L _ _ _ _ (guard d r o) budget h));
      }

  -- a session that isn't open tells the truth
  decided : (d : Desk) → Invariant b first d → (d.latest.state ≡ Open → ⊥) → d.latest.state ≡ verdict_of (true? (formula_of b))
  decided d r f = go d.latest.state refl
    where
      go : (st : State) → d.latest.state ≡ st → st ≡ verdict_of (true? (formula_of b))
      go Open e = absurd (f e)
      go Valid e = rw ((demand d r).valid_true e)
      go Unsat e = rw ((demand d r).unsat_false e)

-- ---- after an accepted opening
-- the desk that it leaves
abbrev pub fresh_desk : Limits → List ℤ → Memory → Revision → Session → Desk
fresh_desk L b m rev s = desk s (open_outcome L b m rev).memory 0 0

module _ (L : Limits) (b : List ℤ) (m : Memory) (rev : Revision) (s : Session) (a : (open_outcome L b m rev).answer ≡ Ok s) where
  open_passed : open_refusal L b (places m) ≡ 0
  unfolding open_outcome
  open_passed = unless_ok (open_refusal L b (places m)) m _ s a

  pub block : refusal L b ≡ 0
  block = (opened L b (places m) open_passed).block

  begun : Invariant b rev.0 (fresh_desk L b m rev s)
  unfolding open_outcome formula_of record_of bad_reasons
  begun =
      let o = opened L b (places m) open_passed in
      let room = (buffers_room m o).room in
      let bound = accepted_binds L b block in
      let n = prefix_length L b block in
      let a' = rw open_passed at a in
      let z : s ≡ session 0 rev.0 Open = cc in
      rw (open_passed, z)
      (record {
        path = stop;
        ended = λ f. absurd (f refl);
        kept = record {
          prefix = bound;
          room = record { lits = rw (wiped_length, n) room.lits; kinds = rw (wiped_length, n) room.kinds };
          good = good_kept (formula_of b) (wiped_trail m.trail 0 (variables_of b)) 0 bound (omega arith) (good_none (formula_of b));
        };
        sound = record { places = rw (wiped_length 0 m.reasons 0 (variables_of b)) (reasons_room m o); good = refl };
        explained = λ j h. absurd (omega arith);
        revision = omega arith;
      })

  kept_after : (calls : List Call) → Invariant b rev.0 (play L b (fresh_desk L b m rev s) calls)
  kept_after calls = play_holds L b rev.0 calls (fresh_desk L b m rev s) begun

  -- [order.rules] the accepted steps of a history, exactly as many as it counts, are one path of the rules from the empty record
  pub history_path : (calls : List Call) → let d = play L b (fresh_desk L b m rev s) calls in Path (formula_of b) d.steps (going []) (standing_of (search_at d))
  history_path calls = (kept_after calls).path

  -- the block and the record pass rows 1 to 12 again
  pub history_kept : (calls : List Call) → let d = play L b (fresh_desk L b m rev s) calls in OnBlock L b d.memory.trail d.latest.length
  history_kept calls = record { block = block; kept = (kept_after calls).kept }

  -- and where it has ended, its last rule left the record that the path before it came to
  pub history_ended : (calls : List Call) → let d = play L b (fresh_desk L b m rev s) calls in (d.latest.state ≡ Open → ⊥) → Closed b d
  history_ended calls = (kept_after calls).ended

  -- [demand.2.reasons] each reason that is not 0 names a clause that did force its entry's literal, given the entries before it
  pub reasons_forced : (calls : List Call) → let d = play L b (fresh_desk L b m rev s) calls in
      (j c : ℕ) → j < d.latest.length → get_or d.memory.reasons j 0 ≡ suc c
      → Forced (formula_of b) (record_of d.memory.trail j) (get_or d.memory.trail.lits j (pos 0)) c
  reasons_forced calls j c h e = (kept_after calls).explained j h c e

  -- [demand.2.history] whatever is called
  pub any_history : (calls : List Call) → Demand L b rev.0 (play L b (fresh_desk L b m rev s) calls)
  any_history calls = demand L b block rev.0 _ (kept_after calls)

  -- [demand.2.steps] so an accepted run ends the session, with the truth, if the steps so far and its budget are together at least 2^(V+1) - 1. A
  -- budget has 32 bits: with 32 variables or more none is so large, and a fresh session may need more runs than one
  pub enough_ends : (calls : List Call) (seen : Revision) (budget : ℕ) (preferred : List ℤ) (s' : Session) (c w : ℕ) → let d = play L b (fresh_desk L b m rev s) calls in
      (run_at L b d seen budget preferred).answer ≡ Ok (run_to s' c w) → 2 ^ suc (variables_of b) ≤ suc (d.steps + budget) → s'.state ≡ verdict_of (true? (formula_of b))
  unfolding call
  enough_ends calls seen budget preferred s' c w e h =
      let d = play L b (fresh_desk L b m rev s) calls in
      let r = rw e at (call_holds L b rev.0 d (run seen budget preferred) (kept_after calls)) in
      decided L b block rev.0 _ r
      (λ o.
      let u = (run_pauses L b d seen budget preferred s' c w e).used o in
      let l = (demand L b block rev.0 _ r).open_fewer o in
      omega arith)

  -- as many steps made by hand end it too, those after the end being refused, if the first revision leaves room for them
  pub steps_end : (preferred : List ℤ) → let n = 2 ^ suc (variables_of b) - 1 in
      rev.0 + n ≤ last_revision → (by_hand L b preferred n (fresh_desk L b m rev s)).latest.state ≡ verdict_of (true? (formula_of b))
  steps_end preferred h =
      let n = 2 ^ suc (variables_of b) - 1 in
      let r = hand_holds L b rev.0 preferred n (fresh_desk L b m rev s) begun in
      let first = begun.revision in
      decided L b block rev.0 _ r
      (λ o.
      let u = hand_used L b preferred block n (fresh_desk L b m rev s) begun.kept begun.sound (omega arith) o in
      let l = (demand L b block rev.0 _ r).open_fewer o in
      omega arith)

  -- so some history ends, of steps alone
  pub some_history_ends : rev.0 + (2 ^ suc (variables_of b) - 1) ≤ last_revision → (calls : List Call) × ((play L b (fresh_desk L b m rev s) calls).latest.state ≡ verdict_of (true? (formula_of b)))
  some_history_ends h =
      let (calls, e) = hand_calls L b rev.0 [] (2 ^ suc (variables_of b) - 1) (fresh_desk L b m rev s) in
      (calls, rw e (steps_end [] h))
