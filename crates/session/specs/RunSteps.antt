-- A run is steps made by hand, one after the other, each at the revision of the moment and with the proposal that the preferences give: they leave
-- the same desk. By induction on the budget: each rule of the run is an accepted step, and after the end a step is refused.
use Rattle.words.specs.Outcomes.{unless_ok}
use Rattle.words.specs.declared.Refusal.{Refusal}
use Prim.Native.Nat.{ℕ, zero, suc, ◌+◌, ◌≤◌, ◌<◌}
use Rattle.std.specs.Prelude.{◌≡◌, true, List, ℤ, Ok, Err}
use Rattle.std.proofs.Math.Path.{refl, sym, ap, ap₂}
use Rattle.std.proofs.Common.{◌∙◌, Result}
use Rattle.std.proofs.Math.Logic.{inl, inr}
use native.Mathlib.Omega.{arith}
use Rattle.words.specs.Laws.Bools.{look}
use Rattle.words.specs.declared.Literal.{Literal}
use Rattle.formula.specs.Limits.{Limits}
use Rattle.formula.specs.Formula.{formula_of, prefix_of}
use Rattle.formula.specs.Block.{refusal}
use Rattle.theory.specs.Record.{true_in}
use Rattle.record.specs.declared.rule.State.TheVariants.{Open}
use Rattle.record.specs.Found.{literal}
use Rattle.rules.specs.Due.{due}
use Rattle.record.specs.Search.{Search, record_in}
use Rattle.record.specs.Inner.Ready.{KeptIn}
use Rattle.choice.specs.Preferred.{proposal_of}
use Rattle.session.specs.declared.Revision.{Revision}
use Rattle.session.specs.declared.Session.{Session}
use Rattle.session.specs.declared.Ran.{Ran}
use Rattle.memory.specs.Memory.{memory_of}
use Rattle.search.specs.Run.{over, Trip, trip, advance, run_from, why_from}
use Rattle.session.specs.Refusals.{last_revision, run_refusal}
use Rattle.memory.specs.Reasons.{Why, why, told}
use Rattle.session.specs.Laws.Accepted.{Sound, Guarded, run_guarded, step_passes}
use Rattle.session.specs.Laws.Sound.{sound_after}
use Rattle.session.specs.Outcome.{moved, search_of}
use Rattle.session.specs.Run.{ran, run_of, run_to}
use Rattle.search.proofs.Laws.Runs.{over_open, proposal_passes, advance_keeps, run_ended, loop_last, run_further, run_counted, why_more, why_ended, why_none, why_counted, why_latest, why_silent, Travelled, travelled}
use Rattle.session.specs.Calls.{Desk, desk, step, run, after_run, run_at, call}
use Rattle.session.specs.Refused.{run_refused, ended_step_refused}
use Rattle.session.specs.Stepped.{accepted_is}

abbrev pub search_at : Desk → Search
search_at d = search_of d.latest d.memory

-- what a run would propose on a desk
abbrev pub proposal_at : List ℤ → List ℤ → Desk → Literal
proposal_at b preferred d =
    let r = record_in (search_at d) in
    literal (proposal_of (prefix_of b) (true_in r) preferred (due (formula_of b) r))

-- one step by hand with that proposal, at the revision of the moment; and n of them
unfoldable pub handed : Limits → List ℤ → List ℤ → Desk → Desk
handed L b preferred d = call L b d (step d.latest.revision (proposal_at b preferred d))

unfoldable pub by_hand : Limits → List ℤ → List ℤ → ℕ → Desk → Desk
by_hand L b preferred zero d = d
by_hand L b preferred (suc n) d = by_hand L b preferred n (handed L b preferred d)

-- ---- steps by hand, rule by rule
-- a desk whose search has gone on by a trip, with the reasons of its steps
abbrev desk_after : Desk → Trip → Why → Desk
desk_after d u w = desk (moved d.latest u.steps u.reached) (memory_of u.reached w.reasons) (d.steps + u.steps) w.last

-- the reasons on a desk
abbrev why_at : Desk → Why
why_at d = why d.memory.reasons d.reason

-- and those after the due rule
abbrev told_at : List ℤ → Desk → Why
told_at b d = told (due (formula_of b) (record_in (search_at d))) d.latest.length d.memory.reasons

module _ (L : Limits) (b : List ℤ) (preferred : List ℤ) where
  -- a session that has ended stays: the step is refused
  hand_ended : (d : Desk) → over d.latest.state ≡ true → handed L b preferred d ≡ d
  unfolding handed call
  hand_ended d h =
      let (n, i, e) = ended_step_refused L d.latest b d.memory d.latest.revision h (proposal_at b preferred d) in rw e

  module _ (block : refusal L b ≡ 0) where
    hand_step : (d : Desk) → KeptIn (prefix_of b) (search_at d) → Sound b d.memory d.latest.length → d.latest.state ≡ Open → d.latest.revision.0 < last_revision
        → handed L b preferred d ≡ desk_after d (trip (advance (formula_of b) preferred (search_at d)) 1) (told_at b d)
    unfolding handed call advance formula_of
    hand_step d k w o h =
        let r = record_in (search_at d) in
        let (due-or-none, permitted) = proposal_passes (prefix_of b) (true_in r) preferred (due (formula_of b) r) in
        let g : Guarded L d.latest b d.memory d.latest.revision = record { on = record { block = block; kept = k }; sound = w; live = o; current = refl } in
        let below : d.latest.revision.0 ≡ last_revision → ⊥ = λ e. omega arith in
        let e = step_passes L _ _ _ _ g below (proposal_at b preferred d) due-or-none permitted in
        rw (accepted_is L _ _ _ _ _ e)

    hand_sound : (d : Desk) → KeptIn (prefix_of b) (search_at d) → Sound b d.memory d.latest.length
        → let u = advance (formula_of b) preferred (search_at d) in Sound b (memory_of u (told_at b d).reasons) u.count
    unfolding advance formula_of
    hand_sound d k w = sound_after L b (search_at d) d.memory.reasons (record { block = block; kept = k }) w _

    -- as many as a budget are the run with that budget
    hand_run : (n : ℕ) (d : Desk) → KeptIn (prefix_of b) (search_at d) → Sound b d.memory d.latest.length → d.latest.revision.0 + n ≤ last_revision
        → by_hand L b preferred n d ≡ desk_after d (run_from (formula_of b) preferred n (search_at d) 0) (why_from (formula_of b) preferred n (search_at d) (why_at d))
    unfolding by_hand formula_of
    hand_run zero d k w h =
        let x : d.latest.revision.0 + 0 ≡ d.latest.revision.0 = omega arith in
        let y : d.steps + 0 ≡ d.steps = omega arith in
        rw (loop_last (formula_of b) preferred 0 (search_at d) 0 (omega arith), why_none (formula_of b) preferred 0 (search_at d) (why_at d) 0 (omega arith), x, y)
    hand_run (suc n) d k w h = elim (look (over d.latest.state)) [
      | inl e ↦
          let F = formula_of b in
          let t = search_at d in
          ap (by_hand L b preferred n) (hand_ended d e)
          ∙ hand_run n d k w (omega arith)
          ∙ ap₂ (desk_after d) (run_ended F preferred n t 0 e ∙ sym (run_ended F preferred (suc n) t 0 e)) (why_ended F preferred n t (why_at d) e ∙ sym (why_ended F preferred (suc n) t (why_at d) e))
      | inr e ↦
          let F = formula_of b in
          let t = search_at d in
          let o = over_open d.latest.state e in
          let u = run_from F preferred n (advance F preferred t) 0 in
          let x : d.latest.revision.0 + 1 + u.steps ≡ d.latest.revision.0 + (u.steps + 1) = omega arith in
          let y : d.steps + 1 + u.steps ≡ d.steps + (u.steps + 1) = omega arith in
          ap (by_hand L b preferred n) (hand_step d k w o (omega arith))
          ∙ hand_run n (desk_after d (trip (advance F preferred t) 1) (told_at b d)) (advance_keeps F preferred t k) (hand_sound d k w) (omega arith)
          ∙ rw (run_further F preferred n t o, why_more F preferred n t (why_at d) o, x, y)
    ]

    -- and if they leave the session open, each was accepted
    pub hand_used : (n : ℕ) (d : Desk) → KeptIn (prefix_of b) (search_at d) → Sound b d.memory d.latest.length → d.latest.revision.0 + n ≤ last_revision
        → (by_hand L b preferred n d).latest.state ≡ Open → (by_hand L b preferred n d).steps ≡ d.steps + n
    unfolding formula_of
    hand_used n d k w h o =
        let e = hand_run n d k w h in
        ap (λ (d : Desk). d.steps) e ∙ ap (λ (c : ℕ). d.steps + c) ((travelled (formula_of b) preferred n (search_at d) k).used (ap (λ (d : Desk). d.latest.state) (sym e) ∙ o))

-- ---- the run
-- how many steps an answer counts; a refused run has none
abbrev pub counted : Result Ran Refusal → ℕ
counted (Ok r) = r.steps
counted (Err e) = 0

module _ (L : Limits) (b : List ℤ) (d : Desk) (seen : Revision) (budget : ℕ) (preferred : List ℤ) where
  -- where an accepted run leads
  led : Trip
  led = run_from (formula_of b) preferred budget (search_at d) 0

  -- its reasons, the one before it being w
  led_why : ℕ → Why
  led_why w = why_from (formula_of b) preferred budget (search_at d) (why d.memory.reasons w)

  module _ (e : run_refusal L d.latest b d.memory seen budget ≡ 0) where
    run_accepted : run_at L b d seen budget preferred ≡ ran d.latest led (led_why 0)
    unfolding run_of led led_why
    run_accepted = rw e

    led_far : Travelled (formula_of b) preferred budget (search_at d) led
    unfolding led formula_of
    led_far = travelled (formula_of b) preferred budget (search_at d) (run_guarded L d.latest b d.memory seen budget e).guard.on.kept

    accepted_hand : (n : ℕ) → n ≤ budget → run_from (formula_of b) preferred n (search_at d) 0 ≡ led → why_from (formula_of b) preferred n (search_at d) (why_at d) ≡ led_why d.reason
        → by_hand L b preferred n d ≡ desk_after d led (led_why d.reason)
    accepted_hand n h q v =
        let g = run_guarded L d.latest b d.memory seen budget e in
        hand_run L b preferred g.guard.on.block n d g.guard.on.kept g.guard.sound (omega (arith, g.below)) ∙ ap₂ (desk_after d) q v

    -- the desk that the run's answer leads to
    run_desk : after_run d (run_at L b d seen budget preferred).answer (run_at L b d seen budget preferred).memory ≡ desk_after d led (led_why d.reason)
    unfolding led led_why
    run_desk = rw (run_accepted, why_latest (formula_of b) preferred budget (search_at d) d.memory.reasons d.reason)

  -- [demand.2.run] a run is the steps that it counts
  pub run_is_steps : call L b d (run seen budget preferred) ≡ by_hand L b preferred (counted (run_at L b d seen budget preferred).answer) d
  unfolding call by_hand led led_why
  run_is_steps = go (run_refusal L d.latest b d.memory seen budget) refl
    where
      go : (n : ℕ) → run_refusal L d.latest b d.memory seen budget ≡ n → call L b d (run seen budget preferred) ≡ by_hand L b preferred (counted (run_at L b d seen budget preferred).answer) d
      go zero e =
          let c : counted (run_at L b d seen budget preferred).answer ≡ led.steps = rw (run_accepted e) in
          run_desk e ∙ rw c (sym (accepted_hand e led.steps (led_far e).within (run_counted (formula_of b) preferred budget (search_at d)) (why_counted (formula_of b) preferred budget (search_at d) (why_at d))))
      go (suc n) e = rw (run_refused L d.latest b d.memory seen budget preferred n e)

  -- [run.pauses] the session that an accepted run answers is the one that as many steps by hand as its budget lead to (after the end they are
  -- refused), so that it is open exactly if they leave it open; and then all of the budget is used
  pub record Pauses (s' : Session) (c : ℕ) : Type 0 where
    pub as_by_hand : (by_hand L b preferred budget d).latest ≡ s'
    pub within : c ≤ budget
    pub used : s'.state ≡ Open → c ≡ budget

  pub run_pauses : (s' : Session) (c w : ℕ) → (run_at L b d seen budget preferred).answer ≡ Ok (run_to s' c w) → Pauses s' c
  unfolding run_of led led_why
  run_pauses s' c w₀ a =
      let e = unless_ok (run_refusal L d.latest b d.memory seen budget) d.memory _ (run_to s' c w₀) a in
      let w = led_far e in
      let a' = rw (run_accepted e) at a in
      let f : run_to (moved d.latest led.steps led.reached) led.steps (led_why 0).last ≡ run_to s' c w₀ = cc in
      let x = ap (λ (r : Ran). r.steps) f in
      let y = ap (λ (r : Ran). r.session) f in
      rw (← x, ← y)
      (record { as_by_hand = ap (λ (d : Desk). d.latest) (accepted_hand e budget (omega arith) refl refl); within = w.within; used = w.used })

  -- [run.reason] a run that made no step answers the reason 0, and leaves the reasons; of any other `run_is_steps` says that it is the last step's
  pub run_silent : (s' : Session) (w : ℕ) → (run_at L b d seen budget preferred).answer ≡ Ok (run_to s' 0 w) → (w ≡ 0) × ((run_at L b d seen budget preferred).memory.reasons ≡ d.memory.reasons)
  unfolding run_of led led_why
  run_silent s' w a =
      let e = unless_ok (run_refusal L d.latest b d.memory seen budget) d.memory _ (run_to s' 0 w) a in
      let a' = rw (run_accepted e) at a in
      let f : run_to (moved d.latest led.steps led.reached) led.steps (led_why 0).last ≡ run_to s' 0 w = cc in
      let x = ap (λ (r : Ran). r.steps) f in
      let y = ap (λ (r : Ran). r.reason) f in
      let z = why_silent (formula_of b) preferred budget (search_at d) d.memory.reasons x in
      (sym y ∙ ap (λ (w : Why). w.last) z, rw (run_accepted e) (ap (λ (w : Why). w.reasons) z))
