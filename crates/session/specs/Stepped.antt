-- What an accepted step leaves: the due rule's search, which is a step of the theory, and its reason, with a revision one more; and it writes no
-- place that the rule doesn't. What the guard has shown holds again after it. From the laws of the rules.
use Rattle.std.proofs.Common.{ap}
use Rattle.session.specs.declared.Stepped.{Stepped}
use Rattle.words.specs.Outcomes.{unless_ok}
use Rattle.std.specs.Prelude.{ℕ, ◌+◌, ◌≤◌, ◌<◌, ◌≡◌, refl, List, ℤ, length, get_or, Ok}
use Rattle.words.specs.declared.Literal.{Literal}
use Rattle.formula.specs.Formula.{formula_of, prefix_of}
use Rattle.formula.specs.Limits.{Limits}
use Rattle.theory.specs.Rules.{Step}
use Rattle.record.specs.declared.rule.State.TheVariants.{Open}
use Rattle.record.specs.declared.rule.Rule.{Rule}
use Rattle.rules.specs.Due.{due}
use Rattle.record.specs.Search.{Search, standing_of}
use Rattle.record.specs.Trail.{record_of, entry_at, no_entry}
use Rattle.applied.specs.Apply.{apply}
use Rattle.record.specs.Inner.Ready.{KeptIn}
use Rattle.applied.specs.Laws.Untouched.{apply_lengths, Elsewhere, apply_untouched, apply_zeros, apply_ended}
use Rattle.rules.proofs.Laws.Steps.{due_step, due_keeps}
use Rattle.session.specs.declared.Revision.{Revision}
use Rattle.session.specs.declared.Session.{Session}
use Rattle.memory.specs.Memory.{Memory, memory_of}
use Rattle.session.specs.Refusals.{step_refusal}
use Rattle.memory.specs.Reasons.{reason_of, noted}
use Rattle.session.specs.Laws.Accepted.{Sound, step_guarded}
use Rattle.session.specs.Forced.{Explained}
use Rattle.memory.proofs.Laws.Noted.{noted_length, noted_untouched, noted_zeros}
use Rattle.session.specs.Laws.Each.{Each}
use Rattle.session.specs.Laws.Sound.{sound_after}
use Rattle.session.specs.Laws.Forced.{explained_after}
use Rattle.session.specs.Outcome.{moved, search_of, stepped, step_outcome, step_to}

-- from a session s and its memory to the next, by an accepted step with the proposal l, whose answer has the reason w
pub record Ruled (b : List ℤ) (l : ℤ) (s s' : Session) (w : ℕ) (m m' : Memory) : Type 0 where
  pub live : s.state ≡ Open
  -- [demand.2.rule] it is the due rule, and a rule of the theory
  pub rule : search_of s' m' ≡ apply (prefix_of b) (due (formula_of b) (record_of m.trail s.length)) l (search_of s m)
  pub step : Step (formula_of b) (record_of m.trail s.length) (standing_of (search_of s' m'))
  -- [step.reason] [reasons]
  pub reason : w ≡ reason_of (due (formula_of b) (record_of m.trail s.length))
  pub reasons : m'.reasons ≡ noted (due (formula_of b) (record_of m.trail s.length)) s.length m.reasons
  -- [revision.adds]
  pub revision : s'.revision.0 ≡ s.revision.0 + 1
  -- [cut.wipes] [reasons.cut]
  pub zeros : (j : ℕ) → s'.length ≤ j → j < s.length → (entry_at m'.trail j ≡ no_entry) × (get_or m'.reasons j 0 ≡ 0)
  -- [writes.nothing-else] but for the last entry and those, all are as they were
  pub untouched : (j : ℕ) → Elsewhere j s.length s'.length → (entry_at m'.trail j ≡ entry_at m.trail j) × (get_or m'.reasons j 0 ≡ get_or m.reasons j 0)
  pub lengths : (length m'.trail.lits ≡ length m.trail.lits) × (length m'.trail.kinds ≡ length m.trail.kinds) × (length m'.reasons ≡ length m.reasons)
  -- [ended.leaves]
  pub ended_leaves : (s'.state ≡ Open → ⊥) → (m'.trail ≡ m.trail) × (s'.length ≡ s.length)
  -- rows 11 and 12 would pass again
  pub kept : KeptIn (prefix_of b) (search_of s' m')
  pub sound : Sound b m' s'.length
  -- [demand.2.reasons] and reasons that explain their entries do so still
  pub explained : Each (Explained (formula_of b)) (search_of s m) m.reasons → Each (Explained (formula_of b)) (search_of s' m') m'.reasons

module _ (L : Limits) (s : Session) (b : List ℤ) (m : Memory) (seen : Revision) (l : Literal) where
  -- where the due rule leads
  due_rule : Rule
  due_rule = due (formula_of b) (record_of m.trail s.length)

  ruled : Search
  ruled = apply (prefix_of b) due_rule l.0 (search_of s m)

  -- a step that breaks no row
  pub accepted_is : step_refusal L s b m seen l ≡ 0 → step_outcome L s b m seen l ≡ stepped s b l (search_of s m) m.reasons
  unfolding step_outcome
  accepted_is e = rw e

  stepped_ruled : step_refusal L s b m seen l ≡ 0 → Ruled b l.0 s (moved s 1 ruled) (reason_of due_rule) m (memory_of ruled (noted due_rule s.length m.reasons))
  unfolding due_rule ruled formula_of
  stepped_ruled e =
      let g = step_guarded L s b m seen l e in
      let t = search_of s m in
      let rule = due (formula_of b) (record_of m.trail s.length) in
      record {
        live = g.guard.live;
        rule = refl;
        reason = refl;
        reasons = refl;
        step = due_step (formula_of b) t g.guard.on.kept l.0 g.permitted;
        revision = refl;
        zeros = λ j h k. (apply_zeros (prefix_of b) rule l.0 t j h k, noted_zeros (prefix_of b) l.0 t m.reasons j rule h k);
        untouched = λ j h. (apply_untouched (prefix_of b) rule l.0 t j h, noted_untouched (prefix_of b) l.0 t m.reasons j rule h);
        lengths = let (x, y) = apply_lengths (prefix_of b) rule l.0 t in (x, y, noted_length rule s.length m.reasons);
        ended_leaves = apply_ended (prefix_of b) rule l.0 t;
        kept = due_keeps (formula_of b) t g.guard.on.kept l.0 g.permitted;
        sound = sound_after L b t m.reasons g.guard.on g.guard.sound l.0;
        explained = explained_after L b t m.reasons g.guard.on g.guard.sound.places l.0;
      }

  pub accepted_step : (s' : Session) (w : ℕ) → let o = step_outcome L s b m seen l in o.answer ≡ Ok (step_to s' w) → Ruled b l.0 s s' w m o.memory
  unfolding step_outcome due_rule ruled
  accepted_step s' w a =
      let e = unless_ok (step_refusal L s b m seen l) m _ (step_to s' w) a in
      let q = accepted_is e in
      let a' = rw q at a in
      let f : step_to (moved s 1 ruled) (reason_of due_rule) ≡ step_to s' w = cc in
      let z = ap (λ (r : Stepped). r.session) f in
      let y = ap (λ (r : Stepped). r.reason) f in
      rw (q, ← z, ← y) (stepped_ruled e)
