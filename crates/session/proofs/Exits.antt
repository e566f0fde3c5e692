-- The ways out of opening and of a step: one law for each, from the facts on that path.
use Rattle.std.specs.Prelude.{Ok, Err}
use Prim.Native.Nat.{ℕ, ◌+◌}
use mathlib.Core.Path.{◌≡◌, ap, ◌∙◌}
use mathlib.Core.List.{List}
use lib.IntN.{ℤ}
use lib.ListN.{take}
use borrow.Author.Tests.{eq-eqb, ne_eqb}
use Rattle.words.specs.Outcomes.{outcome, refused}
use Rattle.words.specs.Rows.{refusal_of}
use Rattle.words.specs.declared.Literal.{Literal}
use Rattle.formula.specs.Formula.{variables_of, prefix_of, formula_of}
use Rattle.theory.specs.Record.{among}
use Rattle.record.specs.declared.rule.State.TheVariants.{Open}
use Rattle.record.specs.declared.rule.Reached.{Reached}
use Rattle.record.specs.declared.rule.Rule.{Rule}
use Rattle.rules.specs.Due.{due}
use Rattle.record.specs.Search.{search, reached}
use Rattle.record.specs.Trail.{record_of, Trail, wiped, wiped_trail}
use Rattle.applied.specs.Apply.{apply}
use Rattle.record.proofs.Laws.Accepted.{kept_true}
use Rattle.session.specs.declared.Revision.{Revision}
use Rattle.session.specs.declared.Session.{Session}
use Rattle.memory.specs.Memory.{Memory, places}
use Rattle.memory.specs.Reasons.{Why, why, told}
use Rattle.memory.specs.Refusals.{open_refusal}
use Rattle.session.specs.Refusals.{last_revision, session_rows, of_step, step_refusal}
use Rattle.session.specs.Outcome.{session, open_outcome, step_outcome, step_to}
use Rattle.session.specs.Laws.Accepted.{Guarded, guarded, step_from_15}
use Rattle.session.specs.Inner.Guards.{session_refusal, proposal_refusal}
use Rattle.memory.specs.Inner.Reasons.{OnMemory}
use Rattle.words.specs.declared.Refusal.{Refusal}
use Rattle.formula.specs.Check.{checked_of}
use Rattle.formula.specs.Laws.Check.{checked_accepted, checked_stops, checked_leaves}
use Rattle.formula.specs.Limits.{limits}

-- ---- opening
module _ (b : List ℤ) (m : Memory) (rev : Revision) {k : ℕ} (have : k ≡ places m) where
  pub open_stops : (e : Refusal) → Err e ≡ checked_of (open_refusal limits b k) → outcome (Err e) m ≡ open_outcome limits b m rev
  unfolding open_outcome
  open_stops e h = checked_leaves (open_refusal limits b (places m)) m _ e (rw have at h)

  pub open_clears : (u : Unit {0}) → Ok u ≡ checked_of (open_refusal limits b k)
      → {n : ℕ} → n ≡ variables_of b → {t' : Trail} → t' ≡ wiped_trail m.trail 0 n → {ws : List ℕ} → ws ≡ wiped 0 m.reasons 0 n
      → outcome (Ok (session 0 rev.0 Open)) (record { trail = t'; reasons = ws }) ≡ open_outcome limits b m rev
  unfolding open_outcome
  open_clears u h is w v = let z = checked_accepted (open_refusal limits b k) u h in rw (← have, z, ← is, ← w, ← v)

-- ---- where the rows that a step and a run share have passed
module _ (s : Session) (b : List ℤ) (m : Memory) (seen : Revision) (u : Unit {0}) (e : Ok u ≡ checked_of (session_refusal limits s b m seen)) where
  pub none_shared : session_refusal limits s b m seen ≡ 0
  none_shared = checked_accepted (session_refusal limits s b m seen) u e

  pub shared : Guarded limits s b m seen
  shared = guarded limits s b m seen none_shared

  pub on_memory : OnMemory b m s.length
  on_memory = record { on = shared.on; places = shared.sound.places }

-- ---- a step
module _ (s : Session) (b : List ℤ) (m : Memory) (seen : Revision) (l : Literal) where
  pub step_stops : (e : Refusal) → Err e ≡ checked_of (session_refusal limits s b m seen) → outcome (Err e) m ≡ step_outcome limits s b m seen l
  unfolding step_outcome step_refusal session_refusal
  step_stops e h = checked_leaves _ m _ e (checked_stops (session_rows limits s b m seen) (of_step s b m seen l) e h)

  module _ (u : Unit {0}) (e : Ok u ≡ checked_of (session_refusal limits s b m seen)) where
    from_15 : step_refusal limits s b m seen l ≡ refusal_of (of_step s b m seen l)
    from_15 = step_from_15 limits s b m seen l (none_shared s b m seen u e)

    pub step_last : s.revision.0 ≡ last_revision → outcome (refused 15) m ≡ step_outcome limits s b m seen l
    unfolding step_outcome
    step_last h = rw (from_15, eq-eqb s.revision.0 last_revision h)

    module _ (below : s.revision.0 ≡ last_revision → ⊥) {rule : Rule} (is : rule ≡ due (formula_of b) (record_of m.trail s.length)) where
      step_from_16 : step_refusal limits s b m seen l ≡ proposal_refusal (prefix_of b) (among (take s.length m.trail.lits)) rule l
      unfolding proposal_refusal formula_of
      step_from_16 = rw (from_15, ne_eqb s.revision.0 last_revision below, kept_true (prefix_of b) m.trail s.length (shared s b m seen u e).on.kept, ← is)

      pub step_improper : (d : Refusal) → Err d ≡ checked_of (proposal_refusal (prefix_of b) (among (take s.length m.trail.lits)) rule l)
          → outcome (Err d) m ≡ step_outcome limits s b m seen l
      unfolding step_outcome
      step_improper d h = checked_leaves (step_refusal limits s b m seen l) m _ d (rw step_from_16 h)

      pub step_moves : (v : Unit {0}) → Ok v ≡ checked_of (proposal_refusal (prefix_of b) (among (take s.length m.trail.lits)) rule l)
          → (t : Reached) (t' : Trail) → reached t t' ≡ apply (prefix_of b) rule l.0 (search m.trail s.length Open)
          → {s' : Session} → s' ≡ session t.count (s.revision.0 + 1) t.state
          → (ws : List ℕ) (w : ℕ) → why ws w ≡ told rule s.length m.reasons
          → outcome (Ok (step_to s' w)) (record { trail = t'; reasons = ws }) ≡ step_outcome limits s b m seen l
      unfolding step_outcome
      step_moves v h t t' a is' ws w y =
          let none = step_from_16 ∙ checked_accepted (proposal_refusal (prefix_of b) (among (take s.length m.trail.lits)) rule l) v h in
          let x = ap (λ (w : Why). w.reasons) y in
          let q = ap (λ (w : Why). w.last) y in
          rw (none, (shared s b m seen u e).live, ← is, ← a, is', ← x, ← q)
