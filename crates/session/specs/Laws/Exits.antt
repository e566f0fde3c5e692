-- The ways out of a run: one law for each, from the facts on that path.
use Rattle.std.specs.Prelude.{ℕ, ◌+◌, ◌-◌, ◌≤◌, ◌<◌, ◌≡◌, List, ℤ, Ok, Err}
use Rattle.std.proofs.Common.{arith}
use borrow.Author.Tests.{lt-ltb, le-ltb}
use Rattle.words.specs.Outcomes.{outcome, refused}
use Rattle.words.specs.declared.Refusal.{Refusal}
use Rattle.formula.specs.Check.{checked_of}
use Rattle.formula.specs.Laws.Check.{checked_stops, checked_leaves}
use Rattle.formula.specs.Limits.{limits}
use Rattle.formula.specs.Formula.{formula_of}
use Rattle.record.specs.declared.rule.State.TheVariants.{Open}
use Rattle.record.specs.declared.rule.Reached.{Reached}
use Rattle.record.specs.Trail.{Trail}
use Rattle.record.specs.Search.{search, reached}
use Rattle.memory.specs.Memory.{Memory}
use Rattle.memory.specs.Reasons.{why}
use Rattle.search.specs.Run.{trip, run_from, why_from}
use Rattle.session.specs.declared.Revision.{Revision}
use Rattle.session.specs.declared.Session.{Session}
use Rattle.session.specs.Refusals.{last_revision, session_rows, of_run, run_refusal}
use Rattle.session.specs.Outcome.{session}
use Rattle.session.specs.Run.{run_of, run_to}
use Rattle.session.specs.Inner.Guards.{session_refusal}
use Rattle.session.specs.Laws.Accepted.{guarded, run_from_15}

module _ (s : Session) (b : List ℤ) (m : Memory) (seen : Revision) (budget : ℕ) (preferred : List ℤ) where
  pub run_stops : (e : Refusal) → Err e ≡ checked_of (session_refusal limits s b m seen) → outcome (Err e) m ≡ run_of limits s b m seen budget preferred
  unfolding run_of run_refusal session_refusal
  run_stops e h = checked_leaves _ m _ e (checked_stops (session_rows limits s b m seen) (of_run s b m seen budget) e h)

  module _ (z : session_refusal limits s b m seen ≡ 0) where
    pub run_over : last_revision - s.revision.0 < budget → outcome (refused 15) m ≡ run_of limits s b m seen budget preferred
    unfolding run_of
    run_over h = rw (run_from_15 limits s b m seen budget z, lt-ltb last_revision (s.revision.0 + budget) (omega arith))

    pub run_moves : s.revision.0 ≤ last_revision → budget ≤ last_revision - s.revision.0
        → (t : Reached) (steps : ℕ) (t' : Trail) → trip (reached t t') steps ≡ run_from (formula_of b) preferred budget (search m.trail s.length Open) 0
        → (ws : List ℕ) (w : ℕ) → why ws w ≡ why_from (formula_of b) preferred budget (search m.trail s.length Open) (why m.reasons 0)
        → {s' : Session} → s' ≡ session t.count (s.revision.0 + steps) t.state
        → outcome (Ok (run_to s' steps w)) (record { trail = t'; reasons = ws }) ≡ run_of limits s b m seen budget preferred
    unfolding run_of
    run_moves low h t steps t' a ws w v d =
        let g = guarded limits s b m seen z in
        rw (run_from_15 limits s b m seen budget z, le-ltb last_revision (s.revision.0 + budget) (omega arith), g.live, ← a, ← v, d)
