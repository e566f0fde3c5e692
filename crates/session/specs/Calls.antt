-- [demand.2.history] A desk after a list of calls, each on that block and that record and with the latest session.
use Rattle.words.specs.declared.Refusal.{Refusal}
use Rattle.std.specs.Prelude.{ℕ, ◌+◌, List, [], ◌∷◌, ℤ, Result, Ok, Err}
use Rattle.words.specs.Outcomes.{Outcome}
use Rattle.words.specs.declared.Literal.{Literal}
use Rattle.formula.specs.Limits.{Limits}
use Rattle.session.specs.declared.Revision.{Revision}
use Rattle.session.specs.declared.Session.{Session}
use Rattle.session.specs.declared.Stepped.{Stepped}
use Rattle.session.specs.declared.Ran.{Ran}
use Rattle.memory.specs.Memory.{Memory}
use Rattle.search.specs.Run.{last_reason}
use Rattle.session.specs.Outcome.{step_outcome}
use Rattle.session.specs.Run.{run_of}

-- the latest session, the memory, the accepted steps so far, and the reason that the last of them gave
pub record Desk : Type 0 where
  pub latest : Session
  pub memory : Memory
  pub steps : ℕ
  pub reason : ℕ

abbrev pub desk : Session → Memory → ℕ → ℕ → Desk
desk s m n w = record { latest = s; memory = m; steps = n; reason = w }

pub data Call : Type 0 where
  step : Revision → Literal → Call
  run : Revision → ℕ → List ℤ → Call

-- an answer's session, accepted steps and reason; a refused call leaves them
abbrev pub after_step : Desk → Result Stepped Refusal → Memory → Desk
after_step d (Ok r) m = desk r.session m (d.steps + 1) r.reason
after_step d (Err e) m = desk d.latest m d.steps d.reason

abbrev pub after_run : Desk → Result Ran Refusal → Memory → Desk
after_run d (Ok r) m = desk r.session m (d.steps + r.steps) (last_reason r.steps d.reason r.reason)
after_run d (Err e) m = desk d.latest m d.steps d.reason

-- the calls on a desk
abbrev pub step_at : Limits → List ℤ → Desk → Revision → Literal → Outcome Memory (Result Stepped Refusal)
step_at L b d = step_outcome L d.latest b d.memory

abbrev pub run_at : Limits → List ℤ → Desk → Revision → ℕ → List ℤ → Outcome Memory (Result Ran Refusal)
run_at L b d = run_of L d.latest b d.memory

unfoldable pub call : Limits → List ℤ → Desk → Call → Desk
call L b d (step seen l) = let o = step_at L b d seen l in after_step d o.answer o.memory
call L b d (run seen budget preferred) = let o = run_at L b d seen budget preferred in after_run d o.answer o.memory

unfoldable pub play : Limits → List ℤ → Desk → List Call → Desk
play L b d [] = d
play L b d (c ∷ cs) = play L b (call L b d c) cs
