-- Opening and a step: the answer, the next session in it, and the content of each lent buffer, for every input.
use Rattle.words.specs.declared.Refusal.{Refusal}
use Rattle.std.specs.Prelude.{ℕ, ◌+◌, List, ℤ, Result, Ok}
use Rattle.words.specs.Outcomes.{Outcome, outcome, unless, refused}
use Rattle.words.specs.declared.Literal.{Literal}
use Rattle.formula.specs.Formula.{formula_of, variables_of, prefix_of}
use Rattle.formula.specs.Limits.{Limits}
use Rattle.record.specs.declared.rule.State.{State}
use Rattle.record.specs.declared.rule.State.TheVariants.{Open}
use Rattle.rules.specs.Due.{due}
use Rattle.record.specs.Trail.{wiped, wiped_trail}
use Rattle.record.specs.Search.{Search, search, record_in}
use Rattle.applied.specs.Apply.{apply}
use Rattle.session.specs.declared.Revision.{Revision}
use Rattle.session.specs.declared.Session.{Session}
use Rattle.session.specs.declared.Stepped.{Stepped}
use Rattle.memory.specs.Memory.{Memory, memory_of, places}
use Rattle.memory.specs.Reasons.{reason_of, noted}
use Rattle.memory.specs.Refusals.{open_refusal}
use Rattle.session.specs.Refusals.{step_refusal}

-- [session]
abbrev pub session : ℕ → ℕ → State → Session
session n rev st = record { length = n; revision = record { 0 = rev }; state = st }

-- what an accepted step answers
abbrev pub step_to : Session → ℕ → Stepped
step_to s w = record { session = s; reason = w }

-- [session.fresh] [opening.wipes]
unfoldable pub open_outcome : Limits → List ℤ → Memory → Revision → Outcome Memory (Result Session Refusal)
open_outcome L b m rev =
    unless refused (open_refusal L b (places m)) m
    (outcome (Ok (session 0 rev.0 Open)) (record { trail = wiped_trail m.trail 0 (variables_of b); reasons = wiped 0 m.reasons 0 (variables_of b) }))

-- [revision.adds] a session whose search has gone on by some accepted steps
abbrev pub moved : Session → ℕ → Search → Session
moved s steps t = session t.count (s.revision.0 + steps) t.state

-- where a session's search stands
abbrev pub search_of : Session → Memory → Search
search_of s m = search m.trail s.length s.state

-- [step] [step.reason] the rule that is due, once, and its reason
abbrev pub stepped : Session → List ℤ → Literal → Search → List ℕ → Outcome Memory (Result Stepped Refusal)
stepped s b l t ws =
    let rule = due (formula_of b) (record_in t) in
    let u = apply (prefix_of b) rule l.0 t in
    outcome (Ok (step_to (moved s 1 u) (reason_of rule))) (memory_of u (noted rule t.count ws))

-- [table.leaves] else the number, and all as it was
unfoldable pub step_outcome : Limits → Session → List ℤ → Memory → Revision → Literal → Outcome Memory (Result Stepped Refusal)
step_outcome L s b m seen l = unless refused (step_refusal L s b m seen l) m (stepped s b l (search_of s m) m.reasons)
