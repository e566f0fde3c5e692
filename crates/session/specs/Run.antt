-- [run] [run.answer] [run.reason] A run: the search of a session with a budget, at a revision that goes up by its steps.
use Rattle.words.specs.declared.Refusal.{Refusal}
use Rattle.std.specs.Prelude.{ℕ, List, ℤ, Result, Ok}
use Rattle.words.specs.Outcomes.{Outcome, outcome, unless, refused}
use Rattle.formula.specs.Formula.{formula_of}
use Rattle.formula.specs.Limits.{Limits}
use Rattle.session.specs.declared.Revision.{Revision}
use Rattle.session.specs.declared.Session.{Session}
use Rattle.session.specs.declared.Ran.{Ran}
use Rattle.memory.specs.Memory.{Memory, memory_of}
use Rattle.memory.specs.Reasons.{Why, why}
use Rattle.search.specs.Run.{Trip, run_from, why_from}
use Rattle.session.specs.Refusals.{run_refusal}
use Rattle.session.specs.Outcome.{moved, search_of}

-- what an accepted run answers
abbrev pub run_to : Session → ℕ → ℕ → Ran
run_to s c w = record { session = s; steps = c; reason = w }

abbrev pub ran : Session → Trip → Why → Outcome Memory (Result Ran Refusal)
ran s u w = outcome (Ok (run_to (moved s u.steps u.reached) u.steps w.last)) (memory_of u.reached w.reasons)

unfoldable pub run_of : Limits → Session → List ℤ → Memory → Revision → ℕ → List ℤ → Outcome Memory (Result Ran Refusal)
run_of L s b m seen budget preferred =
    unless refused (run_refusal L s b m seen budget) m
    (ran s (run_from (formula_of b) preferred budget (search_of s m) 0) (why_from (formula_of b) preferred budget (search_of s m) (why m.reasons 0)))
