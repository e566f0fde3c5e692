-- The parts of the tables that the guard's functions answer for: rows 1 to 14, and rows 16 and 17.
use Rattle.std.specs.Prelude.{ℕ, List, ℤ}
use Rattle.words.specs.Rows.{refusal_of}
use Rattle.words.specs.declared.Literal.{Literal}
use Rattle.formula.specs.Limits.{Limits}
use Rattle.theory.specs.Record.{Assignment}
use Rattle.record.specs.declared.rule.Rule.{Rule}
use Rattle.session.specs.declared.Revision.{Revision}
use Rattle.session.specs.declared.Session.{Session}
use Rattle.memory.specs.Memory.{Memory}
use Rattle.session.specs.Refusals.{of_proposal, session_rows}

unfoldable pub session_refusal : Limits → Session → List ℤ → Memory → Revision → ℕ
session_refusal L s b m seen = refusal_of (session_rows L s b m seen)

unfoldable pub proposal_refusal : List ℤ → Assignment → Rule → Literal → ℕ
proposal_refusal p ρ rule l = refusal_of (of_proposal p ρ rule l)
