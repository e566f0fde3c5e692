-- When a call on a session is turned away: rows 12 to 17, after the block's rows and row 11, in the table's order.
use Rattle.std.specs.Prelude.{ℕ, ◌+◌, Bool, not, ◌&&◌, List, [], ◌∷◌, ◌++◌, eqb, ltb, ℤ, nat_abs}
use Rattle.words.specs.Rows.{Row, row, refusal_of}
use Rattle.words.specs.declared.Literal.{Literal}
use Rattle.formula.specs.Limits.{Limits}
use Rattle.formula.specs.Formula.{formula_of}
use Rattle.theory.specs.Record.{Assignment, true_in}
use Rattle.theory.specs.Tests.{is_open}
use Rattle.record.specs.declared.rule.Rule.{Rule}
use Rattle.record.specs.Trail.{record_of}
use Rattle.rules.specs.Due.{due}
use Rattle.choice.specs.Preferred.{decides}
use Rattle.session.specs.declared.Revision.{Revision}
use Rattle.session.specs.declared.Session.{Session}
use Rattle.memory.specs.Memory.{Memory, places}
use Rattle.memory.specs.Refusals.{broken, open_rows}
use Rattle.search.specs.Run.{over}

-- the largest revision, 2^64 - 1
abbrev pub last_revision : ℕ
last_revision = 18446744073709551615

-- [row.14] the seen revision is not the session's
abbrev pub stale : Session → Revision → Bool
stale s seen = not (eqb seen.0 s.revision.0)

-- there is a proposal, which is not 0
abbrev pub proposed : Literal → Bool
proposed l = not (eqb (nat_abs l.0) 0)

-- ---- each call's table
-- [row.16] [row.17] a proposal, where a rule is due
abbrev pub of_proposal : List ℤ → Assignment → Rule → Literal → List Row
of_proposal p ρ rule l =
    row 16 (proposed l && not (decides rule))
    ∷ row 17 (proposed l && not (is_open p ρ l.0))
    ∷ []

module _ (s : Session) (b : List ℤ) (m : Memory) (seen : Revision) where
  -- [row.12] [row.13] [row.14] what a step and a run share
  abbrev pub of_session : List Row
  of_session =
      row 12 (broken b m s.length)
      ∷ row 13 (over s.state)
      ∷ row 14 (stale s seen)
      ∷ []

  -- [row.15] for a step
  abbrev pub of_step : Literal → List Row
  of_step l =
      let F = formula_of b in
      let r = record_of m.trail s.length in
      row 15 (eqb s.revision.0 last_revision)
      ∷ of_proposal F.prefix (true_in r) (due F r) l

  -- [row.15] for a run
  abbrev pub of_run : ℕ → List Row
  of_run budget = row 15 (ltb last_revision (s.revision.0 + budget)) ∷ []

module _ (L : Limits) (s : Session) (b : List ℤ) (m : Memory) (seen : Revision) where
  abbrev pub session_rows : List Row
  session_rows = open_rows L b (places m) ++ of_session s b m seen

  -- [calls.step]
  abbrev pub step_rows : Literal → List Row
  step_rows l = session_rows ++ of_step s b m seen l

  unfoldable pub step_refusal : Literal → ℕ
  step_refusal l = refusal_of (step_rows l)

  -- [calls.run]
  abbrev pub run_rows : ℕ → List Row
  run_rows budget = session_rows ++ of_run s b m seen budget

  unfoldable pub run_refusal : ℕ → ℕ
  run_refusal budget = refusal_of (run_rows budget)
