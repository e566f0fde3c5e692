-- [witness] A session that has ended, whatever its history, shows why: its record's entries at the outer levels, and the values that it shows for
-- the first group, leave the rest of the formula with the answer. From the path that a history is and the rule that ended it.
use Rattle.std.specs.Prelude.{ℕ, ◌≡◌, Bool, true, false, List, ℤ, Ok}
use Rattle.std.proofs.Common.{arith}
use Rattle.formula.specs.Limits.{Limits}
use Rattle.formula.specs.Formula.{formula_of}
use Rattle.formula.specs.Truth.{truth}
use Rattle.formula.specs.Laws.Accepted.{proper}
use Rattle.theory.specs.Rules.{Step, verdict}
use Rattle.theory.specs.Start.{true_under}
use Rattle.theory.specs.Witness.{rest_of, below, witness_of}
use Rattle.theory.proofs.Laws.Monotone.{open_within}
use Rattle.theory.proofs.Ended.{witness, shown}
use Rattle.record.specs.declared.rule.State.TheVariants.{Open}
use Rattle.record.specs.Search.{record_in, standing_of}
use Rattle.memory.specs.Memory.{Memory}
use Rattle.session.specs.declared.Revision.{Revision}
use Rattle.session.specs.declared.Session.{Session}
use Rattle.session.specs.Outcome.{open_outcome}
use Rattle.session.specs.Calls.{Desk, Call, play}
use Rattle.session.specs.RunSteps.{search_at}
use Rattle.session.specs.History.{verdict_of, fresh_desk, block, history_ended}

-- the desk's record shows the answer v
pub record Witnessed (b : List ℤ) (d : Desk) (v : Bool) : Type 0 where
  -- [witness.levels]
  pub levels : (j : ℕ) → true_under (formula_of b) (below (formula_of b).prefix j (record_in (search_at d))) ≡ v
  -- [witness.opening] [witness.counter]
  pub values : truth (rest_of (formula_of b)) (formula_of b).clauses (witness_of (formula_of b) (record_in (search_at d))) ≡ v

module _ (L : Limits) (b : List ℤ) (m : Memory) (rev : Revision) (s : Session) (a : (open_outcome L b m rev).answer ≡ Ok s) where
  pub history_shows : (calls : List Call) (v : Bool) → let d = play L b (fresh_desk L b m rev s) calls in d.latest.state ≡ verdict_of v → Witnessed b d v
  history_shows calls v e =
      let F = formula_of b in
      let d = play L b (fresh_desk L b m rev s) calls in
      let ok = proper L b (block L b m rev s a) in
      let c = history_ended L b m rev s a calls (closed v e) in
      let w = last v e c.rule in
      record { levels = witness open_within F ok c.path v w; values = shown open_within F ok c.path v w }
    where
      d : Desk
      d = play L b (fresh_desk L b m rev s) calls

      closed : (v : Bool) → d.latest.state ≡ verdict_of v → d.latest.state ≡ Open → ⊥
      closed true e o = let z : ◌≡◌ {A = ℕ} 0 1 = cc in omega arith
      closed false e o = let z : ◌≡◌ {A = ℕ} 0 1 = cc in omega arith

      last : (v : Bool) → d.latest.state ≡ verdict_of v → Step (formula_of b) (record_in (search_at d)) (standing_of (search_at d)) → Step (formula_of b) (record_in (search_at d)) (verdict v)
      last true e x = rw e at x
      last false e x = rw e at x
