-- [run] [run.reason] A search: one step after the other until it has ended or the budget is used, how many steps these are, and the reasons.
use Rattle.std.specs.Prelude.{ℕ, zero, suc, ◌+◌, Bool, true, false, List, ℤ}
use Rattle.formula.specs.Formula.{Formula}
use Rattle.theory.specs.Record.{true_in}
use Rattle.record.specs.declared.rule.State.{State}
use Rattle.record.specs.declared.rule.State.TheVariants.{Open, Valid, Unsat}
use Rattle.record.specs.Search.{Search, record_in}
use Rattle.applied.specs.Apply.{apply}
use Rattle.choice.specs.Preferred.{proposal_of}
use Rattle.rules.specs.Due.{due}
use Rattle.memory.specs.Reasons.{Why, told}

-- [row.13] it has ended
abbrev pub over : State → Bool
over Open = false
over Valid = true
over Unsat = true

-- where a number of steps lead, and how many they are
pub record Trip : Type 0 where
  pub reached : Search
  pub steps : ℕ

abbrev pub trip : Search → ℕ → Trip
trip t n = record { reached = t; steps = n }

abbrev pub while_open : {A : Type 0} → State → A → A → A
while_open Open a b = a
while_open Valid a b = b
while_open Unsat a b = b

module _ (F : Formula) (preferred : List ℤ) where
  -- [run.proposes] one accepted step, with the proposal that the preferences give
  unfoldable pub advance : Search → Search
  advance t =
      let r = record_in t in
      apply F.prefix (due F r) (proposal_of F.prefix (true_in r) preferred (due F r)) t

  -- at most n steps, `steps` being done
  unfoldable pub run_from : ℕ → Search → ℕ → Trip
  run_from zero t steps = trip t steps
  run_from (suc n) t steps = while_open t.state (run_from n (advance t) (steps + 1)) (trip t steps)

  -- the reasons of these steps, laid over the same searches: what they were before has no part in where the steps lead
  unfoldable pub why_from : ℕ → Search → Why → Why
  why_from zero t w = w
  why_from (suc n) t w = while_open t.state (why_from n (advance t) (told (due F (record_in t)) t.count w.reasons)) w

-- the reason of the last of n steps is w; with none, it is the one before
abbrev pub last_reason : ℕ → ℕ → ℕ → ℕ
last_reason zero before w = before
last_reason (suc n) before w = w
