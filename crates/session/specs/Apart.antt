-- [reasons.apart] Reasons have no part in where calls lead: accepted on two memories with the same record, a step or a run answers the same and leaves
-- the same record, whatever the reasons are. By the definitions, which lay reasons over the search.
use Rattle.words.specs.Outcomes.{unless_ok}
use Rattle.std.specs.Prelude.{ℕ, zero, suc, ◌≡◌, refl, List, ℤ, Ok}
use Rattle.words.specs.declared.Literal.{Literal}
use Rattle.formula.specs.Limits.{Limits}
use Rattle.formula.specs.Formula.{Formula, formula_of}
use Rattle.record.specs.declared.rule.State.{State}
use Rattle.record.specs.declared.rule.State.TheVariants.{Open, Valid, Unsat}
use Rattle.record.specs.Trail.{Trail}
use Rattle.record.specs.Search.{Search}
use Rattle.session.specs.declared.Revision.{Revision}
use Rattle.session.specs.declared.Session.{Session}
use Rattle.memory.specs.Memory.{Memory}
use Rattle.memory.specs.Reasons.{Why, why}
use Rattle.session.specs.Refusals.{step_refusal, run_refusal}
use Rattle.session.specs.Outcome.{search_of, step_outcome, step_to}
use Rattle.search.specs.Run.{while_open, why_from}
use Rattle.session.specs.Run.{run_of, run_to}

-- a record with some reasons
abbrev pub beside : Trail → List ℕ → Memory
beside t ws = record { trail = t; reasons = ws }

-- the last reason is a rule's
last_apart : (F : Formula) (preferred : List ℤ) (n : ℕ) (t : Search) (ws ws' : List ℕ) (r : ℕ) → (why_from F preferred n t (why ws r)).last ≡ (why_from F preferred n t (why ws' r)).last
unfolding why_from
last_apart F preferred zero t ws ws' r = refl
last_apart F preferred (suc n) t ws ws' r = go t.state _ _ (last_apart F preferred n _ _ _ _)
  where
    go : (st : State) (u v : Why) → u.last ≡ v.last → (while_open st u (why ws r)).last ≡ (while_open st v (why ws' r)).last
    go Open u v e = e
    go Valid u v e = refl
    go Unsat u v e = refl

module _ (L : Limits) (s : Session) (b : List ℤ) (t : Trail) (ws ws' : List ℕ) (seen : Revision) where
  pub step_apart : (l : Literal) (s₁ s₂ : Session) (w₁ w₂ : ℕ) → let o = step_outcome L s b (beside t ws) seen l in
      let o' = step_outcome L s b (beside t ws') seen l in
      o.answer ≡ Ok (step_to s₁ w₁) → o'.answer ≡ Ok (step_to s₂ w₂) → (o.answer ≡ o'.answer) × (o.memory.trail ≡ o'.memory.trail)
  unfolding step_outcome
  step_apart l s₁ s₂ w₁ w₂ e e' =
      let z = unless_ok (step_refusal L s b (beside t ws) seen l) (beside t ws) _ (step_to s₁ w₁) e in
      let z' = unless_ok (step_refusal L s b (beside t ws') seen l) (beside t ws') _ (step_to s₂ w₂) e' in
      rw (z, z') (refl, refl)

  pub run_apart : (budget : ℕ) (preferred : List ℤ) (s₁ s₂ : Session) (c₁ c₂ w₁ w₂ : ℕ) → let o = run_of L s b (beside t ws) seen budget preferred in
      let o' = run_of L s b (beside t ws') seen budget preferred in
      o.answer ≡ Ok (run_to s₁ c₁ w₁) → o'.answer ≡ Ok (run_to s₂ c₂ w₂) → (o.answer ≡ o'.answer) × (o.memory.trail ≡ o'.memory.trail)
  unfolding run_of
  run_apart budget preferred s₁ s₂ c₁ c₂ w₁ w₂ e e' =
      let z = unless_ok (run_refusal L s b (beside t ws) seen budget) (beside t ws) _ (run_to s₁ c₁ w₁) e in
      let z' = unless_ok (run_refusal L s b (beside t ws') seen budget) (beside t ws') _ (run_to s₂ c₂ w₂) e' in
      let same = last_apart (formula_of b) preferred budget (search_of s (beside t ws)) ws ws' 0 in
      rw (z, z', same) (refl, refl)
