-- [demand.1] [demand.1.leaves] [table.leaves] A refused call answers its number and leaves all memory as it was; and some calls that are always refused.
-- By the two cases of the number, 0 and not 0.
use Rattle.std.specs.Prelude.{◌≡◌, true, List, ℕ, suc, ◌+◌, ◌<◌, ℤ}
use Rattle.std.proofs.Math.Path.{refl}
use Rattle.std.proofs.Common.{eq-eqb, ne_eqb, lt-ltb}
use Rattle.words.specs.Laws.Bools.{not_f}
use Rattle.words.specs.Lists.{In}
use Rattle.words.specs.Outcomes.{outcome, Left, unless_left, refused, ok_none}
use Rattle.words.specs.Rows.{test, up_to}
use Rattle.words.specs.Laws.Rows.{refused_by}
use Rattle.words.specs.declared.Literal.{Literal}
use Rattle.formula.specs.Limits.{Limits}
use Rattle.session.specs.declared.Revision.{Revision}
use Rattle.session.specs.declared.Session.{Session}
use Rattle.memory.specs.Memory.{Memory, places}
use Rattle.memory.specs.Refusals.{open_refusal}
use Rattle.search.specs.Run.{over}
use Rattle.session.specs.Refusals.{last_revision, step_rows, step_refusal, run_rows, run_refusal}
use Rattle.session.specs.Outcome.{open_outcome, step_outcome}
use Rattle.session.specs.Run.{run_of}

-- ---- a refused call leaves all buffers as they were
pub open_refused_leaves : (L : Limits) → (b : List ℤ) (m : Memory) (rev : Revision) (n : ℕ) → let o = open_outcome L b m rev in
    o.answer ≡ refused n → Left (open_refusal L b (places m)) n m o.memory
unfolding open_outcome
open_refused_leaves L b m rev n = unless_left (open_refusal L b (places m)) m _ n (ok_none _ n)

module _ (L : Limits) (s : Session) (b : List ℤ) (m : Memory) (seen : Revision) where
  pub step_refused_leaves : (l : Literal) (n : ℕ) → let o = step_outcome L s b m seen l in
      o.answer ≡ refused n → Left (step_refusal L s b m seen l) n m o.memory
  unfolding step_outcome
  step_refused_leaves l n = unless_left (step_refusal L s b m seen l) m _ n (ok_none _ n)

  pub run_refused_leaves : (budget : ℕ) (preferred : List ℤ) (n : ℕ) → let o = run_of L s b m seen budget preferred in
      o.answer ≡ refused n → Left (run_refusal L s b m seen budget) n m o.memory
  unfolding run_of
  run_refused_leaves budget preferred n = unless_left (run_refusal L s b m seen budget) m _ n (ok_none _ n)

  -- ---- a number other than 0 is answered
  pub step_refused : (l : Literal) (n : ℕ) → step_refusal L s b m seen l ≡ suc n → step_outcome L s b m seen l ≡ outcome (refused (suc n)) m
  unfolding step_outcome
  step_refused l n e = rw e

  pub run_refused : (budget : ℕ) (preferred : List ℤ) (n : ℕ) → run_refusal L s b m seen budget ≡ suc n → run_of L s b m seen budget preferred ≡ outcome (refused (suc n)) m
  unfolding run_of
  run_refused budget preferred n e = rw e

  -- ---- a row that applies: the call is refused, with its number or that of a row before it
  abbrev pub StepRefusedBy : ℕ → Literal → Type 0
  StepRefusedBy k l = (n : ℕ) × In (suc n) (up_to k (step_rows L s b m seen l)) × (step_outcome L s b m seen l ≡ outcome (refused (suc n)) m)

  abbrev pub RunRefusedBy : ℕ → ℕ → List ℤ → Type 0
  RunRefusedBy k budget preferred = (n : ℕ) × In (suc n) (up_to k (run_rows L s b m seen budget)) × (run_of L s b m seen budget preferred ≡ outcome (refused (suc n)) m)

  step_by : (k : ℕ) (l : Literal) → test k (step_rows L s b m seen l) ≡ true → StepRefusedBy k l
  unfolding step_refusal
  step_by k l t = let (n, i, e) = refused_by k (step_rows L s b m seen l) refl t in (n, i, step_refused l n e)

  run_by : (k budget : ℕ) (preferred : List ℤ) → test k (run_rows L s b m seen budget) ≡ true → RunRefusedBy k budget preferred
  unfolding run_refusal
  run_by k budget preferred t = let (n, i, e) = refused_by k (run_rows L s b m seen budget) refl t in (n, i, run_refused budget preferred n e)

  -- [row.13] the session has ended
  pub ended_step_refused : over s.state ≡ true → (l : Literal) → StepRefusedBy 13 l
  ended_step_refused e l = step_by 13 l e

  pub ended_run_refused : over s.state ≡ true → (budget : ℕ) (preferred : List ℤ) → RunRefusedBy 13 budget preferred
  ended_run_refused e budget preferred = run_by 13 budget preferred e

  -- [row.14] the seen revision is not the session's
  module _ (other : seen.0 ≡ s.revision.0 → ⊥) where
    pub stale_step_refused : (l : Literal) → StepRefusedBy 14 l
    stale_step_refused l = step_by 14 l (not_f (ne_eqb seen.0 s.revision.0 other))

    pub stale_run_refused : (budget : ℕ) (preferred : List ℤ) → RunRefusedBy 14 budget preferred
    stale_run_refused budget preferred = run_by 14 budget preferred (not_f (ne_eqb seen.0 s.revision.0 other))

  -- [row.15] there is no revision left for it
  pub last_step_refused : s.revision.0 ≡ last_revision → (l : Literal) → StepRefusedBy 15 l
  last_step_refused e l = step_by 15 l (eq-eqb s.revision.0 last_revision e)

  pub last_run_refused : (budget : ℕ) → last_revision < s.revision.0 + budget → (preferred : List ℤ) → RunRefusedBy 15 budget preferred
  last_run_refused budget h preferred = run_by 15 budget preferred (lt-ltb last_revision (s.revision.0 + budget) h)
