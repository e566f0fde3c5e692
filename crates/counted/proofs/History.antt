-- [demand.2.history] Any history in which steps, runs and counted runs follow each other: it leads where a history of steps and runs leads, since an
-- accepted counted run is a run, and a refused one leaves the desk. So all that is proved of those holds.
use Rattle.std.specs.Prelude.{ℕ, suc, ◌<◌, ◌≡◌, Bool, ℤ, pos, get_or, Result, Ok, Err}
use Rattle.std.proofs.Math.Path.{refl, ap}
use Rattle.std.proofs.Common.{◌∙◌}
use mathlib.Core.List.{List, [], ◌∷◌, ◌++◌}
use Rattle.words.specs.declared.Refusal.{Refusal}
use Rattle.words.specs.Outcomes.{Outcome}
use Rattle.formula.specs.Limits.{Limits}
use Rattle.formula.specs.Formula.{formula_of}
use Rattle.theory.specs.Rules.{going, Path}
use Rattle.record.specs.Search.{standing_of}
use Rattle.record.specs.Trail.{record_of}
use Rattle.session.specs.declared.Revision.{Revision}
use Rattle.session.specs.declared.Session.{Session}
use Rattle.session.specs.declared.Ran.{Ran}
use Rattle.memory.specs.Memory.{Memory}
use Rattle.session.specs.Outcome.{open_outcome}
use Rattle.session.specs.Calls.{Desk, Call, run, after_run, call, play}
use Rattle.session.specs.RunSteps.{search_at}
use Rattle.session.specs.Forced.{Forced}
use Rattle.session.specs.History.{verdict_of, Demand, fresh_desk, history_path, reasons_forced, any_history}
use Rattle.session.specs.Witnessed.{Witnessed, history_shows}
use Rattle.counted.specs.Lent.{Lent, lent}
use Rattle.counted.proofs.Runs.{counted_is_run, counted_refused_leaves}
use Rattle.counted.specs.Mixed.{AnyCall, plain, counted, counted_at, any_call, play_any}

module _ (L : Limits) (b : List ℤ) where
  -- ---- any call is a step, a run, or none
  pub is_call : (d : Desk) (c : AnyCall) → (calls : List Call) × (play L b d calls ≡ any_call L b d c)
  unfolding play any_call call
  is_call d (plain c) = (c ∷ [], refl)
  is_call d (counted seen budget preferred ts os ix) = go o.answer refl
    where
      w : Lent
      w = lent d.memory ts os ix

      o : Outcome Lent (Result Ran Refusal)
      o = counted_at L b d seen budget preferred ts os ix

      go : (a : Result Ran Refusal) → o.answer ≡ a → (calls : List Call) × (play L b d calls ≡ after_run d a o.memory.memory)
      go (Ok r) e =
          let (x, y) = counted_is_run L d.latest b w seen budget preferred r.session r.steps r.reason e in
          (run seen budget preferred ∷ [], rw (x, y))
      go (Err n) e = ([], rw (counted_refused_leaves L d.latest b w seen budget preferred n.0 e).memory)

  play_more : (cs ds : List Call) (d : Desk) → play L b d (cs ++ ds) ≡ play L b (play L b d cs) ds
  unfolding play
  play_more [] ds d = refl
  play_more (c ∷ cs) ds d = play_more cs ds (call L b d c)

  pub are_calls : (cs : List AnyCall) (d : Desk) → (calls : List Call) × (play L b d calls ≡ play_any L b d cs)
  unfolding play play_any
  are_calls [] d = ([], refl)
  are_calls (c ∷ cs) d =
      let (first, e) = is_call d c in
      let (more, f) = are_calls cs (any_call L b d c) in
      (first ++ more, play_more first more d ∙ ap (λ (x : Desk). play L b x more) e ∙ f)

-- ---- after an accepted opening
module _ (L : Limits) (b : List ℤ) (m : Memory) (rev : Revision) (s : Session) (a : (open_outcome L b m rev).answer ≡ Ok s) where
  -- [order.rules] the accepted steps, those of counted runs too, are one path of the rules from the empty record
  pub mixed_path : (calls : List AnyCall) → let d = play_any L b (fresh_desk L b m rev s) calls in Path (formula_of b) d.steps (going []) (standing_of (search_at d))
  mixed_path calls = let (cs, e) = are_calls L b calls (fresh_desk L b m rev s) in rw (← e) (history_path L b m rev s a cs)

  pub any_mixed : (calls : List AnyCall) → Demand L b rev.0 (play_any L b (fresh_desk L b m rev s) calls)
  any_mixed calls = let (cs, e) = are_calls L b calls (fresh_desk L b m rev s) in rw (← e) (any_history L b m rev s a cs)

  -- [demand.2.reasons]
  pub mixed_reasons : (calls : List AnyCall) → let d = play_any L b (fresh_desk L b m rev s) calls in
      (j c : ℕ) → j < d.latest.length → get_or d.memory.reasons j 0 ≡ suc c
      → Forced (formula_of b) (record_of d.memory.trail j) (get_or d.memory.trail.lits j (pos 0)) c
  mixed_reasons calls = let (cs, e) = are_calls L b calls (fresh_desk L b m rev s) in rw (← e) (reasons_forced L b m rev s a cs)

  -- [witness]
  pub mixed_shows : (calls : List AnyCall) (v : Bool) → let d = play_any L b (fresh_desk L b m rev s) calls in d.latest.state ≡ verdict_of v → Witnessed b d v
  mixed_shows calls = let (cs, e) = are_calls L b calls (fresh_desk L b m rev s) in rw (← e) (history_shows L b m rev s a cs)
