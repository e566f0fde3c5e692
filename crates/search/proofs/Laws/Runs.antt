-- A run's search, rule by rule: each rule is a step of the theory and keeps what the guard has shown; the search is open after the last one only
-- if the budget is used. From the laws of the due rule, and by induction on the budget.
use Prim.Native.Nat.{ℕ, zero, suc, ◌+◌, ◌-◌, ◌≤◌, ◌<◌}
use Rattle.std.specs.Prelude.{◌≡◌, ◌⊎◌, Bool, true, false, cond, List, ℤ, pos, nat_abs}
use Rattle.std.proofs.Math.Path.{refl}
use Rattle.std.proofs.Common.{sym, ◌∙◌, ap, inl, inr}
use native.Mathlib.Omega.{arith}
use Rattle.words.specs.Laws.Bools.{clash, look}
use Rattle.formula.specs.Formula.{Formula}
use Rattle.theory.specs.Record.{Record, Assignment, true_in}
use Rattle.theory.specs.Rules.{State as Standing, Step, Path, stop, take}
use Rattle.record.specs.declared.rule.State.{State}
use Rattle.record.specs.declared.rule.State.TheVariants.{Open, Valid, Unsat}
use Rattle.record.specs.declared.rule.Rule.{Rule}
use Rattle.rules.specs.Due.{due}
use Rattle.choice.specs.Preferred.{first_open, decides, proposal_of}
use Rattle.record.specs.Search.{Search, record_in, standing, standing_of}
use Rattle.record.specs.Inner.Ready.{KeptIn, Permitted}
use Rattle.choice.specs.Laws.Searches.{first_open_lem}
use Rattle.rules.proofs.Laws.Steps.{due_step, due_keeps}
use Rattle.memory.specs.Reasons.{Why, why, told}
use Rattle.search.specs.Run.{over, Trip, trip, while_open, advance, run_from, why_from, last_reason}

-- ---- a search that is not over is open
pub over_open : (t : State) → over t ≡ false → t ≡ Open
over_open Open h = refl
over_open Valid h = clash refl h
over_open Unsat h = clash refl h

-- ---- what a run proposes passes rows 16 and 17: it is 0, or Decide is due and it is open
pub proposal_passes : (p : List ℤ) (ρ : Assignment) (preferred : List ℤ) (rule : Rule) → let l = proposal_of p ρ preferred rule in
    ((nat_abs l ≡ 0) ⊎ (decides rule ≡ true)) × Permitted p ρ l
proposal_passes p ρ preferred rule = go (decides rule)
  where
    go : (d : Bool) → let l = cond d (first_open p ρ preferred) (pos 0) in ((nat_abs l ≡ 0) ⊎ (d ≡ true)) × Permitted p ρ l
    go true = (inr refl, first_open_lem p ρ preferred)
    go false = (inl refl, inl refl)

-- ---- one step
module _ (F : Formula) (preferred : List ℤ) (t : Search) (k : KeptIn F.prefix t) where
  advance_step : Step F (record_in t) (standing_of (advance F preferred t))
  unfolding advance
  advance_step = due_step F t k _ (proposal_passes F.prefix (true_in (record_in t)) preferred (due F (record_in t))).1

  pub advance_keeps : KeptIn F.prefix (advance F preferred t)
  unfolding advance
  advance_keeps = due_keeps F t k _ (proposal_passes F.prefix (true_in (record_in t)) preferred (due F (record_in t))).1

while_ended : {A : Type 0} (st : State) (a b : A) → over st ≡ true → while_open st a b ≡ b
while_ended Open a b h = clash h refl
while_ended Valid a b h = refl
while_ended Unsat a b h = refl

-- one rule more, before a path
from_open : (F : Formula) {st : State} {r : Record} {n : ℕ} {u v : Standing} → st ≡ Open → Step F r u → Path F n u v → Path F (n + 1) (standing st r) v
from_open F {n} e s p = let z : n + 1 ≡ suc n = omega arith in rw (e, z) (take s p)

-- a step before a trip
abbrev further : Trip → Trip
further u = trip u.reached (u.steps + 1)

module _ (F : Formula) (preferred : List ℤ) where
  -- ---- the loop: an open search goes on, an ended one stays, and with no budget left it stays too
  run_more : (n : ℕ) (t : Search) (i : ℕ) → t.state ≡ Open → run_from F preferred (suc n) t i ≡ run_from F preferred n (advance F preferred t) (i + 1)
  unfolding run_from
  run_more n t i e = rw e

  pub run_ended : (n : ℕ) (t : Search) (i : ℕ) → over t.state ≡ true → run_from F preferred n t i ≡ trip t i
  unfolding run_from
  run_ended zero t i h = refl
  run_ended (suc n) t i h = while_ended t.state _ _ h

  -- the same with i of n steps done, as the loop counts
  pub loop_more : (n : ℕ) (t : Search) (i : ℕ) → i < n → t.state ≡ Open → run_from F preferred (n - (i + 1)) (advance F preferred t) (i + 1) ≡ run_from F preferred (n - i) t i
  loop_more n t i h e = let m : n - i ≡ suc (n - (i + 1)) = omega arith in rw (m, run_more (n - (i + 1)) t i e)

  pub loop_last : (n : ℕ) (t : Search) (i : ℕ) → n ≤ i → run_from F preferred (n - i) t i ≡ trip t i
  unfolding run_from
  loop_last n t i h = let m : n - i ≡ 0 = omega arith in rw m

  -- ---- the reasons of the same loop
  pub why_more : (n : ℕ) (t : Search) (w : Why) → t.state ≡ Open → why_from F preferred (suc n) t w ≡ why_from F preferred n (advance F preferred t) (told (due F (record_in t)) t.count w.reasons)
  unfolding why_from
  why_more n t w e = rw e

  pub why_ended : (n : ℕ) (t : Search) (w : Why) → over t.state ≡ true → why_from F preferred n t w ≡ w
  unfolding why_from
  why_ended zero t w h = refl
  why_ended (suc n) t w h = while_ended t.state _ _ h

  pub why_loop : (n : ℕ) (t : Search) (w : Why) (i : ℕ) → i < n → t.state ≡ Open
      → why_from F preferred (n - (i + 1)) (advance F preferred t) (told (due F (record_in t)) t.count w.reasons) ≡ why_from F preferred (n - i) t w
  why_loop n t w i h e = let m : n - i ≡ suc (n - (i + 1)) = omega arith in rw (m, why_more (n - (i + 1)) t w e)

  pub why_none : (n : ℕ) (t : Search) (w : Why) (i : ℕ) → n ≤ i → why_from F preferred (n - i) t w ≡ w
  unfolding why_from
  why_none n t w i h = let m : n - i ≡ 0 = omega arith in rw m

  -- ---- from the first step on
  later : (n : ℕ) (t : Search) (i : ℕ) → run_from F preferred n t (i + 1) ≡ further (run_from F preferred n t i)
  unfolding run_from
  later zero t i = refl
  later (suc n) t i = go t.state _ _ (later n (advance F preferred t) (i + 1))
    where
      go : (st : State) (u v : Trip) → u ≡ further v → while_open st u (trip t (i + 1)) ≡ further (while_open st v (trip t i))
      go Open u v e = e
      go Valid u v e = refl
      go Unsat u v e = refl

  pub run_further : (n : ℕ) (t : Search) → t.state ≡ Open → run_from F preferred (suc n) t 0 ≡ further (run_from F preferred n (advance F preferred t) 0)
  run_further n t e = run_more n t 0 e ∙ later n (advance F preferred t) 0

  -- a run with the steps that it counts as its budget
  pub run_counted : (n : ℕ) (t : Search) → run_from F preferred (run_from F preferred n t 0).steps t 0 ≡ run_from F preferred n t 0
  run_counted zero t = rw (loop_last 0 t 0 (omega arith)) (loop_last 0 t 0 (omega arith))
  run_counted (suc n) t = elim (look (over t.state)) [
    | inl h ↦ rw (run_ended (suc n) t 0 h) (loop_last 0 t 0 (omega arith))
    | inr h ↦
        let e = over_open t.state h in
        let u = run_from F preferred n (advance F preferred t) 0 in
        let z : u.steps + 1 ≡ suc u.steps = omega arith in
        rw (run_further n t e) (ap (λ (k : ℕ). run_from F preferred k t 0) z ∙ run_further u.steps t e ∙ ap further (run_counted n (advance F preferred t)))
  ]

  pub why_counted : (n : ℕ) (t : Search) (w : Why) → why_from F preferred (run_from F preferred n t 0).steps t w ≡ why_from F preferred n t w
  why_counted zero t w = rw (loop_last 0 t 0 (omega arith))
  why_counted (suc n) t w = elim (look (over t.state)) [
    | inl h ↦ rw (run_ended (suc n) t 0 h, why_ended (suc n) t w h) (why_none 0 t w 0 (omega arith))
    | inr h ↦
        let e = over_open t.state h in
        let u = run_from F preferred n (advance F preferred t) 0 in
        let z : u.steps + 1 ≡ suc u.steps = omega arith in
        rw (run_further n t e, z, why_more u.steps t w e, why_more n t w e) (why_counted n (advance F preferred t) _)
  ]

  -- [run.reason] what was answered last before a run is of no matter to it, unless it makes no step
  pub why_latest : (n : ℕ) (t : Search) (ws : List ℕ) (r : ℕ) → let u = run_from F preferred n t 0 in
      let w = why_from F preferred n t (why ws 0) in
      why_from F preferred n t (why ws r) ≡ why w.reasons (last_reason u.steps r w.last)
  why_latest zero t ws r = rw (loop_last 0 t 0 (omega arith), why_none 0 t (why ws r) 0 (omega arith), why_none 0 t (why ws 0) 0 (omega arith))
  why_latest (suc n) t ws r = elim (look (over t.state)) [
    | inl h ↦ rw (run_ended (suc n) t 0 h, why_ended (suc n) t (why ws r) h, why_ended (suc n) t (why ws 0) h)
    | inr h ↦
        let e = over_open t.state h in
        let u = run_from F preferred n (advance F preferred t) 0 in
        let z : u.steps + 1 ≡ suc u.steps = omega arith in
        rw (run_further n t e, z, why_more n t (why ws r) e, why_more n t (why ws 0) e)
  ]

  -- a run that makes no step has no reason
  pub why_silent : (n : ℕ) (t : Search) (ws : List ℕ) → (run_from F preferred n t 0).steps ≡ 0 → why_from F preferred n t (why ws 0) ≡ why ws 0
  why_silent n t ws e = sym (why_counted n t (why ws 0)) ∙ rw e (why_none 0 t (why ws 0) 0 (omega arith))

  -- ---- where a run leads: by a path of the theory's rules, which ends open only if all of the budget is used
  pub record Travelled (n : ℕ) (t : Search) (u : Trip) : Type 0 where
    pub path : Path F u.steps (standing_of t) (standing_of u.reached)
    pub kept : KeptIn F.prefix u.reached
    pub within : u.steps ≤ n
    pub used : u.reached.state ≡ Open → u.steps ≡ n

  stayed : (n : ℕ) (t : Search) → KeptIn F.prefix t → (t.state ≡ Open → 0 ≡ n) → Travelled n t (trip t 0)
  stayed n t k f = record { path = stop; kept = k; within = omega arith; used = f }

  pub travelled : (n : ℕ) (t : Search) → KeptIn F.prefix t → Travelled n t (run_from F preferred n t 0)
  travelled zero t k = rw (loop_last 0 t 0 (omega arith)) (stayed 0 t k (λ e. refl))
  travelled (suc n) t k = elim (look (over t.state)) [
    | inl h ↦ rw (run_ended (suc n) t 0 h) (stayed (suc n) t k (λ e. clash h (ap over e)))
    | inr h ↦
        let e = over_open t.state h in
        let w = travelled n (advance F preferred t) (advance_keeps F preferred t k) in
        let within = w.within in
        rw (run_further n t e)
        (record {
          path = from_open F e (advance_step F preferred t k) w.path;
          kept = w.kept;
          within = omega arith;
          used = λ o. let z = w.used o in omega arith;
        })
  ]
