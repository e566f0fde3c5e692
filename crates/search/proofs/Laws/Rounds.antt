-- One step of a run, the rounds of its loop, and its ways out. What the guard has shown holds at each round, and the run from there is the run from the
-- start.
use Rattle.std.specs.Prelude.{ℕ, ◌+◌, ◌-◌, ◌≤◌, ◌<◌, ◌≡◌, Bool, true, false, List, ℤ, length, take}
use Rattle.std.proofs.Common.{sym, subst, ◌∙◌, ap, ap₂, arith}
use Rattle.std.proofs.Math.Nat.{sub-zero}
use Rattle.words.specs.declared.Literal.{Literal}
use Rattle.formula.specs.Formula.{Formula, prefix_of, formula_of}
use Rattle.theory.specs.Record.{among}
use Rattle.record.specs.declared.rule.State.{State}
use Rattle.record.specs.declared.rule.State.TheVariants.{Open}
use Rattle.record.specs.declared.rule.Rule.{Rule}
use Rattle.record.specs.declared.rule.Reached.{Reached}
use Rattle.record.specs.Trail.{Trail, record_of}
use Rattle.record.specs.Search.{Search, search, reached}
use Rattle.record.specs.Found.{literal}
use Rattle.rules.specs.Due.{due}
use Rattle.choice.specs.Preferred.{proposal_of}
use Rattle.applied.specs.Apply.{apply}
use Rattle.record.specs.Inner.Ready.{OnBlock}
use Rattle.record.proofs.Laws.Accepted.{kept_true}
use Rattle.memory.specs.Memory.{Memory}
use Rattle.memory.specs.Reasons.{Why, why, noted, told}
use Rattle.search.specs.Run.{over, trip, advance, run_from, why_from}
use Rattle.memory.specs.Inner.Reasons.{OnMemory}
use Rattle.memory.proofs.Laws.Noted.{noted_length}
use Rattle.search.proofs.Laws.Runs.{over_open, travelled, advance_keeps, run_ended, loop_more, loop_last, why_ended, why_loop, why_none}
use Rattle.formula.specs.Limits.{limits}

module _ {b : List ℤ} {t : Trail} {n : ℕ} (o : OnBlock limits b t n) (preferred : List ℤ) where
  -- the due rule, with the proposal that the preferences give it
  pub advanced : {rule : Rule} → rule ≡ due (formula_of b) (record_of t n)
      → {l : Literal} → l ≡ literal (proposal_of (prefix_of b) (among (take n t.lits)) preferred rule)
      → {u : Search} → u ≡ apply (prefix_of b) rule l.0 (search t n Open)
      → u ≡ advance (formula_of b) preferred (search t n Open)
  unfolding advance formula_of
  advanced {rule} is {l} from {u} a = a ∙ rw (from, ← kept_true (prefix_of b) t n o.kept, is)

  -- it leaves checked input
  abbrev onward : Search
  onward = advance (formula_of b) preferred (search t n Open)

  advance_on : OnBlock limits b onward.trail onward.count
  unfolding formula_of
  advance_on = record { block = o.block; kept = advance_keeps (formula_of b) preferred (search t n Open) o.kept }

-- ---- the loop: from the first memory to the present one, with some steps of the budget done, the last of them with a reason
abbrev Leads : List ℤ → Memory → ℕ → ℕ → List ℤ → Search → ℕ → Type 0
Leads b m n budget preferred u steps = trip u steps ≡ run_from (formula_of b) preferred budget (search m.trail n Open) 0

abbrev Tells : List ℤ → Memory → ℕ → ℕ → List ℤ → Why → Type 0
Tells b m n budget preferred w = w ≡ why_from (formula_of b) preferred budget (search m.trail n Open) (why m.reasons 0)

pub record Round (b : List ℤ) (m₀ : Memory) (n budget : ℕ) (preferred : List ℤ) (m : Memory) (at : Reached) (steps reason : ℕ) : Type 0 where
  pub on : OnMemory b m at.count
  pub same : run_from (formula_of b) preferred (budget - steps) (reached at m.trail) steps ≡ run_from (formula_of b) preferred budget (search m₀.trail n Open) 0
  pub told_same : Tells b m₀ n budget preferred (why_from (formula_of b) preferred (budget - steps) (reached at m.trail) (why m.reasons reason))

pub begun : {b : List ℤ} {m : Memory} {n : ℕ} → OnMemory b m n → (budget : ℕ) (preferred : List ℤ) → Round b m n budget preferred m (record { count = n; state = Open }) 0 0
begun o budget preferred = record { on = o; same = rw sub-zero; told_same = rw sub-zero }

module _
    {b : List ℤ} {m₀ : Memory} {n budget : ℕ} {preferred : List ℤ} {m : Memory} {at : Reached} {steps reason : ℕ}
    (now : Round b m₀ n budget preferred m at steps reason)
  where
    abbrev F : Formula
    F = formula_of b

    abbrev here : Search
    here = reached at m.trail

    abbrev Done : ℕ → Type 0
    Done k = Leads b m₀ n budget preferred here k × Tells b m₀ n budget preferred (why m.reasons reason)

    -- the search has ended
    pub ended : {r : Bool} → r ≡ over at.state → r ≡ true → Done steps
    ended e h = (
      sym (run_ended F preferred (budget - steps) here steps (sym e ∙ h)) ∙ now.same,
      sym (why_ended F preferred (budget - steps) here (why m.reasons reason) (sym e ∙ h)) ∙ now.told_same,
    )

    -- the budget is used
    pub used : steps ≡ budget → Done budget
    used z = (
      ap (trip here) (sym z) ∙ sym (loop_last F preferred budget here steps (omega arith)) ∙ now.same,
      sym (why_none F preferred budget here (why m.reasons reason) steps (omega arith)) ∙ now.told_same,
    )

    -- one step more
    pub more : steps < budget → {r : Bool} → r ≡ over at.state → r ≡ false → {at' : Reached} {m' : Memory} {w : ℕ}
        → (reached at' m'.trail ≡ advance F preferred (search m.trail at.count Open)) × (why m'.reasons w ≡ told (due F (record_of m.trail at.count)) at.count m.reasons)
        → Round b m₀ n budget preferred m' at' (steps + 1) w
    more h e f {at'} {m'} {w} (a, v) =
        let live = over_open at.state (sym e ∙ f) in
        let ws : m'.reasons ≡ noted (due F (record_of m.trail at.count)) at.count m.reasons = ap (λ (w : Why). w.reasons) v in
        let kept : length m'.reasons ≡ length m.reasons = rw ws (noted_length (due F (record_of m.trail at.count)) at.count m.reasons) in
        let onward = a ∙ ap (λ (st : State). advance F preferred (search m.trail at.count st)) (sym live) in
        record {
          on = record {
            on = subst (λ (u : Search). OnBlock limits b u.trail u.count) (sym a) (advance_on now.on.on preferred);
            places = omega (arith, kept, now.on.places);
          };
          same =
              ap (λ (u : Search). run_from F preferred (budget - (steps + 1)) u (steps + 1)) onward
              ∙ loop_more F preferred budget here steps h live
              ∙ now.same;
          told_same =
              ap₂ (λ (u : Search) (w : Why). why_from F preferred (budget - (steps + 1)) u w) onward v
              ∙ why_loop F preferred budget here (why m.reasons reason) steps h live
              ∙ now.told_same;
        }

-- a run's steps are at most its budget
pub steps_within : {b : List ℤ} {t : Trail} {n : ℕ} → OnBlock limits b t n → (budget : ℕ) (preferred : List ℤ) {u : Search} {steps : ℕ}
    → trip u steps ≡ run_from (formula_of b) preferred budget (search t n Open) 0 → steps ≤ budget
unfolding formula_of
steps_within {b} {t} {n} o budget preferred e =
    let w = (travelled (formula_of b) preferred budget (search t n Open) o.kept).within in
    rw (← e) at w
