-- The rounds of a counted search: the rounds of a run, with what is kept of the record; and the numbers that it ends with.
use Rattle.std.specs.Prelude.{ℕ, ◌+◌, ◌<◌, ◌≡◌, Bool, true, false, List, ℤ, length, take}
use Rattle.std.proofs.Common.{◌∙◌}
use Rattle.formula.specs.Limits.{limits}
use Rattle.formula.specs.Formula.{prefix_of, formula_of}
use Rattle.theory.specs.Record.{among}
use Rattle.record.specs.Trail.{Trail}
use Rattle.record.specs.Inner.Ready.{OnBlock}
use Rattle.record.proofs.Laws.Accepted.{kept_true}
use Rattle.record.specs.declared.rule.Reached.{Reached}
use Rattle.memory.specs.Memory.{Memory}
use Rattle.search.specs.Run.{over}
use Rattle.search.proofs.Laws.Rounds.{Round, ended, used, more}
use Rattle.counted.specs.Inner.Numbers.{Rest}
use Rattle.counted.specs.Inner.State.{Counted}
use Rattle.counted.specs.Inner.Standing.{clauses_of, SetOn, Numbered}
use Rattle.counted.specs.Inner.Search.{Advanced, SearchedTo}
use Rattle.counted.proofs.Laws.State.{trues_laid, opens_laid}
use Rattle.counted.specs.declared.walk.Bounds.{Bounds}
use Rattle.counted.specs.declared.searches.Next.{Next}

-- ---- the numbers in the buffers
pub numbers_are : (b : List ℤ) (t : Trail) (n : ℕ) → OnBlock limits b t n → (ts₀ os₀ ts os : List ℕ) (bounds : Bounds) → Counted (prefix_of b) (clauses_of b) (among (take n t.lits)) ts os bounds
    → Rest (length (clauses_of b)) ts₀ os₀ ts os → Numbered b t n ts₀ os₀ ts os
unfolding formula_of
numbers_are b t n on ts₀ os₀ ts os bounds c r =
    let same = kept_true (prefix_of b) t n on.kept in
    let ρ = among (take n t.lits) in
    record {
      trues = rw same (trues_laid (prefix_of b) (clauses_of b) ρ ts₀ os₀ ts os bounds c r);
      opens = rw same (opens_laid (prefix_of b) (clauses_of b) ρ ts₀ os₀ ts os bounds c r);
    }

-- ---- the loop
pub record Going (b : List ℤ) (m₀ : Memory) (n budget : ℕ) (preferred : List ℤ) (ts₀ os₀ : List ℕ) (m : Memory) (statuses ts os : List ℕ) (at : Reached) (bounds : Bounds) (steps reason : ℕ) : Type 0 where
  pub round : Round b m₀ n budget preferred m at steps reason
  pub now_set : SetOn b m.trail.lits at.count statuses ts os bounds
  pub rest : Rest (length (clauses_of b)) ts₀ os₀ ts os
  pub trues_long : length ts ≡ length ts₀
  pub opens_long : length os ≡ length os₀

module _
    {b : List ℤ} {m₀ : Memory} {n budget : ℕ} {preferred : List ℤ} {ts₀ os₀ : List ℕ} {m : Memory} {statuses ts os : List ℕ} {at : Reached} {bounds : Bounds} {steps reason : ℕ}
    (g : Going b m₀ n budget preferred ts₀ os₀ m statuses ts os at bounds steps reason)
  where
    numbered : Numbered b m.trail at.count ts₀ os₀ ts os
    numbered = numbers_are b m.trail at.count g.round.on.on ts₀ os₀ ts os bounds g.now_set.counted g.rest

    pub going_ended : {r : Bool} → r ≡ over at.state → r ≡ true → SearchedTo b m₀ n budget preferred ts₀ os₀ m (record { reached = at; steps = steps; reason = reason }) ts os
    going_ended e h = let d = ended g.round e h in record { led = d.0; tells = d.1; numbers = numbered }

    pub going_used : steps ≡ budget → SearchedTo b m₀ n budget preferred ts₀ os₀ m (record { reached = at; steps = budget; reason = reason }) ts os
    going_used h = let d = used g.round h in record { led = d.0; tells = d.1; numbers = numbered }

    pub going_more : steps < budget → {r : Bool} → r ≡ over at.state → r ≡ false → {m' : Memory} {next : Next} {statuses' ts' os' : List ℕ}
        → Advanced b m at.count preferred ts os m' next statuses' ts' os' → length ts' ≡ length ts → length os' ≡ length os
        → Going b m₀ n budget preferred ts₀ os₀ m' statuses' ts' os' next.reached next.bounds (steps + 1) next.reason
    going_more h e f a k l = record {
      round = more g.round h e f (a.led, a.tells);
      now_set = a.now_set;
      rest = record { trues = a.rest.trues ∙ g.rest.trues; opens = a.rest.opens ∙ g.rest.opens };
      trues_long = k ∙ g.trues_long;
      opens_long = l ∙ g.opens_long;
    }
