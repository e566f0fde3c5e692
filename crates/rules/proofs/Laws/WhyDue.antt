-- Why the due rule is due: for each rule, what its searches have shown. By the cases of the searches, in their order.
use mathlib.Core.List.{[]}
use Rattle.std.specs.Prelude.{ℕ, ◌≡◌, refl, true, Option, Some, None}
use Rattle.words.specs.Laws.Lists.{any_i}
use Rattle.words.specs.declared.Literal.{Literal}
use Rattle.formula.specs.Formula.{Formula}
use Rattle.theory.specs.Record.{Record, true_in}
use Rattle.theory.specs.Tests.{in_conflict, conflict, monotone as isMonotone, untrue_of, is_open}
use Rattle.theory.specs.Rules.{Conflict, Quiet, Full}
use Rattle.theory.proofs.Laws.First.{first_open_lem}
use Rattle.record.specs.Found.{on_found, last}
use Rattle.choice.specs.First.{first_unassigned}
use Rattle.clauses.specs.Lowest.{lowest}
use Rattle.rules.specs.Due.{lowest_unit, first_monotone, due_assigned, due_decide, due_monotone, due_unit, due_conflict, due}
use Rattle.record.specs.Inner.Ready.{Binds}
use Rattle.record.proofs.Laws.Good.{bare, bare_proper}
use Rattle.choice.specs.Laws.Searches.{unassigned_none, unassigned_found}
use Rattle.clauses.proofs.Laws.Lowest.{lowest_none, lowest_at}
use Rattle.rules.proofs.Laws.Searches.{UnitOf, unit_found, monotone_found}
use Rattle.record.specs.declared.rule.Rule.{Rule}
use Rattle.record.specs.declared.rule.Rule.TheVariants.{BacktrackExists, Fail, Unit, Monotone, Decide, BacktrackForall, Succeed}

pub data Reason (F : Formula) (r : Record) : Rule → Type 0 where
  backtrack_exists : (i c : ℕ) → Conflict F r → last 1 0 r ≡ Some i → Reason F r (BacktrackExists i c)
  fail : (c : ℕ) → Conflict F r → last 1 0 r ≡ None → Reason F r (Fail c)
  unit : (l : Literal) (c : ℕ) → Quiet F r → UnitOf F.prefix F.clauses (true_in r) l.0 → Reason F r (Unit l c)
  monotone : (l : Literal) → Quiet F r → isMonotone F.prefix (untrue_of (true_in r) F.clauses) (true_in r) l.0 ≡ true → Reason F r (Monotone l)
  decide : (l : Literal) → Quiet F r → is_open F.prefix (true_in r) l.0 ≡ true → Reason F r (Decide l)
  backtrack_forall : (i : ℕ) → Quiet F r → Full F r → last 2 0 r ≡ Some i → Reason F r (BacktrackForall i)
  succeed : Quiet F r → Full F r → last 2 0 r ≡ None → Reason F r Succeed

-- by what a search finds
on_found_lem : {A : Type 0} (P : Rule → Type 0) (o : Option A) {f : A → Rule} {b : Rule} → ((x : A) → o ≡ Some x → P (f x)) → (o ≡ None → P b) → P (on_found o f b)
on_found_lem P (Some x) h k = h x refl
on_found_lem P None h k = k refl

module _ (F : Formula) (binds : Binds F.prefix) (r : Record) where
  by_conflict : (c : ℕ) → Conflict F r → Reason F r (due_conflict r c)
  by_conflict c h = on_found_lem (Reason F r) (last 1 0 r) (λ i e. backtrack_exists i c h e) (λ e. fail c h e)

  module _ (quiet : Quiet F r) where
    by_assigned : Full F r → Reason F r (due_assigned r)
    by_assigned f = on_found_lem (Reason F r) (last 2 0 r) (λ i e. backtrack_forall i quiet f e) (λ e. succeed quiet f e)

    by_decide : Reason F r (due_decide F.prefix r)
    by_decide = on_found_lem (Reason F r) (first_unassigned (true_in r) F.prefix)
        (λ l e. let (w, v) = unassigned_found (true_in r) F.prefix l e in decide l quiet (first_open_lem (bare F.prefix) (bare_proper F.prefix binds) (true_in r) w l.0 v))
        (λ e. by_assigned (unassigned_none (true_in r) F.prefix e))

    by_monotone : Reason F r (due_monotone F r)
    by_monotone = on_found_lem (Reason F r) (first_monotone F.prefix (untrue_of (true_in r) F.clauses) (true_in r)) (λ l e. monotone l quiet (monotone_found F.prefix (untrue_of (true_in r) F.clauses) (true_in r) l e)) (λ e. by_decide)

    by_unit : Reason F r (due_unit F r)
    by_unit = on_found_lem (Reason F r) (lowest_unit F.prefix (true_in r) F.clauses) (λ u e. unit u.literal u.clause quiet (unit_found F.prefix F.clauses (true_in r) u.literal u.clause e)) (λ e. by_monotone)

  pub reason : Reason F r (due F r)
  unfolding due conflict
  reason =
      let f = in_conflict F.prefix (true_in r) in
      on_found_lem (Reason F r) (lowest f 0 F.clauses)
      (λ c e. let t = lowest_at f [] 0 F.clauses c e in by_conflict c (any_i f t.2 t.3))
      (λ e. by_unit (lowest_none f 0 F.clauses e))
