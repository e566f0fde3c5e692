-- The due rule names a clause of the block, so that its reason is at most C; and it has a place to write a reason to. By the cases of the searches.
use Rattle.clauses.specs.Found.{unit_clause}
use Rattle.clauses.specs.declared.found.UnitClause.{UnitClause}
use Rattle.std.specs.Prelude.{ℕ, ◌+◌, ◌≤◌, ◌<◌, ◌≡◌, Bool, length, get_or, drop, Option, Some, None}
use Rattle.std.proofs.Math.Path.{refl}
use Rattle.std.proofs.Common.{ap, ◌∙◌, arith, length-drop, length-take-le}
use mathlib.Core.List.{List, []}
use Rattle.std.proofs.Math.IntN.{ℤ}
use Rattle.words.specs.declared.Literal.{Literal}
use Rattle.formula.specs.Limits.{Limits, limits}
use Rattle.formula.specs.Laws.Limits.{clauses_are}
use Rattle.formula.specs.Formula.{Formula, variables_of, clause_count_of, prefix_of, literals_of, ends_of, formula_of}
use Rattle.formula.specs.Block.{refusal}
use Rattle.formula.specs.Laws.Accepted.{accepted}
use Rattle.formula.specs.Laws.Clauses.{clauses_length}
use Rattle.theory.specs.Record.{Record, true_in}
use Rattle.theory.specs.Tests.{in_conflict}
use Rattle.record.specs.declared.rule.Rule.{Rule}
use Rattle.record.specs.declared.rule.Rule.TheVariants.{BacktrackExists, Fail, Unit, Monotone, Decide, BacktrackForall, Succeed}
use Rattle.record.specs.declared.rule.State.TheVariants.{Open}
use Rattle.record.specs.Trail.{Trail, record_of}
use Rattle.record.specs.Search.{search}
use Rattle.record.specs.Inner.Ready.{OnBlock}
use Rattle.record.specs.Found.{literal, on_found, last}
use Rattle.choice.specs.First.{first_unassigned}
use Rattle.clauses.specs.Lowest.{lowest}
use Rattle.rules.specs.Due.{candidate, is_unit, lowest_unit, first_monotone, due_assigned, due_decide, due_monotone, due_unit, due_conflict, due}
use Rattle.applied.specs.Inner.Fits.{Fitting}
use Rattle.record.proofs.Laws.Accepted.{prefix_length}
use Rattle.clauses.proofs.Laws.Lowest.{lowest_at, lowest_below}
use Rattle.rules.proofs.Laws.Steps.{due_fits}
use Rattle.memory.specs.Memory.{Memory}
use Rattle.memory.specs.Reasons.{reason_of}
use Rattle.memory.specs.Inner.Reasons.{PlaceFits, Tellable, OnMemory}
use Rattle.search.specs.Named.{Names}

-- the due rule has a place to write to, where rows 1 to 12 have passed
pub fitting : {L : Limits} {b : List ℤ} {t : Trail} {n : ℕ} → OnBlock L b t n → Fitting (prefix_of b) n (due (formula_of b) (record_of t n))
unfolding formula_of
fitting {L} {b} {t} {n} o = due_fits (formula_of b) (search t n Open) o.kept

module _ (F : Formula) (r : Record) where
  by_last : (c : ℕ) → c < length F.clauses → (o : Option ℕ) → Names F r (on_found o (λ i. BacktrackExists i c) (Fail c))
  by_last c h (Some i) = h
  by_last c h None = h

  by_forall : (o : Option ℕ) → Names F r (on_found o (λ i. BacktrackForall i) Succeed)
  by_forall (Some i) = omega arith
  by_forall None = omega arith

  by_decide : (o : Option Literal) → Names F r (on_found o (λ l. Decide l) (due_assigned r))
  by_decide (Some l) = omega arith
  by_decide None = by_forall (last 2 0 r)

  by_monotone : (o : Option Literal) → Names F r (on_found o (λ l. Monotone l) (due_decide F.prefix r))
  by_monotone (Some l) = omega arith
  by_monotone None = by_decide (first_unassigned (true_in r) F.prefix)

  found_unit : (l : Literal) (c : ℕ) → lowest_unit F.prefix (true_in r) F.clauses ≡ Some (unit_clause l c) → Names F r (Unit l c)
  unfolding lowest_unit
  found_unit l c e = go (lowest (is_unit p ρ) 0 m) refl e
    where
      p : List ℤ
      p = F.prefix

      ρ : ℤ → Bool
      ρ = true_in r

      m : List (List ℤ)
      m = F.clauses

      go : (o : Option ℕ) → lowest (is_unit p ρ) 0 m ≡ o → on_found o (λ c. Some (unit_clause (literal (candidate p ρ (get_or m c []))) c)) None ≡ Some (unit_clause l c) → Names F r (Unit l c)
      go (Some i) q e =
          let (j, s, t, u) = lowest_at (is_unit p ρ) [] 0 m i q in
          let z : j ≡ i = omega arith in
          let w : unit_clause (literal (candidate p ρ (get_or m i []))) i ≡ unit_clause l c = cc in
          let same : i ≡ c = ap (λ (u : UnitClause). u.clause) w in
          let w0 : candidate p ρ (get_or m i []) ≡ l.0 = ap (λ (u : UnitClause). u.literal.0) w in
          let b = lowest_below (is_unit p ρ) 0 m i q in
          rw (← same) (omega arith, rw (← w0) (rw z at u))
      go None q e = let z : ◌≡◌ {A = ℕ} 0 1 = cc in absurd (omega arith)

  by_unit : (o : Option UnitClause) → lowest_unit F.prefix (true_in r) F.clauses ≡ o → Names F r (on_found o (λ u. Unit u.literal u.clause) (due_monotone F r))
  by_unit (Some u) e = found_unit u.literal u.clause e
  by_unit None e = by_monotone (first_monotone _ _ _)

  pub due_names : Names F r (due F r)
  unfolding due
  due_names = go (lowest (in_conflict F.prefix (true_in r)) 0 F.clauses) refl
    where
      go : (o : Option ℕ) → lowest (in_conflict F.prefix (true_in r)) 0 F.clauses ≡ o → Names F r (on_found o (due_conflict r) (due_unit F r))
      go (Some c) e = let b = lowest_below (in_conflict F.prefix (true_in r)) 0 F.clauses c e in by_last c (omega arith) (last 1 0 r)
      go None e = by_unit (lowest_unit F.prefix (true_in r) F.clauses) refl

-- so its reason is at most C
reason_most : (F : Formula) (r : Record) (rule : Rule) → Names F r rule → reason_of rule ≤ length F.clauses
reason_most F r (BacktrackExists i c) h = omega arith
reason_most F r (Fail c) h = omega arith
reason_most F r (Unit l c) h = omega (arith, h.0)
reason_most F r (Monotone l) h = omega arith
reason_most F r (Decide l) h = omega arith
reason_most F r (BacktrackForall i) h = omega arith
reason_most F r Succeed h = omega arith

pub clause_count : (L : Limits) (b : List ℤ) → refusal L b ≡ 0 → length (formula_of b).clauses ≡ clause_count_of b
unfolding formula_of
clause_count L b e =
    let a = accepted L b e in
    clauses_length (literals_of b) 0 (ends_of b)
    ∙ length-take-le (clause_count_of b) (drop (6 + variables_of b) b) (rw length-drop (omega (arith, a.whole)))

-- ---- a rule has a place among the reasons, and its reason is a word
place_fits : (p : List ℤ) (k n : ℕ) → length p ≤ k → (rule : Rule) → Fitting p n rule → PlaceFits k n rule
place_fits p k n h (BacktrackExists i c) f = omega arith
place_fits p k n h (Fail c) f = f
place_fits p k n h (Unit l c) f = omega arith
place_fits p k n h (Monotone l) f = omega arith
place_fits p k n h (Decide l) f = omega arith
place_fits p k n h (BacktrackForall i) f = omega arith
place_fits p k n h Succeed f = f

pub tellable : {b : List ℤ} {m : Memory} {n : ℕ} → OnMemory b m n → Tellable (length m.reasons) n (due (formula_of b) (record_of m.trail n))
tellable {b} {m} {n} o =
    let F = formula_of b in
    let rule = due F (record_of m.trail n) in
    let few = reason_most F (record_of m.trail n) rule (due_names F (record_of m.trail n)) in
    let block = o.on.block in
    record {
      fits = place_fits (prefix_of b) (length m.reasons) n (omega (arith, prefix_length limits b block, o.places)) rule (fitting o.on);
      small = omega (arith, few, clause_count limits b block, (accepted limits b block).counts.clauses.most, clauses_are);
    }
