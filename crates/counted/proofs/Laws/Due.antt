-- The looks by the numbers find what the rules' searches find: the least clause of key 0 is the lowest in conflict, the lowest unit clause has key 1, and
-- with neither the prefix decides. Each look leaves a bound below which there is nothing to find.
use Rattle.clauses.specs.Found.{unit_clause}
use Rattle.clauses.specs.declared.found.UnitClause.{UnitClause}
use Rattle.std.specs.Prelude.{ℕ, ◌≤◌, ℤ, nat_abs, get_or, take, Option, Some, None}
use Rattle.std.proofs.Math.Path.{◌≡◌, refl, sym, ap}
use Rattle.std.proofs.Common.{◌∙◌, arith}
use mathlib.Core.List.{List, []}
use Rattle.std.proofs.Math.ListN.{length}
use Rattle.words.specs.Lists.{In}
use Rattle.words.specs.declared.Literal.{Literal}
use Rattle.formula.specs.Limits.{limits}
use Rattle.formula.specs.Formula.{prefix_of, ends_of, literals_of, clauses_from, formula_of, level}
use Rattle.formula.specs.Laws.Clauses.{clauses_length, clauses_in}
use Rattle.formula.specs.Laws.Limits.{variables_are}
use Rattle.formula.specs.Laws.Named.{in_named}
use Rattle.formula.specs.Laws.Permuted.{all_bound}
use Rattle.formula.specs.Laws.Prefix.{level_few}
use Rattle.theory.specs.Record.{Record, Assignment, among, true_in}
use Rattle.theory.specs.Tests.{in_conflict}
use Rattle.record.specs.Found.{literal, on_found}
use Rattle.clauses.specs.Lowest.{lowest}
use Rattle.rules.specs.Due.{candidate, is_unit, lowest_unit, due_monotone, due_conflict, due}
use Rattle.record.specs.Trail.{trail, record_of}
use Rattle.tables.specs.Inner.ByLiteral.{status_in}
use Rattle.clauses.specs.Inner.Clauses.{level_by}
use Rattle.record.specs.Inner.Ready.{Bound}
use Rattle.rules.specs.Inner.Tabled.{Tabled}
use Rattle.record.proofs.Laws.Accepted.{kept_true, kept_written, prefix_few, accepted_bound}
use Rattle.rules.proofs.Laws.ClausesReady.{kept_tabled}
use Rattle.rules.specs.Inner.Meant.{Meant}
use Rattle.tables.specs.Laws.Levels.{level_at_lem}
use Rattle.record.specs.declared.rule.Rule.{Rule}
use Rattle.record.specs.declared.rule.Rule.TheVariants.{Unit}
use Rattle.search.proofs.Laws.Named.{due_names}
use Rattle.counted.specs.Inner.Free.{Walkable, free_rule}
use Rattle.counted.specs.Inner.Numbers.{Least, NoneFrom}
use Rattle.counted.specs.Inner.State.{Counted}
use Rattle.counted.specs.Inner.Standing.{clauses_of, Sought}
use Rattle.counted.specs.Inner.Unit.{LookRoom, Looking}
use Rattle.counted.proofs.Laws.Checked.{ready, few, once, some_values}
use Rattle.counted.proofs.Laws.Free.{walkable, rule_means}
use Rattle.counted.proofs.Laws.State.{conflict_absent, conflict_found, conflict_raised}
use Rattle.counted.proofs.Laws.Steps.{below_found, none_found, unit_raised}
use Rattle.counted.specs.declared.walk.Bounds.{Bounds}

-- ---- what the search for a unit clause says of the clauses before
module _ (p : List ℤ) (ρ : Assignment) (m : List (List ℤ)) where
  unit_at : (l : Literal) (c : ℕ) → lowest_unit p ρ m ≡ Some (unit_clause l c) → lowest (is_unit p ρ) 0 m ≡ Some c
  unfolding lowest_unit
  unit_at l c = go (lowest (is_unit p ρ) 0 m)
    where
      go : (o : Option ℕ) → on_found o (λ c. Some (unit_clause (literal (candidate p ρ (get_or m c []))) c)) None ≡ Some (unit_clause l c) → o ≡ Some c
      go (Some i) e = let u : unit_clause (literal (candidate p ρ (get_or m i []))) i ≡ unit_clause l c = cc in ap (λ (u : UnitClause). Some u.clause) u
      go None e = let z : ◌≡◌ {A = ℕ} 0 1 = cc in absurd (omega arith)

  unit_none : lowest_unit p ρ m ≡ None → lowest (is_unit p ρ) 0 m ≡ None
  unfolding lowest_unit
  unit_none = go (lowest (is_unit p ρ) 0 m)
    where
      go : (o : Option ℕ) → on_found o (λ c. Some (unit_clause (literal (candidate p ρ (get_or m c []))) c)) None ≡ None → o ≡ None
      go (Some i) e = let z : ◌≡◌ {A = ℕ} 0 1 = cc in absurd (omega arith)
      go None e = refl

abbrev bound : ℕ → ℕ → Bounds
bound c u = record { conflict = c; unit = u }

module _ (b : List ℤ) (ks : List ℕ) (n : ℕ) (levels stops index statuses ts os : List ℕ) (was : Bounds) (x : Sought b ks n levels stops index statuses ts os was) where
  abbrev R : Record
  R = record_of (trail x.lits ks) n

  abbrev ρ : Assignment
  ρ = among (take n x.lits)

  abbrev Kept : Bounds → Type 0
  Kept bounds = Counted (prefix_of b) (clauses_of b) (among (take n x.lits)) ts os bounds

  abbrev Finds : Rule → Bounds → Type 0
  Finds rule bounds = (rule ≡ due (formula_of b) (record_of (trail x.lits ks) n)) × Kept bounds

  long : length (clauses_of b) ≡ length (ends_of b)
  long = clauses_length (literals_of b) 0 (ends_of b)

  same_true : true_in (record_of (trail x.lits ks) n) ≡ among (take n x.lits)
  same_true = kept_true (prefix_of b) (trail x.lits ks) n x.on.kept

  -- what the looks ask for
  pub look_room : {es : List ℤ} → es ≡ ends_of b → (length es ≤ length ts) × (length es ≤ length os)
  look_room e =
      let s = x.now_set.counted in
      rw e (omega (arith, s.trues_room, long), omega (arith, s.opens_room, long))

  pub unit_room : {es ls : List ℤ} → es ≡ ends_of b → ls ≡ literals_of b → LookRoom es ls ts os was.unit
  unit_room e f =
      let s = x.now_set.counted in
      rw (e, f)
      (record {
        clauses = (few b x.on.block).clauses;
        trues_room = omega (arith, s.trues_room, long);
        opens_room = omega (arith, s.opens_room, long);
        below = omega (arith, s.unit_most, long);
      })

  pub free_room : {p : List ℤ} → p ≡ prefix_of b → Walkable p stops index ts
  free_room e = rw e (walkable b x.lits ks n x.on stops index statuses ts os was x.indexed x.now_set)

  -- each literal is what the tables say
  prefix : Bound (prefix_of b)
  prefix = accepted_bound b x.on.block

  meant : (y : ℤ) → In y (literals_of b) → Meant (prefix_of b) (among (take n x.lits)) (status_in statuses) (level_by levels) y
  unfolding level
  meant y i =
      let k = in_named (length (prefix_of b)) (literals_of b) (ready b x.on.block).named i in
      record {
        sorted = x.now_set.sorts y k;
        at = level_at_lem (prefix_of b) levels x.told (nat_abs y) (all_bound (length (prefix_of b)) (prefix_of b) prefix.binds.named prefix.binds.once refl (nat_abs y) k.some k.most);
        low = omega (arith, level_few (prefix_of b) (nat_abs y), prefix.room, variables_are);
      }

  tabled : (table : List ℕ) × Tabled (record_of (trail x.lits ks) n) table ks n
  tabled =
      let (values, said) = some_values x.lits n (kept_written (prefix_of b) (trail x.lits ks) n x.on.kept (prefix_few limits b x.on.block)) in
      (values, kept_tabled (prefix_of b) (trail x.lits ks) n x.on.kept values said)

  module _ {es : List ℤ} (e : es ≡ ends_of b) where
    raised : (r : ℕ) → r ≤ length es → NoneFrom ts os was.conflict r 0 → Kept (bound r was.unit)
    raised r h k = conflict_raised (prefix_of b) (clauses_of b) (among (take n x.lits)) ts os was x.now_set.counted r (omega (arith, long, ap length e)) k (bound r was.unit) refl refl

    -- a clause in conflict
    pub finds_conflict : {r : ℕ} → Least ts os was.conflict (length es) 0 r → {rule : Rule} → ((R : Record) (table : List ℕ) → Tabled R table ks n → rule ≡ due_conflict R r) → Finds rule (bound r was.unit)
    unfolding due formula_of
    finds_conflict {r} l is =
        let (table, t) = tabled in
        (is _ table t ∙ sym (rw found), raised r (omega (arith, l.within)) l.others)
      where
        found : lowest (in_conflict (prefix_of b) (true_in (record_of (trail x.lits ks) n))) 0 (clauses_of b) ≡ Some r
        found = rw same_true (conflict_found (prefix_of b) (clauses_of b) (among (take n x.lits)) ts os was x.now_set.counted r (rw long (rw e at l)))

    module _ (free : NoneFrom ts os was.conflict (length es) 0) {ls : List ℤ} (f : ls ≡ literals_of b) {u : Option UnitClause}
        (is : (y : Looking es ls statuses levels ts os was.unit) → u ≡ lowest_unit y.p y.ρ (clauses_from ls 0 es)) where
      none : lowest (in_conflict (prefix_of b) (true_in (record_of (trail x.lits ks) n))) 0 (clauses_of b) ≡ None
      none = rw same_true (conflict_absent (prefix_of b) (clauses_of b) (among (take n x.lits)) ts os was x.now_set.counted (rw long (rw e at free)))

      looking : Looking (ends_of b) (literals_of b) statuses levels ts os was.unit
      looking = record {
        p = prefix_of b;
        ρ = among (take n x.lits);
        b = was;
        bound = refl;
        clauses = (few b x.on.block).clauses;
        counted = x.now_set.counted;
        once = once b x.on.block;
        meant = λ C i y j. meant y (clauses_in (literals_of b) 0 (ends_of b) i j);
      }

      unit_is : u ≡ lowest_unit (prefix_of b) (among (take n x.lits)) (clauses_of b)
      unfolding looking
      unit_is =
          let h : (y : Looking (ends_of b) (literals_of b) statuses levels ts os was.unit) → u ≡ lowest_unit y.p y.ρ (clauses_from (literals_of b) 0 (ends_of b)) = rw (e, f) at is in
          h looking

      unit_true : lowest_unit (prefix_of b) (true_in (record_of (trail x.lits ks) n)) (clauses_of b) ≡ u
      unit_true = rw same_true (sym unit_is)

      -- a unit clause
      unit_due : (l : Literal) (c : ℕ) → u ≡ Some (unit_clause l c) → due (formula_of b) (record_of (trail x.lits ks) n) ≡ Unit l c
      unfolding due formula_of
      unit_due l c z = rw (none, unit_true, z)

      pub finds_unit : (l : Literal) (c : ℕ) → u ≡ Some (unit_clause l c) → Finds (Unit l c) (bound (length es) c)
      unfolding formula_of
      finds_unit l c z =
          let d = unit_due l c z in
          let k = rw d at (due_names (formula_of b) (record_of (trail x.lits ks) n)) in
          let a = unit_at (prefix_of b) (among (take n x.lits)) (clauses_of b) l c (sym unit_is ∙ z) in
          (sym d, unit_raised (prefix_of b) (clauses_of b) (among (take n x.lits)) ts os (bound (length es) was.unit) (bound (length es) c) (raised (length es) (omega arith) free) refl (omega (arith, k.0)) (λ i q. below_found (is_unit (prefix_of b) (among (take n x.lits))) [] 0 c (clauses_of b) a i (omega arith)))

      -- none: the prefix decides
      pub finds_free : u ≡ None → {p : List ℤ} → p ≡ prefix_of b → {rule : Rule} → rule ≡ free_rule p ks n stops index statuses ts → Finds rule (bound (length es) (length es))
      unfolding due formula_of
      finds_free z {p} q is =
          let a = unit_none (prefix_of b) (among (take n x.lits)) (clauses_of b) (sym unit_is ∙ z) in
          let g = rule_means b x.lits ks n x.on stops index statuses ts os was x.indexed x.now_set in
          let most : length es ≤ length (clauses_of b) = rw e (omega (arith, long)) in
          let g' : free_rule p ks n stops index statuses ts ≡ due_monotone (formula_of b) (record_of (trail x.lits ks) n) = rw q g in
          let d : due (formula_of b) (record_of (trail x.lits ks) n) ≡ due_monotone (formula_of b) (record_of (trail x.lits ks) n) = rw (none, unit_true, z) in
          (is ∙ g' ∙ sym d, unit_raised (prefix_of b) (clauses_of b) (among (take n x.lits)) ts os (bound (length es) was.unit) (bound (length es) (length es)) (raised (length es) (omega arith) free) refl most (λ i k. none_found (is_unit (prefix_of b) (among (take n x.lits))) [] 0 (clauses_of b) a i (omega arith)))
