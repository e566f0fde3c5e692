-- Over checked input and its tables the tests of a clause are the rules' own: a literal's variable is bound once, so its value and its
-- quantifier, which the tables hold, decide what the literal is to its clause.
use Rattle.clauses.specs.declared.found.UnitClause.{UnitClause}
use Rattle.std.specs.Prelude.{◌≡◌, Bool, not, List, ℕ, ◌≤◌, zero, suc, ◌<◌, ltb, ℤ, nat_abs, pos, negsuc, neg_ℤ, length, get_or, take, ◌⊎◌, Option, Some, None}
use Rattle.std.proofs.Common.{◌∙◌, ap, zero-le, arith, ltb-false, ltb-true, inl, inr}
use Rattle.std.proofs.Math.Path.{refl}
use Rattle.std.proofs.Math.Bool.{false, true, cond, and-false}
use Rattle.std.proofs.Math.Dec.{eqb}
use Rattle.std.proofs.Math.ListN.{get_or-eq_default}
use Rattle.words.specs.Laws.Bools.{clash, look, to_false}
use Rattle.words.specs.Lists.{In}
use Rattle.words.specs.Laws.Lists.{in_at}
use Rattle.words.specs.Laws.Words.{mem_e}
use Rattle.formula.specs.Formula.{clauses_from, existential, universal, level}
use Rattle.formula.specs.Block.{twice}
use Rattle.theory.specs.Tests.{untrue_of, unassigned_existential, unassigned_universal, in_conflict}
use Rattle.record.specs.Inner.Tables.{sign_of, value_in, Values}
use Rattle.tables.specs.Inner.Levels.{Levels}
use Rattle.record.specs.Trail.{Trail, record_of}
use Rattle.record.specs.Inner.Ready.{Ready, Bound, Kept}
use Rattle.record.proofs.Laws.Records.{kept_good, kept_room}
use Rattle.record.proofs.Laws.Last.{last_kind_lem}
use Rattle.record.proofs.Laws.Accepted.{kept_literals_lem}
use Rattle.formula.specs.Limits.{limits}
use Rattle.formula.specs.Laws.Limits.{variables_are}
use Rattle.formula.specs.Laws.Named.{in_named}
use Rattle.formula.specs.Inner.Named.{Named}
use Rattle.formula.specs.Laws.Prefix.{once_in, level_few}
use Rattle.formula.specs.Laws.Permuted.{all_bound, quantifier}
use Rattle.formula.specs.Laws.Clauses.{clauses_in}
use Rattle.theory.specs.Record.{Assignment, among, assigned, literals}
use Rattle.record.specs.Found.{on_found}
use Rattle.clauses.specs.Lowest.{lowest}
use Rattle.rules.specs.Due.{lowest_unit}
use Rattle.clauses.specs.Inner.Clauses.{Placed, Clauses, level_by, conflict_by, on_deciding, lowest_unit_by, deciding_by}
use Rattle.tables.specs.Inner.ByLiteral.{status_by, status_in, Statuses}
use Rattle.rules.specs.Inner.Occurrences.{true_by}
use Rattle.rules.specs.Inner.Tabled.{Consistent, Tabled, Sorted, as_false, as_true, as_existential, as_universal, Sorts}
use Rattle.tables.specs.Laws.Levels.{level_at_lem}
use Rattle.rules.proofs.Laws.ClausesMean.{untrue_means, lowest_conflict_means, lowest_unit_means}
use Rattle.rules.specs.Inner.Meant.{Meant}
use Rattle.clauses.specs.declared.found.Deciding.{Deciding}
use Rattle.clauses.specs.declared.found.Deciding.TheVariants.{Conflict, Quiet}

module _ (p : List ℤ) (b : Bound p) (ρ : Assignment) (values : List ℕ) (vals : Values ρ values) (con : Consistent ρ) where
  -- a literal is true, or false by its opposite, or unassigned and of its variable's quantifier
  status_is : (x : ℤ) → 0 < nat_abs x → status_by p values x ≡ cond (ρ x) 1 (cond (ρ (neg_ℤ x)) 0 (cond (universal p x) 3 2))
  unfolding status_by
  status_is x z = rw (vals (nat_abs x), two (universal p x)) (by x z)
    where
      two : (u : Bool) → eqb (cond u 2 1) 2 ≡ u
      two true = refl
      two false = refl

      plus : (s t u : Bool) → ◌≡◌ {A = ℕ} (cond (eqb (cond s 1 (cond t 2 0)) 0) (cond u 3 2) (cond (eqb (cond s 1 (cond t 2 0)) 1) 1 0)) (cond s 1 (cond t 0 (cond u 3 2)))
      plus true t u = refl
      plus false true u = refl
      plus false false u = refl

      minus : (s t u : Bool) → (t ≡ true → s ≡ false) → ◌≡◌ {A = ℕ} (cond (eqb (cond t 1 (cond s 2 0)) 0) (cond u 3 2) (cond (eqb (cond t 1 (cond s 2 0)) 2) 1 0)) (cond s 1 (cond t 0 (cond u 3 2)))
      minus true true u c = clash refl (c refl)
      minus true false u c = refl
      minus false true u c = refl
      minus false false u c = refl

      by : (x : ℤ) → 0 < nat_abs x → ◌≡◌ {A = ℕ} (cond (eqb (value_in ρ (nat_abs x)) 0) (cond (universal p x) 3 2) (cond (eqb (value_in ρ (nat_abs x)) (sign_of x)) 1 0)) (cond (ρ x) 1 (cond (ρ (neg_ℤ x)) 0 (cond (universal p x) 3 2)))
      by (pos n) z = plus (ρ (pos n)) (ρ (neg_ℤ (pos n))) (universal p (pos n))
      by (negsuc n) z = minus (ρ (negsuc n)) (ρ (pos (suc n))) (universal p (negsuc n)) (con (suc n) z)

  -- so a table of statuses says of each literal of the prefix's variables what it is
  pub sorts : (statuses : List ℕ) → Statuses p values statuses → Sorts p ρ statuses
  unfolding assigned unassigned_existential unassigned_universal
  sorts statuses said x n = go (look (ρ x)) (look (ρ (neg_ℤ x))) (look (existential p x))
    where
      is : status_in statuses x ≡ cond (ρ x) 1 (cond (ρ (neg_ℤ x)) 0 (cond (universal p x) 3 2))
      is = said.said x n.most (all_bound (length p) p b.binds.named b.binds.once refl (nat_abs x) n.some n.most) ∙ status_is x n.some

      other : universal p x ≡ not (existential p x)
      other = quantifier (length p) p b.binds.named b.binds.once refl x n

      go : (ρ x ≡ true) ⊎ (ρ x ≡ false) → (ρ (neg_ℤ x) ≡ true) ⊎ (ρ (neg_ℤ x) ≡ false) → (existential p x ≡ true) ⊎ (existential p x ≡ false) → Sorted p ρ (status_in statuses) x
      go (inl h) k e = as_true (is ∙ rw h) h
      go (inr h) (inl k) e = as_false (is ∙ rw (h, k)) h (rw (h, k) (and-false (existential p x))) (rw (h, k) (and-false (universal p x)))
      go (inr h) (inr k) (inl e) = let u : universal p x ≡ false = other ∙ ap not e in as_existential (is ∙ rw (h, k, u)) h (rw (h, k, e)) (rw (h, k, u))
      go (inr h) (inr k) (inr e) = let u : universal p x ≡ true = other ∙ ap not e in as_universal (is ∙ rw (h, k, u)) h (rw (h, k, e)) (rw (h, k, u))

-- the literals of a list in which no variable stands twice
pub once_consistent : (ls : List ℤ) → twice ls ≡ false → Consistent (among ls)
once_consistent ls h zero z e = absurd (omega arith)
once_consistent ls h (suc n) z e = to_false _ (λ f. opposite (once_in ls h (mem_e (pos (suc n)) ls e) (mem_e (negsuc n) ls f) refl))
  where
    opposite : pos (suc n) ≡ negsuc n → ⊥
    opposite q = let k : ◌≡◌ {A = ℕ} 0 1 = cc in omega arith

-- ---- checked input
module _ (p es ls : List ℤ) (ready : Ready p es ls) where
  -- every literal names a variable, and so has a place
  literal_named : {x : ℤ} → In x ls → Named (length p) x
  literal_named i = in_named (length p) ls ready.named i

  pub ready_clauses : Clauses es ls 0
  ready_clauses = record { ends = ready.ends; placed = placed }
    where
      room : length p ≤ limits.variables
      room = ready.prefix.room

      placed : Placed ls
      placed i = go (look (ltb i (length ls)))
        where
          go : (ltb i (length ls) ≡ true) ⊎ (ltb i (length ls) ≡ false) → nat_abs (get_or ls i (pos 0)) ≤ limits.variables
          go (inl h) = let n = literal_named (in_at ls i (pos 0) (ltb-true i (length ls) h)) in omega (arith, n.most, room)
          go (inr h) = rw (get_or-eq_default ls (pos 0) (ltb-false i (length ls) h)) zero-le

  module _ (ρ : Assignment) (statuses : List ℕ) (sorting : Sorts p ρ statuses) where
    -- 1: the lowest clause in conflict
    conflict_ready : lowest (conflict_by (status_in statuses)) 0 (clauses_from ls 0 es) ≡ lowest (in_conflict p ρ) 0 (clauses_from ls 0 es)
    conflict_ready = lowest_conflict_means p ρ _ _ (λ C i x j. sorting x (literal_named (clauses_in ls 0 es i j)))

    -- the clauses with no true literal
    pub untrue_ready : untrue_of (true_by (status_in statuses)) (clauses_from ls 0 es) ≡ untrue_of ρ (clauses_from ls 0 es)
    untrue_ready = untrue_means p ρ _ _ (λ C i x j. sorting x (literal_named (clauses_in ls 0 es i j)))

    -- 2: the lowest unit clause
    unit_ready : (levels : List ℕ) → Levels p levels → lowest_unit_by (status_in statuses) (level_by levels) 0 (clauses_from ls 0 es) ≡ lowest_unit p ρ (clauses_from ls 0 es)
    unfolding level
    unit_ready levels lvls = lowest_unit_means p ρ _ _ _ ready.single (λ C i x j. meant x (clauses_in ls 0 es i j))
      where
        meant : (x : ℤ) → In x ls → Meant p ρ (status_in statuses) (level_by levels) x
        meant x i = let n = literal_named i in record {
          sorted = sorting x n;
          at = level_at_lem p levels lvls (nat_abs x) (all_bound (length p) p ready.prefix.binds.named ready.prefix.binds.once refl (nat_abs x) n.some n.most);
          low = omega (arith, level_few p (nat_abs x), ready.prefix.room, variables_are);
        }

    -- and what the search for both finds: by the rules' order, conflict first
    pub deciding_ready : (levels : List ℕ) → Levels p levels → {d : Deciding} → d ≡ deciding_by (status_in statuses) (level_by levels) 0 (clauses_from ls 0 es) → {A : Type 0} (f : ℕ → A) (g : Option UnitClause → A)
        → on_deciding d f g ≡ on_found (lowest (in_conflict p ρ) 0 (clauses_from ls 0 es)) f (g (lowest_unit p ρ (clauses_from ls 0 es)))
    unfolding deciding_by
    deciding_ready levels lvls e f g = rw (e, conflict_ready, unit_ready levels lvls) (by (lowest (in_conflict p ρ) 0 (clauses_from ls 0 es)) (lowest_unit p ρ (clauses_from ls 0 es)))
      where
        by : (o : Option ℕ) (u : Option UnitClause) → on_deciding (on_found o Conflict (Quiet u)) f g ≡ on_found o f (g u)
        by (Some c) u = refl
        by None u = refl

-- ---- the record
module _ (p : List ℤ) (t : Trail) (n : ℕ) (kept : Kept p t n) where
  -- what the code of the due rule knows of the record
  pub kept_tabled : (table : List ℕ) → Values (among (take n t.lits)) table → Tabled (record_of t n) table t.kinds n
  kept_tabled table h = record {
    values = λ v. rw (kept_literals_lem p t n kept) (h v);
    consistent = once_consistent (literals (record_of t n)) (kept_good kept).once;
    lasts = λ k. last_kind_lem t k n (kept_room kept);
  }
