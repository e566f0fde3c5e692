-- The search over the prefix by statuses, index and numbers is the rules' own: a status of 2 or 3 says that a variable is unassigned, and a live literal
-- is one that occurs in a clause with no true literal.
use Prim.Native.Nat.{ℕ, ◌+◌, ◌-◌, ◌≤◌, ◌<◌}
use Rattle.std.specs.Prelude.{◌≡◌, ◌⊎◌, Bool, ◌&&◌, List, leb, ℤ, pos, neg_ℤ, get_or, take, drop, Option, Some, None}
use Rattle.std.proofs.Math.Path.{refl, sym, ap}
use Rattle.std.proofs.Common.{◌∙◌, arith}
use Rattle.std.proofs.lemmas.List.{length-drop}
use Rattle.std.proofs.Math.Logic.{inl, inr}
use Rattle.std.proofs.Math.Bool.{true, false, cond, not}
use Rattle.std.proofs.Math.IntN.{nat_abs}
use Rattle.std.proofs.Math.ListN.{length}
use Rattle.words.specs.Laws.Bools.{and_r}
use Rattle.words.specs.Lists.{In}
use Rattle.words.specs.declared.Literal.{Literal}
use Rattle.words.specs.Laws.Lists.{in_drop}
use Rattle.words.specs.Laws.Words.{nat_abs_neg, negneg}
use Rattle.formula.specs.Limits.{limits, max_variables}
use Rattle.formula.specs.Formula.{existential, universal, prefix_of, literals_of, formula_of}
use Rattle.formula.specs.Inner.Named.{Named}
use Rattle.formula.specs.Inner.Places.{place_of}
use Rattle.formula.specs.Laws.Limits.{variables_are}
use Rattle.formula.specs.Laws.Named.{in_named}
use Rattle.formula.specs.Laws.Permuted.{quantified}
use Rattle.formula.specs.Laws.Places.{place_plus, place_minus, place_within}
use Rattle.theory.specs.Record.{Assignment, among, assigned}
use Rattle.theory.proofs.Laws.Assignment.{assigned_var}
use Rattle.theory.specs.Tests.{unassigned_existential, unassigned_universal, occurs, one_sign, monotone, untrue_of}
use Rattle.record.specs.Found.{literal, on_found}
use Rattle.choice.specs.First.{first_of, first_unassigned}
use Rattle.rules.specs.Due.{first_monotone, due_monotone}
use Rattle.record.specs.Trail.{trail, record_of}
use Rattle.tables.specs.Inner.ByLiteral.{status_in}
use Rattle.record.specs.Inner.Buffers.{last_kind}
use Rattle.record.specs.Inner.Ready.{Bound, OnBlock}
use Rattle.rules.specs.Inner.Tabled.{Sorted, as_false, as_true, as_existential, as_universal, Sorts}
use Rattle.record.proofs.Laws.Accepted.{accepted_bound, kept_true}
use Rattle.record.proofs.Laws.Last.{last_kind_lem}
use Rattle.record.proofs.Laws.Records.{kept_room}
use Rattle.choice.specs.Laws.Firsts.{first_past, first_here, first_later}
use Rattle.choice.specs.Laws.Searches.{first_same}
use Rattle.rules.proofs.Laws.VariablesMean.{monotone_own, monotone_opposite}
use Rattle.record.specs.declared.rule.Rule.TheVariants.{Monotone, Decide, BacktrackForall, Succeed}
use Rattle.counted.specs.Inner.Index.{Index, part_at, listed}
use Rattle.counted.specs.Inner.Live.{some_zero, Within}
use Rattle.counted.specs.Inner.Standing.{clauses_of, SetOn}
use Rattle.counted.specs.Inner.Free.{Walkable, taken_by, live_at, taken_at, free_at, first_at, monotone_at, free_rule}
use Rattle.counted.proofs.Laws.Checked.{once}
use Rattle.counted.proofs.Laws.Held.{part_is, parts}
use Rattle.counted.proofs.Laws.Live.{live_means, live_within}
use Rattle.counted.specs.declared.walk.Bounds.{Bounds}

-- ---- a status of 2 or 3
module _ (p : List ℤ) (b : Bound p) (ρ : Assignment) (statuses : List ℕ) (sorts : Sorts p ρ statuses) where
  true_set : (x : ℤ) → ρ x ≡ true → assigned ρ x ≡ true
  unfolding assigned
  true_set x h = rw h

  by_status_lem : (x : ℤ) → Named (length p) x → Sorted p ρ (status_in statuses) x → leb 2 (status_in statuses x) ≡ not (assigned ρ x)
  unfolding unassigned_existential unassigned_universal
  by_status_lem x n (as_false s t e u) = rw s (sym (set_by (quantified (length p) p b.binds.named b.binds.once refl x n)))
    where
      so : (a : Bool) → a ≡ true → (a && not (assigned ρ x)) ≡ false → not (assigned ρ x) ≡ false
      so a q h = rw q at h

      set_by : (existential p x ≡ true) ⊎ (universal p x ≡ true) → not (assigned ρ x) ≡ false
      set_by (inl q) = so (existential p x) q e
      set_by (inr q) = so (universal p x) q u
  by_status_lem x n (as_true s t) = rw (s, true_set x t)
  by_status_lem x n (as_existential s t e u) = rw (s, and_r (existential p x) (not (assigned ρ x)) e)
  by_status_lem x n (as_universal s t e u) = rw (s, and_r (universal p x) (not (assigned ρ x)) u)

  -- of a variable of the prefix, by its positive literal
  pub free_means : (q : ℤ) → Named (length p) q → free_at statuses (nat_abs q) ≡ not (assigned ρ q)
  free_means q n =
      let v = nat_abs q in
      let m : Named (length p) (pos v) = record { some = n.some; most = n.most } in
      let place : max_variables + v ≡ place_of (pos v) = rw (place_plus v, variables_are) in
      ap (λ (i : ℕ). leb 2 (get_or statuses i 0)) place ∙ by_status_lem (pos v) m (sorts (pos v) m) ∙ ap not (assigned_var ρ (pos v) q refl)

-- ---- checked input, with its tables
module _
    (b lits : List ℤ) (ks : List ℕ) (n : ℕ) (on : OnBlock limits b (trail lits ks) n) (stops index statuses ts os : List ℕ) (bounds : Bounds)
    (indexed : Index (literals_of b) (clauses_of b) stops index) (set : SetOn b lits n statuses ts os bounds)
  where
    p : List ℤ
    p = prefix_of b

    ρ : Assignment
    ρ = among (take n lits)

    m : List (List ℤ)
    m = clauses_of b

    bound : Bound (prefix_of b)
    bound = accepted_bound b on.block

    named : (q : ℤ) → In q (prefix_of b) → Named (length (prefix_of b)) q
    named q i = in_named (length (prefix_of b)) (prefix_of b) bound.binds.named i

    small : (q : ℤ) → In q (prefix_of b) → nat_abs q ≤ limits.variables
    small q i = omega (arith, (named q i).most, bound.room)

    -- the part of a literal's place
    part_at_lem : (l : ℤ) → nat_abs l ≤ limits.variables → part_at stops index (place_of l) ≡ listed 0 (clauses_of b) (place_of l)
    part_at_lem l h = part_is (literals_of b) (clauses_of b) stops index indexed (place_of l) (omega (arith, place_within l h, variables_are))

    live_at_lem : (l : ℤ) (at : ℕ) → at ≡ place_of l → nat_abs l ≤ limits.variables → live_at stops index ts at ≡ occurs (untrue_of (among (take n lits)) (clauses_of b)) l
    unfolding live_at
    live_at_lem l at e h = rw (e, part_at_lem l h) (live_means (prefix_of b) (clauses_of b) (among (take n lits)) ts os bounds set.counted (once b on.block) l h)

    within_at : (l : ℤ) (at : ℕ) → at ≡ place_of l → nat_abs l ≤ limits.variables → Within (part_at stops index at) ts
    within_at l at e h = rw (e, part_at_lem l h) (live_within (prefix_of b) (clauses_of b) (among (take n lits)) ts os bounds set.counted (once b on.block) l h)

    plus_place : (v : ℕ) → max_variables + v ≡ place_of (pos v)
    plus_place v = rw (place_plus v, variables_are)

    minus_place : (v : ℕ) → max_variables - v ≡ place_of (neg_ℤ (pos v))
    minus_place v = rw (place_minus v, variables_are)

    pub walkable : Walkable (prefix_of b) stops index ts
    walkable = record {
      few = bound.room;
      each = λ q i. record {
        small = small q i;
        parts = parts (literals_of b) (clauses_of b) stops index indexed;
        plus = within_at (pos (nat_abs q)) (max_variables + nat_abs q) (plus_place (nat_abs q)) (small q i);
        minus = within_at (neg_ℤ (pos (nat_abs q))) (max_variables - nat_abs q) (minus_place (nat_abs q)) (rw (nat_abs_neg (pos (nat_abs q))) (small q i));
      };
    }

    -- each prefix word: what it takes by Monotone, and the first unassigned one
    taken_means : (q : ℤ) → In q (prefix_of b) → let U = untrue_of (among (take n lits)) (clauses_of b) in
        monotone_at stops index statuses ts q ≡ cond (monotone (prefix_of b) U (among (take n lits)) q) (Some (literal q)) (cond (monotone (prefix_of b) U (among (take n lits)) (neg_ℤ q)) (Some (literal (neg_ℤ q))) None)
    unfolding monotone_at taken_at one_sign
    taken_means q i =
        let U = untrue_of (among (take n lits)) (clauses_of b) in
        let v = nat_abs q in
        rw (
          free_means (prefix_of b) bound (among (take n lits)) statuses set.sorts q (named q i),
          live_at_lem (pos v) (max_variables + v) (plus_place v) (small q i),
          live_at_lem (neg_ℤ (pos v)) (max_variables - v) (minus_place v) (rw (nat_abs_neg (pos v)) (small q i)),
          monotone_own (prefix_of b) bound U (among (take n lits)) q i,
          monotone_opposite (prefix_of b) bound U (among (take n lits)) q i,
          negneg (pos v),
        )
        (go (assigned (among (take n lits)) q) (occurs U (pos v)) (occurs U (neg_ℤ (pos v))))
      where
        go : (a x y : Bool) → cond (not a) (taken_by x y q) None ≡ cond (not a && (x && not y)) (Some (literal q)) (cond (not a && (y && not x)) (Some (literal (neg_ℤ q))) None)
        go true x y = refl
        go false true true = refl
        go false true false = refl
        go false false true = refl
        go false false false = refl

    first_means : (q : ℤ) → In q (prefix_of b) → first_at statuses q ≡ cond (assigned (among (take n lits)) q) None (Some (literal (pos (nat_abs q))))
    unfolding first_at
    first_means q i = rw (free_means (prefix_of b) bound (among (take n lits)) statuses set.sorts q (named q i)) (go (assigned (among (take n lits)) q) (Some (literal (pos (nat_abs q)))))
      where
        go : (a : Bool) (x : Option Literal) → cond (not a) x None ≡ cond a None x
        go true x = refl
        go false x = refl

    pub rule_means : free_rule (prefix_of b) ks n stops index statuses ts ≡ due_monotone (formula_of b) (record_of (trail lits ks) n)
    unfolding free_rule first_monotone first_unassigned formula_of
    rule_means =
        rw (
          first_same (monotone_at stops index statuses ts) _ (prefix_of b) taken_means,
          first_same (first_at statuses) _ (prefix_of b) first_means,
          last_kind_lem (trail lits ks) 2 n (kept_room on.kept),
          kept_true (prefix_of b) (trail lits ks) n on.kept,
        )

-- ---- what a prefix word takes, by its status and by the looks at its two literals
module _ (statuses : List ℕ) (q : ℤ) where
  first_held : free_at statuses (nat_abs q) ≡ false → first_at statuses q ≡ None
  unfolding first_at
  first_held h = rw h refl

  first_free : free_at statuses (nat_abs q) ≡ true → first_at statuses q ≡ Some (literal (pos (nat_abs q)))
  unfolding first_at
  first_free h = rw h refl

module _ (stops index statuses ts : List ℕ) (q : ℤ) where
  pub monotone_held : free_at statuses (nat_abs q) ≡ false → monotone_at stops index statuses ts q ≡ None
  unfolding monotone_at
  monotone_held h = rw h refl

  pub monotone_free : free_at statuses (nat_abs q) ≡ true → {v : ℕ} → v ≡ nat_abs q → {L M : List ℕ} → L ≡ part_at stops index (max_variables + v) → M ≡ part_at stops index (max_variables - v)
      → (x y : Bool) → x ≡ some_zero ts L → y ≡ some_zero ts M → taken_by x y q ≡ monotone_at stops index statuses ts q
  unfolding monotone_at taken_at live_at
  monotone_free h is l m x y a b = rw (h, ← is, ← l, ← m, ← a, ← b)

-- ---- the prefix gone through up to the first unassigned variable, and from it on: what is assigned takes nothing
module _ (p : List ℤ) (stops index statuses ts ks : List ℕ) (n : ℕ) where
  abbrev held_to : ℕ → Type 0
  held_to i = (j : ℕ) → j < i → free_at statuses (nat_abs (get_or p j (pos 0))) ≡ false

  pub rule_assigned : held_to (length p) → {o : Option ℕ} → o ≡ last_kind ks 2 n → on_found o (λ i. BacktrackForall i) Succeed ≡ free_rule p ks n stops index statuses ts
  unfolding free_rule
  rule_assigned h is =
      rw (← first_past (monotone_at stops index statuses ts) p (λ j l. monotone_held _ _ _ _ _ (h j l)), ← first_past (first_at statuses) p (λ j l. first_held _ _ (h j l)), is)

  module _ (i : ℕ) (held : held_to i) where
    later : first_of (monotone_at stops index statuses ts) (drop i p) ≡ first_of (monotone_at stops index statuses ts) p
    later = first_later (monotone_at stops index statuses ts) p i (λ j l. monotone_held _ _ _ _ _ (held j l))

    pub rule_monotone : (x : Literal) → Some x ≡ first_of (monotone_at stops index statuses ts) (drop i p) → Monotone x ≡ free_rule p ks n stops index statuses ts
    unfolding free_rule
    rule_monotone x e = rw (← (e ∙ later))

    pub rule_decides : i < length p → free_at statuses (nat_abs (get_or p i (pos 0))) ≡ true → None ≡ first_of (monotone_at stops index statuses ts) (drop i p)
        → {x : Literal} → x ≡ literal (pos (nat_abs (get_or p i (pos 0)))) → Decide x ≡ free_rule p ks n stops index statuses ts
    unfolding free_rule
    rule_decides l free none is =
        rw (← (none ∙ later), ← first_here (first_at statuses) p i l (λ j k. first_held _ _ (held j k)) (first_free statuses _ free), is)

-- every word from the i-th on may be looked at too
pub walkable_later : (p : List ℤ) (stops index ts : List ℕ) → Walkable p stops index ts → (i : ℕ) → Walkable (drop i p) stops index ts
walkable_later p stops index ts w i = record { few = omega (arith, length-drop i p, w.few); each = λ q k. w.each q (in_drop i p k) }
