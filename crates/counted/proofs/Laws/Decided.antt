-- What Decide takes by the tables is what the rules say it takes: a preferred literal is open exactly if it is of a variable of the prefix that its
-- status calls unassigned, and of no higher level than the first unassigned one.
use Rattle.clauses.specs.declared.found.UnitClause.{UnitClause}
use Rattle.std.specs.Prelude.{ℕ, ◌≤◌, ◌<◌, ◌⊎◌, Bool, ◌&&◌, List, [], ◌∷◌, eqb, ℤ, pos, length, get_or, take, Option, Some, None}
use Rattle.std.specs.List.{find}
use Rattle.std.specs.Option.{option_map}
use Rattle.std.proofs.Math.Path.{◌≡◌, refl, ap}
use Rattle.std.proofs.Common.{sym, ◌∙◌, inl, inr, eq-eqb, ne_eqb}
use Rattle.std.proofs.Math.Bool.{true, false, cond, not}
use Rattle.std.proofs.Math.Decide.{ℕ_discrete, dec_le}
use native.Mathlib.Omega.{arith}
use Rattle.std.proofs.Math.Dec.{leb}
use Rattle.std.proofs.Math.IntN.{nat_abs}
use Rattle.std.proofs.lemmas.Bool.{lt-leb}
use Rattle.words.specs.Laws.Bools.{look, clash}
use Rattle.words.specs.declared.Literal.{Literal}
use Rattle.formula.specs.Limits.{limits}
use Rattle.formula.specs.Formula.{Formula, prefix_of, formula_of, existential, universal}
use Rattle.formula.specs.Inner.Named.{Named}
use Rattle.formula.specs.Laws.Permuted.{stands_named, quantifier}
use Rattle.theory.specs.Record.{Record, Assignment, among, true_in}
use Rattle.theory.specs.Tests.{is_open, in_conflict}
use Rattle.theory.proofs.Laws.Tested.{open_e}
use Rattle.record.specs.Found.{literal, on_found, last}
use Rattle.choice.specs.First.{first_of, first_unassigned}
use Rattle.clauses.specs.Lowest.{lowest}
use Rattle.rules.specs.Due.{lowest_unit, first_monotone, due_assigned, due_decide, due_monotone, due_unit, due_conflict, due}
use Rattle.record.specs.Trail.{Trail, record_of}
use Rattle.record.specs.Search.{Search}
use Rattle.applied.specs.Apply.{append, kind_of, chosen, apply}
use Rattle.choice.specs.Preferred.{first_open, proposal_of}
use Rattle.record.specs.Inner.Ready.{Bound}
use Rattle.record.specs.Inner.Tables.{Values}
use Rattle.rules.specs.Inner.Tabled.{Sorts}
use Rattle.choice.specs.Inner.Variables.{lowest_in, open_in, preferred_in}
use Rattle.record.proofs.Laws.Accepted.{accepted_bound, kept_true, kept_written, prefix_few}
use Rattle.choice.specs.Laws.Searches.{first_same, first_found, first_open_lem}
use Rattle.choice.specs.Laws.VariablesMean.{free_in, unassigned_means, lowest_means, preferred_means}
use Rattle.rules.proofs.Laws.WhyDue.{Reason, backtrack_exists, fail, unit, monotone, decide, backtrack_forall, succeed, reason}
use Rattle.record.specs.declared.rule.Rule.{Rule}
use Rattle.record.specs.declared.rule.Rule.TheVariants.{BacktrackExists, Fail, Unit, Monotone, Decide, BacktrackForall, Succeed}
use Rattle.search.proofs.Laws.Named.{fitting}
use Rattle.counted.specs.Inner.Free.{free_at}
use Rattle.counted.specs.Inner.Decided.{open_at, picked_at, preferred_at, Enacting}
use Rattle.counted.proofs.Laws.Checked.{some_values}
use Rattle.counted.proofs.Laws.Free.{free_means}

-- ---- the first open preference, as `find` finds it
module _ (n : ℕ) (statuses levels : List ℕ) (low : ℕ) where
  found_first : (list : List ℤ) → option_map literal (find (λ l. open_at n statuses levels low (nat_abs l)) list) ≡ first_of (picked_at n statuses levels low) list
  unfolding picked_at first_of
  found_first [] = refl
  found_first (l ∷ list) = elim (look (open_at n statuses levels low (nat_abs l))) [ inl t ↦ rw t | inr t ↦ rw t (found_first list) ]

  pub preferred_found : (list : List ℤ) (first : Literal) (o : Option ℤ) → o ≡ find (λ l. open_at n statuses levels low (nat_abs l)) list → on_found o literal first ≡ preferred_at n statuses levels low list first
  unfolding preferred_at
  preferred_found list first o e = rw (← found_first list, ← e) (go o)
    where
      go : (o : Option ℤ) → on_found o literal first ≡ on_found (option_map literal o) (λ l. l) first
      go (Some x) = refl
      go None = refl

-- ---- where Decide is due, its literal is the first unassigned variable
module _ (F : Formula) (r : Record) (x : Literal) where
  by_last : (o : Option ℕ) → on_found o (λ i. BacktrackForall i) Succeed ≡ Decide x → ⊥
  by_last (Some i) e = let z : ◌≡◌ {A = ℕ} 0 1 = cc in omega arith
  by_last None e = let z : ◌≡◌ {A = ℕ} 0 1 = cc in omega arith

  by_decide : (o : Option Literal) → on_found o (λ l. Decide l) (due_assigned r) ≡ Decide x → o ≡ Some x
  by_decide (Some l) e = let z : l ≡ x = cc in ap Some z
  by_decide None e = absurd (by_last (last 2 0 r) e)

  by_monotone : (o : Option Literal) → on_found o (λ l. Monotone l) (due_decide F.prefix r) ≡ Decide x → first_unassigned (true_in r) F.prefix ≡ Some x
  by_monotone (Some l) e = let z : ◌≡◌ {A = ℕ} 0 1 = cc in absurd (omega arith)
  by_monotone None e = by_decide (first_unassigned (true_in r) F.prefix) e

  by_unit : (o : Option UnitClause) → on_found o (λ u. Unit u.literal u.clause) (due_monotone F r) ≡ Decide x → first_unassigned (true_in r) F.prefix ≡ Some x
  by_unit (Some u) e = let z : ◌≡◌ {A = ℕ} 0 1 = cc in absurd (omega arith)
  by_unit None e = by_monotone (first_monotone _ _ _) e

  by_conflict : (c : ℕ) (o : Option ℕ) → on_found o (λ i. BacktrackExists i c) (Fail c) ≡ Decide x → ⊥
  by_conflict c (Some i) e = let z : ◌≡◌ {A = ℕ} 0 1 = cc in omega arith
  by_conflict c None e = let z : ◌≡◌ {A = ℕ} 0 1 = cc in omega arith

  pub decide_first : due F r ≡ Decide x → first_unassigned (true_in r) F.prefix ≡ Some x
  unfolding due
  decide_first = go (lowest (in_conflict F.prefix (true_in r)) 0 F.clauses)
    where
      go : (o : Option ℕ) → on_found o (due_conflict r) (due_unit F r) ≡ Decide x → first_unassigned (true_in r) F.prefix ≡ Some x
      go (Some c) e = absurd (by_conflict c (last 1 0 r) e)
      go None e = by_unit (lowest_unit F.prefix (true_in r) F.clauses) e

decide_open : (F : Formula) (r : Record) (x : Literal) {rule : Rule} → Reason F r rule → rule ≡ Decide x → is_open F.prefix (true_in r) x.0 ≡ true
decide_open F r x (backtrack_exists i c h e) d = let z : ◌≡◌ {A = ℕ} 0 1 = cc in absurd (omega arith)
decide_open F r x (fail c h e) d = let z : ◌≡◌ {A = ℕ} 0 1 = cc in absurd (omega arith)
decide_open F r x (unit l c q u) d = let z : ◌≡◌ {A = ℕ} 0 1 = cc in absurd (omega arith)
decide_open F r x (monotone l q h) d = let z : ◌≡◌ {A = ℕ} 0 1 = cc in absurd (omega arith)
decide_open F r x (decide l q h) d = let z : l ≡ x = cc in rw (← z) h
decide_open F r x (backtrack_forall i q f e) d = let z : ◌≡◌ {A = ℕ} 0 1 = cc in absurd (omega arith)
decide_open F r x (succeed q f e) d = let z : ◌≡◌ {A = ℕ} 0 1 = cc in absurd (omega arith)

-- ---- by the tables
module _
    (b : List ℤ) (t : Trail) (n : ℕ) (rule : Rule) (levels quantifiers statuses : List ℕ) (x : Enacting b t n rule levels quantifiers statuses)
    (l : Literal) (d : rule ≡ Decide l) (list : List ℤ)
  where
    abbrev p : List ℤ
    p = prefix_of b

    abbrev ρ : Assignment
    ρ = among (take n t.lits)

    bound : Bound (prefix_of b)
    bound = accepted_bound b x.on.block

    pub first_is : first_unassigned (among (take n t.lits)) (prefix_of b) ≡ Some l
    unfolding formula_of
    first_is = rw (kept_true (prefix_of b) t n x.on.kept) at (decide_first (formula_of b) (record_of t n) l (sym x.is ∙ d))

    abbrev values : List ℕ
    values = (some_values t.lits n (kept_written (prefix_of b) t n x.on.kept (prefix_few limits b x.on.block))).0

    said : Values (among (take n t.lits)) values
    said = (some_values t.lits n (kept_written (prefix_of b) t n x.on.kept (prefix_few limits b x.on.block))).1

    sorted : Sorts (prefix_of b) (among (take n t.lits)) statuses
    sorted = x.sorted (rw d)

    abbrev low : ℕ
    low = get_or levels (nat_abs l.0) 0

    low_is : lowest_in values levels (prefix_of b) ≡ low
    unfolding lowest_in
    low_is = rw (unassigned_means (among (take n t.lits)) values said (prefix_of b), first_is)

    -- each preferred literal: a variable of the prefix is unassigned by its status exactly if it is by its value
    open_same : (v : ℕ) → open_at (length (prefix_of b)) statuses levels low v ≡ open_in (length (prefix_of b)) values levels low v
    unfolding open_at open_in
    open_same v = elim (ℕ_discrete v 0) [
      | yes e ↦ rw (eq-eqb v 0 e)
      | no f ↦ elim (dec_le v (length (prefix_of b))) [
        | yes h ↦
            let k : Named (length (prefix_of b)) (pos v) = record { some = omega arith; most = h } in
            rw (free_means (prefix_of b) bound (among (take n t.lits)) statuses sorted (pos v) k, free_in (among (take n t.lits)) values said (pos v))
        | no h ↦ rw (lt-leb v (length (prefix_of b)) (omega arith), none (not (eqb v 0)) (free_at statuses v && leb (get_or levels v 0) low) (eqb (get_or values v 0) 0 && leb (get_or levels v 0) low))
      ]
    ]
      where
        none : (a c d : Bool) → (a && false && c) ≡ (a && false && d)
        none true c d = refl
        none false c d = refl

    first_same_open : first_of (picked_at (length (prefix_of b)) statuses levels low) list ≡ first_of (preferred_in (length (prefix_of b)) values levels low) list
    unfolding picked_at preferred_in
    first_same_open = first_same _ _ list (λ y i. rw (open_same (nat_abs y)))

    opened : on_found (first_of (picked_at (length (prefix_of b)) statuses levels low) list) (λ y. y.0) (pos 0) ≡ first_open (prefix_of b) (among (take n t.lits)) list
    opened =
        let m = lowest_means (prefix_of b) bound (among (take n t.lits)) values said levels x.told in
        rw first_same_open (preferred_means (prefix_of b) bound (among (take n t.lits)) values said levels x.told low (rw low_is at m) list)

    -- one that is picked is a variable's
    picked_some : (y : Literal) → first_of (picked_at (length (prefix_of b)) statuses levels low) list ≡ Some y → nat_abs y.0 ≡ 0 → ⊥
    unfolding picked_at open_at
    picked_some y e z =
        let w = first_found (picked_at (length (prefix_of b)) statuses levels low) list y e in
        go w.word (open_at (length (prefix_of b)) statuses levels low (nat_abs w.word)) refl w.is
      where
        go : (q : ℤ) (c : Bool) → open_at (length (prefix_of b)) statuses levels low (nat_abs q) ≡ c → cond c (Some (literal q)) None ≡ Some y → ⊥
        go q true h k =
            let s : literal q ≡ y = cc in
            let s0 : nat_abs q ≡ 0 = ap (λ (u : Literal). nat_abs u.0) s ∙ z in
            clash h (rw (eq-eqb (nat_abs q) 0 s0))
        go q false h k = let j : ◌≡◌ {A = ℕ} 0 1 = cc in omega arith

    -- so Decide takes it
    pub decided_is : {y : Literal} → y ≡ preferred_at (length (prefix_of b)) statuses levels low list l → y.0 ≡ chosen (first_open (prefix_of b) (among (take n t.lits)) list) l.0
    unfolding preferred_at
    decided_is {y} e = rw (e, ← opened) (go (first_of (picked_at (length (prefix_of b)) statuses levels low) list) refl)
      where
        go : (o : Option Literal) → first_of (picked_at (length (prefix_of b)) statuses levels low) list ≡ o → (on_found o (λ y. y) l).0 ≡ chosen (on_found o (λ y. y.0) (pos 0)) l.0
        go (Some y) q = rw (ne_eqb (nat_abs y.0) 0 (picked_some y q))
        go None q = refl

    -- and it is open, so that it names a variable of the prefix
    first_open_is : is_open (prefix_of b) (among (take n t.lits)) l.0 ≡ true
    unfolding formula_of
    first_open_is = rw (kept_true (prefix_of b) t n x.on.kept) at (decide_open (formula_of b) (record_of t n) l (reason (formula_of b) x.on.kept.prefix (record_of t n)) (sym x.is ∙ d))

    module _ {y : Literal} (e : y ≡ preferred_at (length (prefix_of b)) statuses levels low list l) where
      decided_open : is_open (prefix_of b) (among (take n t.lits)) y.0 ≡ true
      decided_open = rw (decided_is e) (go (first_open_lem (prefix_of b) (among (take n t.lits)) list))
        where
          go : (nat_abs (first_open (prefix_of b) (among (take n t.lits)) list) ≡ 0) ⊎ (is_open (prefix_of b) (among (take n t.lits)) (first_open (prefix_of b) (among (take n t.lits)) list) ≡ true)
              → is_open (prefix_of b) (among (take n t.lits)) (chosen (first_open (prefix_of b) (among (take n t.lits)) list) l.0) ≡ true
          go (inl z) = rw (eq-eqb (nat_abs (first_open (prefix_of b) (among (take n t.lits)) list)) 0 z) first_open_is
          go (inr h) = elim (look (eqb (nat_abs (first_open (prefix_of b) (among (take n t.lits)) list)) 0)) [ inl z ↦ rw z first_open_is | inr z ↦ rw z h ]

      pub decided_named : Named (length (prefix_of b)) y.0
      decided_named = stands_named (length (prefix_of b)) (prefix_of b) bound.binds.named y.0 (open_e (prefix_of b) (among (take n t.lits)) y.0 decided_open).bound

      pub kind_is : get_or quantifiers (nat_abs y.0) 0 ≡ kind_of (prefix_of b) y.0
      unfolding universal existential
      kind_is = x.quantified (nat_abs y.0) ∙ go (existential (prefix_of b) y.0) (universal (prefix_of b) y.0) (quantifier (length (prefix_of b)) (prefix_of b) bound.binds.named bound.binds.once refl y.0 decided_named)
        where
          go : (a c : Bool) → c ≡ not a → ◌≡◌ {A = ℕ} (cond a 1 (cond c 2 0)) (cond c 2 1)
          go true c f = rw f
          go false c f = rw f

      -- the rule applied
      pub decide_enacts : (k : ℕ) → k ≡ get_or quantifiers (nat_abs y.0) 0 → (s : Search) {u : Search} → u ≡ append k y.0 s
          → u ≡ apply (prefix_of b) rule (proposal_of (prefix_of b) (among (take n t.lits)) list rule) s
      unfolding apply
      decide_enacts k is s a = a ∙ rw (d, is, kind_is, decided_is e)

    pub first_small : nat_abs l.0 ≤ limits.variables
    first_small =
        let k = stands_named (length (prefix_of b)) (prefix_of b) bound.binds.named l.0 (open_e (prefix_of b) (among (take n t.lits)) l.0 first_open_is).bound in
        omega (arith, k.most, bound.room)

    pub decide_room : n < length (prefix_of b)
    decide_room = let z : due (formula_of b) (record_of t n) ≡ Decide l = sym x.is ∙ d in rw z at (fitting x.on)
