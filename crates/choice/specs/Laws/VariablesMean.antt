-- What the searches by the tables mean: a variable is unassigned exactly if its place holds 0, and the lowest level of an unassigned variable is that
-- of the first.
use Rattle.std.specs.Prelude.{ℕ, suc, ◌≡◌, ◌⊎◌, Bool, ◌&&◌, ◌||◌, ℤ, pos, negsuc, neg_ℤ, nat_abs, length, Option, Some, None}
use Rattle.std.proofs.Math.Path.{refl, ap, subst}
use Rattle.std.proofs.Common.{sym, ◌∙◌, inl, inr, le_trans, arith, eq-eqb, ne_eqb, le-leb, leb-true}
use Rattle.std.proofs.Math.Bool.{true, false, cond, not, or_comm}
use mathlib.Core.List.{List}
use Rattle.std.proofs.Math.Decide.{ℕ_discrete, dec_le}
use Rattle.std.proofs.Math.Dec.{eqb, leb}
use Rattle.std.proofs.Math.ListN.{get_or}
use Rattle.std.proofs.lemmas.Bool.{lt-leb}
use Rattle.words.specs.Laws.Bools.{look, bool_eq, and_r, or_l, or_r, or_e}
use Rattle.words.specs.Lists.{In, all, any}
use Rattle.words.specs.Laws.Lists.{all_i, all_e, any_i, in_middle}
use Rattle.words.specs.declared.Literal.{Literal}
use Rattle.formula.specs.Laws.Limits.{variables_are}
use Rattle.formula.specs.Formula.{existential, universal, level_of, level}
use Rattle.formula.specs.Block.{names}
use Rattle.formula.specs.Laws.Prefix.{stands, binds, level_few}
use Rattle.formula.specs.Laws.Permuted.{all_bound, no_other}
use Rattle.theory.specs.Record.{Assignment, assigned}
use Rattle.theory.specs.Tests.{unassigned_existential, unassigned_universal, is_open, all_assigned}
use Rattle.theory.proofs.Laws.First.{first_open_lem}
use Rattle.record.specs.Found.{literal, on_found}
use Rattle.choice.specs.First.{first_of, first_unassigned}
use Rattle.choice.specs.Preferred.{first_open}
use Rattle.record.specs.Inner.Tables.{value_in, Values, places}
use Rattle.tables.specs.Inner.Levels.{Levels}
use Rattle.tables.specs.Laws.Levels.{level_at_lem}
use Rattle.choice.specs.Inner.Lowest.{Lowest}
use Rattle.choice.specs.Inner.Variables.{assigned_in, unassigned_in, lowest_in, open_in, preferred_in}
use Rattle.record.specs.Inner.Ready.{Bound}
use Rattle.record.proofs.Laws.Good.{bare, bare_proper}
use Rattle.choice.specs.Laws.Searches.{first_found, first_same, unassigned_none, unassigned_found}

-- ---- values
module _ (ρ : Assignment) (values : List ℕ) (said : Values ρ values) where
  pub free_in : (q : ℤ) → eqb (get_or values (nat_abs q) 0) 0 ≡ not (assigned ρ q)
  unfolding assigned
  free_in q = rw (said (nat_abs q)) (by q)
    where
      go : (a b : Bool) → eqb (cond a 1 (cond b 2 0)) 0 ≡ not (a || b)
      go true b = refl
      go false true = refl
      go false false = refl

      by : (q : ℤ) → eqb (value_in ρ (nat_abs q)) 0 ≡ not (ρ q || ρ (neg_ℤ q))
      by (pos n) = go (ρ (pos n)) (ρ (neg_ℤ (pos n)))
      by (negsuc n) = go (ρ (pos (suc n))) (ρ (negsuc n)) ∙ ap not (or_comm (ρ (pos (suc n))) (ρ (negsuc n)))

  pub assigned_in_lem : (q : ℤ) → assigned_in values q ≡ assigned ρ q
  assigned_in_lem q = rw (free_in q) (twice (assigned ρ q))
    where
      twice : (b : Bool) → not (not b) ≡ b
      twice true = refl
      twice false = refl

  pub unassigned_means : (p : List ℤ) → first_of (unassigned_in values) p ≡ first_unassigned ρ p
  unfolding first_unassigned unassigned_in
  unassigned_means p = first_same _ _ p (λ q i. rw (assigned_in_lem q))

-- its variable is one of the list's
pub unassigned_in_lem : (values : List ℕ) (p : List ℤ) (l : Literal) → first_of (unassigned_in values) p ≡ Some l → (q : ℤ) × In q p × (nat_abs l.0 ≡ nat_abs q)
unfolding unassigned_in
unassigned_in_lem values p l e =
    let w = first_found _ p l e in
    (w.word, subst (λ (xs : List ℤ). In w.word xs) (sym w.whole) (in_middle w.before w.word w.after), go w.word (assigned_in values w.word) w.is)
  where
    go : (q : ℤ) (b : Bool) → cond b None (Some (literal (pos (nat_abs q)))) ≡ Some l → nat_abs l.0 ≡ nat_abs q
    go q true e = let z : ◌≡◌ {A = ℕ} 0 1 = cc in absurd (omega arith)
    go q false e = let z : literal (pos (nat_abs q)) ≡ l = cc in ap (λ (x : Literal). nat_abs x.0) (sym z)

-- ---- levels and open literals
both_under : (a b c : Bool) → ((a && c) || (b && c)) ≡ ((a || b) && c)
both_under true true true = refl
both_under true true false = refl
both_under true false true = refl
both_under true false false = refl
both_under false b c = refl

module _ (p : List ℤ) (b : Bound p) (ρ : Assignment) (values : List ℕ) (vals : Values ρ values) (levels : List ℕ) (lvls : Levels p levels) where
  -- a variable's place of no matter, if all are assigned
  lowest_none : first_unassigned ρ p ≡ None → Lowest p ρ places
  unfolding all_assigned
  lowest_none e k room =
      rw (le-leb k places (omega (arith, variables_are)))
      (sym (all_i (λ q. assigned ρ q || leb k (level p q)) p (λ q i. or_l (leb k (level p q)) (all_e (assigned ρ) p (unassigned_none ρ p e) i))))

  -- the first unassigned one is open: no other is of a lower level
  lowest_first : (l : Literal) → first_unassigned ρ p ≡ Some l → Lowest p ρ (get_or levels (nat_abs l.0) 0)
  unfolding is_open level
  lowest_first l e k room =
      let (w, v) = unassigned_found ρ p l e in
      let inside = subst (λ (xs : List ℤ). In w.word xs) (sym w.whole) (in_middle w.before w.word w.after) in
      let at : get_or levels (nat_abs l.0) 0 ≡ level_of p (nat_abs w.word) = level_at_lem p levels lvls (nat_abs l.0) (any_i (names (nat_abs l.0)) inside (eq-eqb _ _ v)) ∙ ap (level_of p) v in
      let least = and_r (unassigned_existential p ρ w.word || unassigned_universal p ρ w.word) (all (λ q. assigned ρ q || leb (level p w.word) (level p q)) p) (first_open_lem (bare p) (bare_proper p b.binds) ρ w w.word refl) in
      rw at (bool_eq _ _
      (λ h. all_i (λ q. assigned ρ q || leb k (level p q)) p (λ q i. higher (assigned ρ q) (level p w.word) (level p q) h (or_e (assigned ρ q) (leb (level p w.word) (level p q)) (all_e (λ q. assigned ρ q || leb (level p w.word) (level p q)) p least i))))
      (λ h. lower (assigned ρ w.word) (leb k (level p w.word)) w.unset (all_e (λ q. assigned ρ q || leb k (level p q)) p h inside)))
    where
      lower : (x y : Bool) → x ≡ false → (x || y) ≡ true → y ≡ true
      lower x y e h = rw e at h

      higher : (x : Bool) (m n : ℕ) → leb k m ≡ true → (x ≡ true) ⊎ (leb m n ≡ true) → (x || leb k n) ≡ true
      higher x m n h (inl e) = or_l (leb k n) e
      higher x m n h (inr e) = or_r x (le-leb k n (le_trans (leb-true k m h) (leb-true m n e)))

  pub lowest_means : Lowest p ρ (lowest_in values levels p)
  unfolding lowest_in
  lowest_means = rw (unassigned_means ρ values vals p) (go (first_unassigned ρ p) refl)
    where
      go : (o : Option Literal) → first_unassigned ρ p ≡ o → Lowest p ρ (on_found o (λ l. get_or levels (nat_abs l.0) 0) places)
      go None e = lowest_none e
      go (Some l) e = lowest_first l e

  -- the prefix names the variables 1 to V
  named_is : (v : ℕ) → (not (eqb v 0) && leb v (length p)) ≡ any (names v) p
  named_is v = elim (ℕ_discrete v 0) [
    | yes e ↦ rw e (sym (no_other (length p) p b.binds.named 0 (λ h k. omega arith)))
    | no f ↦ elim (dec_le v (length p)) [
      | yes h ↦ rw (ne_eqb v 0 f, le-leb v (length p) h) (sym (all_bound (length p) p b.binds.named b.binds.once refl v (omega arith) h))
      | no h ↦ rw (ne_eqb v 0 f, lt-leb v (length p) (omega arith)) (sym (no_other (length p) p b.binds.named v (λ i k. h k)))
    ]
  ]

  pub open_means : (low : ℕ) → Lowest p ρ low → (l : ℤ) → open_in (length p) values levels low (nat_abs l) ≡ is_open p ρ l
  unfolding open_in is_open level unassigned_existential unassigned_universal stands
  open_means low lowest l = rw (named_is (nat_abs l), free_in ρ values vals l, both_under (existential p l) (universal p l) (not (assigned ρ l)), binds p l) (go (look (any (names (nat_abs l)) p)))
    where
      go : (any (names (nat_abs l)) p ≡ true) ⊎ (any (names (nat_abs l)) p ≡ false) → (any (names (nat_abs l)) p && (not (assigned ρ l) && leb (get_or levels (nat_abs l) 0) low)) ≡ (any (names (nat_abs l)) p && not (assigned ρ l) && all (λ q. assigned ρ q || leb (level_of p (nat_abs l)) (level_of p (nat_abs q))) p)
      go (inl e) = rw (e, level_at_lem p levels lvls (nat_abs l) e, lowest (level_of p (nat_abs l)) (le_trans (level_few p (nat_abs l)) b.room))
      go (inr e) = rw e

  pub preferred_means : (low : ℕ) → Lowest p ρ low → (ls : List ℤ) → on_found (first_of (preferred_in (length p) values levels low) ls) (λ l. l.0) (pos 0) ≡ first_open p ρ ls
  unfolding first_open preferred_in
  preferred_means low lowest ls = rw (first_same (preferred_in (length p) values levels low) (λ l. cond (is_open p ρ l) (Some (literal l)) None) ls (λ l i. rw (open_means low lowest l)))
