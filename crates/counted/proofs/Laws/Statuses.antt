-- The table of statuses with one literal more, and back: it changes at the literal's place and at its opposite's, which are no others'.
use Rattle.std.specs.Prelude.{ℕ, ◌-◌, ◌*◌, ◌≤◌, ◌<◌, ◌≡◌, refl, ◌⊎◌, true, cond, not, List, eqb, ℤ, neg_ℤ, nat_abs, length, set}
use Rattle.std.proofs.Common.{sym, ◌∙◌, ap, inl, inr, arith, length-set, get_or-set_same, get_or-set_other}
use Rattle.std.proofs.Math.Bool.{false, and-true, and-false}
use Rattle.words.specs.Words.{eq_z}
use Rattle.words.specs.Laws.Bools.{clash, look, or_fr, eqb_eq, eqb_i}
use Rattle.words.specs.Laws.Words.{eq_z_ne, nat_abs_neg, own_opposite, var_cases}
use Rattle.formula.specs.Limits.{limits, max_variables}
use Rattle.formula.specs.Formula.{existential, universal}
use Rattle.formula.specs.Inner.Named.{Named}
use Rattle.formula.specs.Inner.Places.{literal_places, place_of}
use Rattle.formula.specs.Laws.Limits.{variables_are}
use Rattle.formula.specs.Laws.Places.{place_within, place_opposite}
use Rattle.formula.specs.Laws.Prefix.{existential_neg, universal_neg}
use Rattle.theory.specs.Record.{Assignment, assigned}
use Rattle.theory.specs.Tests.{unassigned_existential, unassigned_universal}
use Rattle.theory.proofs.Laws.Assignment.{assigned_neg, put_new, assigned_own}
use Rattle.theory.specs.Grown.{put}
use Rattle.tables.specs.Inner.ByLiteral.{status_in}
use Rattle.rules.specs.Inner.Tabled.{Sorted, as_false, Sorts, as_true, as_existential, as_universal}
use Rattle.counted.proofs.Laws.Held.{place_same}
use Rattle.counted.proofs.Laws.Keys.{false_own, other_open, other_open_universal, true_other}

module _ (p : List ℤ) where
  moved : (ρ σ : Assignment) (st st' : ℤ → ℕ) (x : ℤ) → st' x ≡ st x → σ x ≡ ρ x → unassigned_existential p σ x ≡ unassigned_existential p ρ x → unassigned_universal p σ x ≡ unassigned_universal p ρ x → Sorted p ρ st x → Sorted p σ st' x
  moved ρ σ st st' x a b c d (as_false s t e u) = as_false (a ∙ s) (b ∙ t) (c ∙ e) (d ∙ u)
  moved ρ σ st st' x a b c d (as_true s t) = as_true (a ∙ s) (b ∙ t)
  moved ρ σ st st' x a b c d (as_existential s t e u) = as_existential (a ∙ s) (b ∙ t) (c ∙ e) (d ∙ u)
  moved ρ σ st st' x a b c d (as_universal s t e u) = as_universal (a ∙ s) (b ∙ t) (c ∙ e) (d ∙ u)

  assigned_none : (ρ : Assignment) (x : ℤ) → assigned ρ x ≡ true → (unassigned_existential p ρ x ≡ false) × (unassigned_universal p ρ x ≡ false)
  unfolding unassigned_existential unassigned_universal
  assigned_none ρ x h = rw h (and-false (existential p x), and-false (universal p x))

  pub unassigned_by : (ρ : Assignment) (x : ℤ) → assigned ρ x ≡ false → (unassigned_existential p ρ x ≡ existential p x) × (unassigned_universal p ρ x ≡ universal p x)
  unfolding unassigned_existential unassigned_universal
  unassigned_by ρ x h = rw h (and-true (existential p x), and-true (universal p x))

-- l is a literal of the prefix's variables
module _ (p : List ℤ) (room : length p ≤ limits.variables) (l : ℤ) (named : Named (length p) l) where
  pub small : nat_abs l ≤ limits.variables
  small = omega (arith, named.most)

  small_opposite : nat_abs (neg_ℤ l) ≤ limits.variables
  small_opposite = rw (nat_abs_neg l) small

  opposite_place : place_of (neg_ℤ l) ≡ place_of l → ⊥
  opposite_place e = omega (arith, own_opposite l (sym (place_same (neg_ℤ l) l small_opposite small e)), named.some)

  own_within : place_of l < literal_places
  own_within = omega (arith, variables_are, place_within l small)

  opposite_within : place_of (neg_ℤ l) < literal_places
  opposite_within = omega (arith, variables_are, place_within (neg_ℤ l) small_opposite)

  -- its place and its opposite's, as code has them
  module _ (own other : ℕ) (at-l : own ≡ place_of l) (at_n : other ≡ 2 * max_variables - own) where
    pub opposite_is : other ≡ place_of (neg_ℤ l)
    opposite_is = omega (arith, variables_are, place_opposite l small)

    pub own_in : own < literal_places
    own_in = rw at-l own_within

    pub other_in : other < literal_places
    other_in = rw opposite_is opposite_within

  -- two stores, at its place and at its opposite's
  module _ (statuses : List ℕ) (long : length statuses ≡ literal_places) (s t : ℕ) where
    abbrev stored : List ℕ
    stored = set (set statuses (place_of l) s) (place_of (neg_ℤ l)) t

    at_own : status_in stored l ≡ s
    at_own = get_or-set_other (set statuses (place_of l) s) (place_of (neg_ℤ l)) (place_of l) t 0 (λ e. opposite_place (sym e)) ∙ get_or-set_same statuses (place_of l) s 0 (rw long own_within)

    at_opposite : status_in stored (neg_ℤ l) ≡ t
    at_opposite = get_or-set_same (set statuses (place_of l) s) (place_of (neg_ℤ l)) t 0 (rw (length-set statuses (place_of l) s, long) opposite_within)

    at_other : (x : ℤ) → Named (length p) x → eqb (nat_abs l) (nat_abs x) ≡ false → status_in stored x ≡ status_in statuses x
    at_other x n d =
        let k : nat_abs x ≤ limits.variables = omega (arith, n.most) in
        get_or-set_other (set statuses (place_of l) s) (place_of (neg_ℤ l)) (place_of x) t 0 (λ e. clash (eqb_i (sym (nat_abs_neg l) ∙ ap nat_abs (sym (place_same x (neg_ℤ l) k small_opposite e)))) d)
        ∙ get_or-set_other statuses (place_of l) (place_of x) s 0 (λ e. clash (eqb_i (ap nat_abs (sym (place_same x l k small e)))) d)

-- and of an unassigned one
module _ (p : List ℤ) (room : length p ≤ limits.variables) (ρ : Assignment) (l : ℤ) (named : Named (length p) l) (free : assigned ρ l ≡ false) where
  false_opposite : ρ (neg_ℤ l) ≡ false
  unfolding assigned
  false_opposite = or_fr (ρ l) (ρ (neg_ℤ l)) free

  put_opposite : put l ρ (neg_ℤ l) ≡ false
  unfolding put
  put_opposite = let z : eq_z (neg_ℤ l) l ≡ false = eq_z_ne (λ e. omega (arith, own_opposite l (sym e), named.some)) in rw (z, false_opposite)

  pub set_sorts : (statuses : List ℕ) → length statuses ≡ literal_places → Sorts p ρ statuses → Sorts p (put l ρ) (set (set statuses (place_of l) 1) (place_of (neg_ℤ l)) 0)
  set_sorts statuses long sorts x n = by (look (eqb (nat_abs l) (nat_abs x)))
    where
      after : List ℕ
      after = set (set statuses (place_of l) 1) (place_of (neg_ℤ l)) 0

      own : (x ≡ l) ⊎ (x ≡ neg_ℤ l) → Sorted p (put l ρ) (status_in after) x
      own (inl z) = rw z (as_true (at_own p room l named statuses long 1 0) (put_new l ρ))
      own (inr z) =
          let u = assigned_none p (put l ρ) (neg_ℤ l) (assigned_neg (put l ρ) l ∙ assigned_own l ρ) in
          rw z (as_false (at_opposite p room l named statuses long 1 0) put_opposite u.0 u.1)

      by : (eqb (nat_abs l) (nat_abs x) ≡ true) ⊎ (eqb (nat_abs l) (nat_abs x) ≡ false) → Sorted p (put l ρ) (status_in after) x
      by (inl e) = own (var_cases x l (sym (eqb_eq (nat_abs l) (nat_abs x) e)))
      by (inr d) = moved p ρ (put l ρ) (status_in statuses) (status_in after) x (at_other p room l named statuses long 1 0 x n d) (true_other p ρ l named.some free x d) (other_open p ρ l named.some free x d) (other_open_universal p ρ l named.some free x d) (sorts x n)

  -- and back
  pub unset_sorts : (statuses : List ℕ) (s : ℕ) → length statuses ≡ literal_places → universal p l ≡ not (existential p l) → s ≡ cond (existential p l) 2 3
      → Sorts p (put l ρ) statuses → Sorts p ρ (set (set statuses (place_of l) s) (place_of (neg_ℤ l)) s)
  unset_sorts statuses s long one is sorts x n = by (look (eqb (nat_abs l) (nat_abs x)))
    where
      after : List ℕ
      after = set (set statuses (place_of l) s) (place_of (neg_ℤ l)) s

      free_at_lem : (y : ℤ) → assigned ρ y ≡ false → existential p y ≡ existential p l → universal p y ≡ universal p l → ρ y ≡ false → status_in after y ≡ s → Sorted p ρ (status_in after) y
      free_at_lem y f ex un r st = case (look (existential p l))
        where
          case : (existential p l ≡ true) ⊎ (existential p l ≡ false) → Sorted p ρ (status_in after) y
          case (inl t) =
              let u = unassigned_by p ρ y f in
              as_existential (st ∙ is ∙ (rw t)) r (u.0 ∙ ex ∙ t) (u.1 ∙ un ∙ one ∙ (rw t))
          case (inr t) =
              let u = unassigned_by p ρ y f in
              as_universal (st ∙ is ∙ (rw t)) r (u.0 ∙ ex ∙ t) (u.1 ∙ un ∙ one ∙ (rw t))

      own : (x ≡ l) ⊎ (x ≡ neg_ℤ l) → Sorted p ρ (status_in after) x
      own (inl z) = rw z (free_at_lem l free refl refl (false_own p ρ l named.some free) (at_own p room l named statuses long s s))
      own (inr z) = rw z (free_at_lem (neg_ℤ l) (assigned_neg ρ l ∙ free) (existential_neg p l) (universal_neg p l) false_opposite (at_opposite p room l named statuses long s s))

      by : (eqb (nat_abs l) (nat_abs x) ≡ true) ⊎ (eqb (nat_abs l) (nat_abs x) ≡ false) → Sorted p ρ (status_in after) x
      by (inl e) = own (var_cases x l (sym (eqb_eq (nat_abs l) (nat_abs x) e)))
      by (inr d) = moved p (put l ρ) ρ (status_in statuses) (status_in after) x (at_other p room l named statuses long s s x n d) (sym (true_other p ρ l named.some free x d)) (sym (other_open p ρ l named.some free x d)) (sym (other_open_universal p ρ l named.some free x d)) (sorts x n)
