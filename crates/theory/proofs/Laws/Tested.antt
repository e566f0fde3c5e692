-- What the tests say, taken apart, and what one more literal leaves of it. Each from its definition in Tests.
use Rattle.std.specs.Prelude.{◌≡◌, ◌⊎◌, Bool, true, false, not, ◌&&◌, ◌||◌, List, leb, ℤ, neg_ℤ}
use Rattle.std.proofs.Common.{◌∙◌, inl, inr, leb→le, ltb→lt, le→leb}
use Rattle.words.specs.Laws.Bools.{clash, look, T→eq, eq→T, and_l, and_r, and_i, or_e, or_l, or_r, not_t, to_false}
use Rattle.words.specs.Lists.{In, all, any}
use Rattle.words.specs.Laws.Lists.{all_e, all_i, any_i, any_f, any_more}
use Rattle.words.specs.Words.{mem}
use Rattle.words.specs.Laws.Words.{eq_z_eq, mem_i, mem_e, nat_abs_neg}
use Rattle.formula.specs.Formula.{existential, universal, level}
use Rattle.formula.specs.Laws.Prefix.{stands, stands_neg, stands_bound, existential_stands, universal_stands, level_var}
use Rattle.theory.specs.Record.{Assignment, assigned}
use Rattle.theory.specs.Tests.{unassigned_existential, unassigned_universal, in_conflict, is_only, is_deeper, unit_on, absent, monotone_wide, not_below, is_open}
use Rattle.theory.proofs.Laws.Assignment.{put_old, put_e, assigned_neg, assigned_still}
use Rattle.theory.specs.Grown.{put}
use Rattle.theory.specs.Met.{Dead, UnitAt, Lowest, OpenAt, Absent, MonotoneAt}

-- ---- an unassigned literal of a quantifier
parts : (b a : Bool) → (b && not a) ≡ true → (b ≡ true) × (a ≡ false)
parts b a h = (and_l b (not a) h, not_t a (and_r b (not a) h))

pub unassigned_existential_e : (p : List ℤ) (ρ : Assignment) (x : ℤ) → unassigned_existential p ρ x ≡ true → (existential p x ≡ true) × (assigned ρ x ≡ false)
unfolding unassigned_existential
unassigned_existential_e p ρ x h = parts (existential p x) (assigned ρ x) h

pub unassigned_universal_e : (p : List ℤ) (ρ : Assignment) (x : ℤ) → unassigned_universal p ρ x ≡ true → (universal p x ≡ true) × (assigned ρ x ≡ false)
unfolding unassigned_universal
unassigned_universal_e p ρ x h = parts (universal p x) (assigned ρ x) h

pub unassigned_existential_i : (p : List ℤ) (ρ : Assignment) (x : ℤ) → existential p x ≡ true → assigned ρ x ≡ false → unassigned_existential p ρ x ≡ true
unfolding unassigned_existential
unassigned_existential_i p ρ x e a = rw (e, a)

pub unassigned_universal_i : (p : List ℤ) (ρ : Assignment) (x : ℤ) → universal p x ≡ true → assigned ρ x ≡ false → unassigned_universal p ρ x ≡ true
unfolding unassigned_universal
unassigned_universal_i p ρ x e a = rw (e, a)

-- what is unassigned after one more literal was so before
pub still_unassigned : (y : ℤ) (ρ : Assignment) (x : ℤ) → assigned (put y ρ) x ≡ false → assigned ρ x ≡ false
still_unassigned y ρ x h = to_false (assigned ρ x) (λ e. clash (assigned_still y ρ x e) h)

pub unassigned_existential_put : (p : List ℤ) (y : ℤ) (ρ : Assignment) (x : ℤ) → unassigned_existential p (put y ρ) x ≡ true → unassigned_existential p ρ x ≡ true
unassigned_existential_put p y ρ x h = let u = unassigned_existential_e p (put y ρ) x h in unassigned_existential_i p ρ x u.0 (still_unassigned y ρ x u.1)

pub unassigned_universal_put : (p : List ℤ) (y : ℤ) (ρ : Assignment) (x : ℤ) → unassigned_universal p (put y ρ) x ≡ true → unassigned_universal p ρ x ≡ true
unassigned_universal_put p y ρ x h = let u = unassigned_universal_e p (put y ρ) x h in unassigned_universal_i p ρ x u.0 (still_unassigned y ρ x u.1)

-- no literal of the clause becomes true but by its own
pub untrue_put : (C : List ℤ) (y : ℤ) (ρ : Assignment) → (In y C → ⊥) → any ρ C ≡ false → any (put y ρ) C ≡ false
untrue_put C y ρ out h = any_f (put y ρ) C (λ x i. to_false _ (λ e. go x i (put_e y x ρ e)))
  where
    go : (x : ℤ) → In x C → (x ≡ y) ⊎ (ρ x ≡ true) → ⊥
    go x i (inl e) = out (rw e at i)
    go x i (inr e) = clash (any_i ρ i e) h

-- a true literal stays true
pub true_put : (C : List ℤ) (y : ℤ) (ρ : Assignment) → any ρ C ≡ true → any (put y ρ) C ≡ true
true_put C y ρ h = any_more ρ (put y ρ) C (λ x i. put_old y x ρ) h

pub dead_e : (p : List ℤ) (ρ : Assignment) (C : List ℤ) → in_conflict p ρ C ≡ true → Dead p ρ C
unfolding in_conflict
dead_e p ρ C h = record {
  untrue = not_t _ (and_l (not (any ρ C)) (not (any (unassigned_existential p ρ) C)) h);
  helpless = not_t _ (and_r (not (any ρ C)) (not (any (unassigned_existential p ρ) C)) h);
}

pub dead_i : (p : List ℤ) (ρ : Assignment) (C : List ℤ) → Dead p ρ C → in_conflict p ρ C ≡ true
unfolding in_conflict
dead_i p ρ C d = rw (d.untrue, d.helpless)

-- it stays so if no literal of its own becomes true
pub dead_put : (p : List ℤ) (C : List ℤ) (y : ℤ) (ρ : Assignment) → (In y C → ⊥) → Dead p ρ C → Dead p (put y ρ) C
dead_put p C y ρ out d = record {
  untrue = untrue_put C y ρ out d.untrue;
  helpless = any_f (unassigned_existential p (put y ρ)) C (λ x i. to_false _ (λ e. clash (any_i (unassigned_existential p ρ) i (unassigned_existential_put p y ρ x e)) d.helpless));
}

pub unit_e : (p : List ℤ) (ρ : Assignment) (C : List ℤ) (l : ℤ) → unit_on p ρ C l ≡ true → UnitAt p C l ρ
unfolding unit_on
unit_e p ρ C l h =
    let h3 = and_l (a && b && c) (all (is_deeper p ρ l) C) h in
    let h2 = and_l (a && b) c h3 in
    let u = unassigned_existential_e p ρ l (and_r (mem l C) (unassigned_existential p ρ l) (and_r a b h2)) in
    record {
      untrue = not_t (any ρ C) (and_l a b h2);
      inside = mem_e l C (and_l (mem l C) (unassigned_existential p ρ l) (and_r a b h2));
      exists = u.0;
      unset = u.1;
      only = λ x i e. eq_z_eq x l (rw e at (all_e (is_only p ρ l) C (and_r (a && b) c h3) i));
      deeper = λ x i e. ltb→lt (level p l) (level p x) (eq→T (rw e at (all_e (is_deeper p ρ l) C (and_r (a && b && c) (all (is_deeper p ρ l) C) h) i)));
    }
  where
    a : Bool
    a = not (any ρ C)

    b : Bool
    b = mem l C && unassigned_existential p ρ l

    c : Bool
    c = all (is_only p ρ l) C

unassigned_e : (p : List ℤ) (ρ : Assignment) (l : ℤ) → (unassigned_existential p ρ l ≡ true) ⊎ (unassigned_universal p ρ l ≡ true) → (stands p l ≡ true) × (assigned ρ l ≡ false)
unassigned_e p ρ l (inl h) = let u = unassigned_existential_e p ρ l h in (existential_stands p l u.0, u.1)
unassigned_e p ρ l (inr h) = let u = unassigned_universal_e p ρ l h in (universal_stands p l u.0, u.1)

pub open_e : (p : List ℤ) (ρ : Assignment) (l : ℤ) → is_open p ρ l ≡ true → OpenAt p ρ l
unfolding is_open
open_e p ρ l h =
    let u = unassigned_e p ρ l (or_e (unassigned_existential p ρ l) (unassigned_universal p ρ l) (and_l (unassigned_existential p ρ l || unassigned_universal p ρ l) (all (not_below p ρ l) p) h)) in
    record { bound = u.0; unset = u.1; lowest = λ x i a. leb→le (level p l) (level p x) (eq→T (rw a at (all_e (not_below p ρ l) p (and_r (unassigned_existential p ρ l || unassigned_universal p ρ l) (all (not_below p ρ l) p) h) i))) }

pub open_i : (p : List ℤ) (ρ : Assignment) (l : ℤ) → stands p l ≡ true → assigned ρ l ≡ false → Lowest p ρ l p → is_open p ρ l ≡ true
unfolding is_open
open_i p ρ l b a h =
    and_i {a = unassigned_existential p ρ l || unassigned_universal p ρ l} {b = all (not_below p ρ l) p} (unset (stands_bound p l b)) (all_i (not_below p ρ l) p (λ x i. least x i (look (assigned ρ x))))
  where
    unset : (existential p l ≡ true) ⊎ (universal p l ≡ true) → (unassigned_existential p ρ l || unassigned_universal p ρ l) ≡ true
    unset (inl e) = or_l (unassigned_universal p ρ l) (unassigned_existential_i p ρ l e a)
    unset (inr e) = or_r (unassigned_existential p ρ l) (unassigned_universal_i p ρ l e a)

    least : (x : ℤ) → In x p → (assigned ρ x ≡ true) ⊎ (assigned ρ x ≡ false) → not_below p ρ l x ≡ true
    least x i (inl e) = or_l (leb (level p l) (level p x)) e
    least x i (inr e) = or_r (assigned ρ x) (T→eq (le→leb (level p l) (level p x) (h x i e)))

-- its opposite is open too
pub open_neg : (p : List ℤ) (ρ : Assignment) (l : ℤ) → is_open p ρ l ≡ true → is_open p ρ (neg_ℤ l) ≡ true
open_neg p ρ l h = let o = open_e p ρ l h in
    open_i p ρ (neg_ℤ l) (stands_neg p l ∙ o.bound) (assigned_neg ρ l ∙ o.unset) (λ x i a. rw (level_var p (neg_ℤ l) l (nat_abs_neg l)) (o.lowest x i a))

pub absent_e : (m : List (List ℤ)) (ρ : Assignment) (a : ℤ) → absent m ρ a ≡ true → Absent m a ρ
unfolding absent
absent_e m ρ a h C i = elim (or_e (any ρ C) (not (mem a C)) (all_e (λ C. any ρ C || not (mem a C)) m h i)) [
  | inl e ↦ inl e
  | inr e ↦ inr (λ j. clash (mem_i j) (not_t _ e))
]

pub absent_put : (m : List (List ℤ)) (a y : ℤ) (ρ : Assignment) → Absent m a ρ → Absent m a (put y ρ)
absent_put m a y ρ h C i = elim (h C i) [ inl e ↦ inl (true_put C y ρ e) | inr f ↦ inr f ]

pub monotone_e : (p : List ℤ) (m : List (List ℤ)) (ρ : Assignment) (l : ℤ) → monotone_wide p m ρ l ≡ true → MonotoneAt p m l ρ
unfolding monotone_wide
monotone_e p m ρ l h = elim (or_e (unassigned_existential p ρ l && absent m ρ (neg_ℤ l)) (unassigned_universal p ρ l && absent m ρ l) h) [
  | inl k ↦
      let (e, u) = unassigned_existential_e p ρ l (and_l (unassigned_existential p ρ l) (absent m ρ (neg_ℤ l)) k) in
      record { unset = u; spare = inl (e, absent_e m ρ (neg_ℤ l) (and_r (unassigned_existential p ρ l) (absent m ρ (neg_ℤ l)) k)) }
  | inr k ↦
      let (e, u) = unassigned_universal_e p ρ l (and_l (unassigned_universal p ρ l) (absent m ρ l) k) in
      record { unset = u; spare = inr (e, absent_e m ρ l (and_r (unassigned_universal p ρ l) (absent m ρ l) k)) }
]

-- its variable is the prefix's
pub monotone_stands : (p : List ℤ) (m : List (List ℤ)) (l : ℤ) (ρ : Assignment) → MonotoneAt p m l ρ → stands p l ≡ true
monotone_stands p m l ρ r = elim r.spare [ inl k ↦ existential_stands p l k.0 | inr k ↦ universal_stands p l k.0 ]
