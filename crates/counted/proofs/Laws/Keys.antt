-- What a clause's key says of the rules' tests, and how one literal more moves the numbers: literal by literal, since a clause repeats none.
use Rattle.std.specs.Prelude.{ℕ, ◌+◌, ◌*◌, ◌<◌, ◌≡◌, refl, ◌⊎◌, Bool, true, cond, ◌&&◌, ◌||◌, eqb, ℤ, pos, neg_ℤ}
use Rattle.std.proofs.Common.{sym, ◌∙◌, inl, inr, arith, eq-eqb}
use Rattle.std.proofs.Math.Path.{ap, subst}
use Rattle.std.proofs.Math.Bool.{false, not, and-true, and-false}
use mathlib.Core.List.{List, [], ◌∷◌}
use Rattle.std.proofs.Math.Dec.{ltb}
use Rattle.std.proofs.Math.IntN.{nat_abs}
use Rattle.words.specs.Words.{eq_z, mem}
use Rattle.words.specs.Lists.{In, any, here, all, there}
use Rattle.words.specs.Laws.Bools.{clash, look, or_fl, and_l, and_i, or_l, and_r, bool_eq, not_f, or_r, to_false, not_t, eqb_eq, eqb_ne, eqb_i}
use Rattle.words.specs.Laws.Lists.{all_i, any_none}
use Rattle.words.specs.Laws.Words.{eq_z_refl, eq_z_eq, mem_i, eq_z_ne, negneg, mem_e, neg_swap, own_opposite, var_cases, same_variable}
use Rattle.formula.specs.Formula.{existential, level}
use Rattle.formula.specs.Block.{repeats}
use Rattle.theory.specs.Record.{Assignment, assigned}
use Rattle.theory.specs.Tests.{unassigned_existential, unassigned_universal, in_conflict, is_only, is_deeper, unit_on}
use Rattle.theory.proofs.Laws.Assignment.{assigned_var, assigned_put}
use Rattle.theory.specs.Grown.{put}
use Rattle.theory.proofs.Laws.Tested.{unassigned_existential_i, unit_e}
use Rattle.rules.specs.Due.{candidate, is_unit}
use Rattle.counted.specs.Fresh.{opens, bit, count_if, trues}
use Rattle.counted.proofs.Laws.Counts.{count_none, count_any, count_one, count_same, count_split, count_word}

-- twice the true literals and the open ones
abbrev pub key : List ℤ → Assignment → List ℤ → ℕ
key p ρ C = 2 * trues ρ C + opens p ρ C

-- what the key does not say of a unit clause: its unassigned universal literals are above the level of l
unfoldable pub higher : List ℤ → Assignment → List ℤ → ℤ → Bool
higher p ρ C l = all (is_deeper p ρ l) C

-- ---- a clause is in conflict exactly if its key is 0
pub conflict_key : (p : List ℤ) (ρ : Assignment) (C : List ℤ) → in_conflict p ρ C ≡ eqb (key p ρ C) 0
unfolding in_conflict
conflict_key p ρ C = rw (← count_any ρ C, ← count_any (unassigned_existential p ρ) C) (zeros (count_if ρ C) (count_if (unassigned_existential p ρ) C))
  where
    zeros : (t o : ℕ) → (eqb t 0 && eqb o 0) ≡ eqb (2 * t + o) 0
    zeros t o = bool_eq _ _ there_it back
      where
        there_it : (eqb t 0 && eqb o 0) ≡ true → eqb (2 * t + o) 0 ≡ true
        there_it h =
            let a = eqb_eq t 0 (and_l (eqb t 0) (eqb o 0) h) in
            let b = eqb_eq o 0 (and_r (eqb t 0) (eqb o 0) h) in
            eq-eqb (2 * t + o) 0 (omega arith)

        back : eqb (2 * t + o) 0 ≡ true → (eqb t 0 && eqb o 0) ≡ true
        back h = let a = eqb_eq (2 * t + o) 0 h in and_i (eq-eqb t 0 (omega arith)) (eq-eqb o 0 (omega arith))

-- ---- a unit clause has key 1
pub unit_key : (p : List ℤ) (ρ : Assignment) (C : List ℤ) (l : ℤ) → repeats C ≡ false → unit_on p ρ C l ≡ true → key p ρ C ≡ 1
unit_key p ρ C l once h =
    let u = unit_e p ρ C l h in
    let own = unassigned_existential_i p ρ l u.exists u.unset in
    let one = count_one (unassigned_existential p ρ) l C once (λ x i. bool_eq _ _ (λ t. rw (u.only x i t) (eq_z_refl l)) (λ e. rw (eq_z_eq x l e) own)) in
    let b : bit (mem l C) ≡ 1 = ap bit (mem_i u.inside) in
    omega (arith, count_none ρ C u.untrue, one, b)

-- ---- of a clause with key 1 no literal is true, and one is unassigned existential: only the levels are left to look at
module _ (p : List ℤ) (ρ : Assignment) where
  -- none passes: the test fails at each
  zero_none : (f : ℤ → Bool) (C : List ℤ) → count_if f C ≡ 0 → any f C ≡ false
  zero_none f C e = not_t (any f C) (sym (count_any f C) ∙ eqb_i e)

  -- with one open literal: the candidate is it
  record One (C : List ℤ) : Type 0 where
    pub in_it : mem (candidate p ρ C) C ≡ true
    pub open_it : unassigned_existential p ρ (candidate p ρ C) ≡ true
    pub alone : all (is_only p ρ (candidate p ρ C)) C ≡ true

  one : (C : List ℤ) → opens p ρ C ≡ 1 → One C
  unfolding count_if candidate mem all
  one [] e = absurd (omega arith)
  one (x ∷ C) e = by (look (unassigned_existential p ρ x)) (one C)
    where
      by : (unassigned_existential p ρ x ≡ true) ⊎ (unassigned_existential p ρ x ≡ false) → (opens p ρ C ≡ 1 → One C) → One (x ∷ C)
      by (inl t) ih =
          let e' : 1 + count_if (unassigned_existential p ρ) C ≡ 1 = rw t at e in
          let none = zero_none (unassigned_existential p ρ) C (omega arith) in
          let k : candidate p ρ (x ∷ C) ≡ x = rw t in
          let m : mem x (x ∷ C) ≡ true = or_l (mem x C) (eq_z_refl x) in
          let a : all (is_only p ρ x) (x ∷ C) ≡ true = rw (t, eq_z_refl x) (all_i _ C (λ y i. or_l (eq_z y x) (not_f (any_none (unassigned_existential p ρ) C none i)))) in
          record {
            in_it = subst (λ z. mem z (x ∷ C) ≡ true) (sym k) m;
            open_it = rw t t;
            alone = subst (λ z. all (is_only p ρ z) (x ∷ C) ≡ true) (sym k) a;
          }
      by (inr t) ih =
          let e' : 0 + count_if (unassigned_existential p ρ) C ≡ 1 = rw t at e in
          let r = ih (omega arith) in
          let k : candidate p ρ (x ∷ C) ≡ candidate p ρ C = rw t in
          let m : mem (candidate p ρ C) (x ∷ C) ≡ true = or_r (eq_z (candidate p ρ C) x) r.in_it in
          let a : all (is_only p ρ (candidate p ρ C)) (x ∷ C) ≡ true = rw t r.alone in
          record {
            in_it = subst (λ z. mem z (x ∷ C) ≡ true) (sym k) m;
            open_it = rw t r.open_it;
            alone = subst (λ z. all (is_only p ρ z) (x ∷ C) ≡ true) (sym k) a;
          }

  pub key_unit : (C : List ℤ) → key p ρ C ≡ 1 → is_unit p ρ C ≡ higher p ρ C (candidate p ρ C)
  unfolding unit_on higher
  key_unit C e =
      let o = one C (omega arith) in
      rw (zero_none ρ C (omega arith), o.in_it, o.open_it, o.alone)

  pub key_open : (C : List ℤ) → key p ρ C ≡ 1 → In (candidate p ρ C) C
  key_open C e = mem_e (candidate p ρ C) C (one C (omega arith)).in_it

-- ---- tests that agree on a clause's literals
any_same : (f g : ℤ → Bool) (C : List ℤ) → ((x : ℤ) → In x C → f x ≡ g x) → any f C ≡ any g C
unfolding any
any_same f g [] h = refl
any_same f g (x ∷ C) h = rw (h x (here refl), any_same f g C (λ y i. h y (there i)))

all_same : (f g : ℤ → Bool) (C : List ℤ) → ((x : ℤ) → In x C → f x ≡ g x) → all f C ≡ all g C
unfolding all
all_same f g [] h = refl
all_same f g (x ∷ C) h = rw (h x (here refl), all_same f g C (λ y i. h y (there i)))

candidate_same : (p : List ℤ) (ρ σ : Assignment) (C : List ℤ) → ((x : ℤ) → In x C → unassigned_existential p σ x ≡ unassigned_existential p ρ x) → candidate p σ C ≡ candidate p ρ C
unfolding candidate
candidate_same p ρ σ [] h = refl
candidate_same p ρ σ (x ∷ C) h = rw (h x (here refl), candidate_same p ρ σ C (λ y i. h y (there i)))

candidate_within : (p : List ℤ) (ρ : Assignment) (C : List ℤ) → (candidate p ρ C ≡ pos 0) ⊎ In (candidate p ρ C) C
unfolding candidate
candidate_within p ρ [] = inl refl
candidate_within p ρ (x ∷ C) = by (look (unassigned_existential p ρ x)) (candidate_within p ρ C)
  where
    by : (unassigned_existential p ρ x ≡ true) ⊎ (unassigned_existential p ρ x ≡ false) → (candidate p ρ C ≡ pos 0) ⊎ In (candidate p ρ C) C → (cond (unassigned_existential p ρ x) x (candidate p ρ C) ≡ pos 0) ⊎ In (cond (unassigned_existential p ρ x) x (candidate p ρ C)) (x ∷ C)
    by (inl t) ih = rw t (inr (here refl))
    by (inr t) (inl e) = rw t (inl e)
    by (inr t) (inr i) = rw t (inr (there i))

-- ---- one literal more, of an unassigned variable
module _ (p : List ℤ) (ρ : Assignment) (l : ℤ) (some : 0 < nat_abs l) (free : assigned ρ l ≡ false) where
  pub false_own : ρ l ≡ false
  unfolding assigned
  false_own = or_fl (ρ l) (ρ (neg_ℤ l)) free

  -- the literals of other variables are as true as they were
  pub true_other : (x : ℤ) → eqb (nat_abs l) (nat_abs x) ≡ false → put l ρ x ≡ ρ x
  unfolding put
  true_other x d = let z : eq_z x l ≡ false = eq_z_ne (λ e. clash (eqb_i (ap nat_abs (sym e))) d) in rw z

  pub trues_put : (C : List ℤ) → repeats C ≡ false → trues (put l ρ) C ≡ trues ρ C + bit (mem l C)
  unfolding put
  trues_put C once = rw (← count_word l C once) (count_split (put l ρ) ρ (λ x. eq_z x l) C by)
    where
      at : (x : ℤ) → (eq_z x l ≡ true) ⊎ (eq_z x l ≡ false) → bit (eq_z x l || ρ x) ≡ bit (ρ x) + bit (eq_z x l)
      at x (inl t) = let z : ρ x ≡ false = rw (eq_z_eq x l t) false_own in rw (t, z)
      at x (inr t) = rw t (omega arith)

      by : (x : ℤ) → bit (put l ρ x) ≡ bit (ρ x) + bit (eq_z x l)
      by x = at x (look (eq_z x l))

  -- the literals of l's variable in a clause
  both : (C : List ℤ) → repeats C ≡ false → count_if (λ x. eqb (nat_abs l) (nat_abs x)) C ≡ bit (mem l C) + bit (mem (neg_ℤ l) C)
  both C once = rw (← count_word l C once, ← count_word (neg_ℤ l) C once) (count_split _ (λ x. eq_z x l) (λ x. eq_z x (neg_ℤ l)) C by)
    where
      turned : (x : ℤ) → eq_z (neg_ℤ x) l ≡ eq_z x (neg_ℤ l)
      turned x = bool_eq _ _
          (λ h. let e : x ≡ neg_ℤ l = neg_swap (eq_z_eq (neg_ℤ x) l h) in rw e (eq_z_refl (neg_ℤ l)))
          (λ h. rw (eq_z_eq x (neg_ℤ l) h, negneg l) (eq_z_refl l))

      at : (x : ℤ) → (eq_z x l ≡ true) ⊎ (eq_z x l ≡ false) → bit (eq_z x l || eq_z (neg_ℤ x) l) ≡ bit (eq_z x l) + bit (eq_z x (neg_ℤ l))
      at x (inl t) =
          let e = eq_z_eq x l t in
          let n : eq_z x (neg_ℤ l) ≡ false = eq_z_ne (λ k. omega (arith, own_opposite l (sym e ∙ k))) in
          rw (t, n)
      at x (inr t) = rw (t, turned x) (omega arith)

      by : (x : ℤ) → bit (eqb (nat_abs l) (nat_abs x)) ≡ bit (eq_z x l) + bit (eq_z x (neg_ℤ l))
      by x = rw (← same_variable x l) (at x (look (eq_z x l)))

  -- its variable's literals are no longer open, and no others change
  pub own_open : (x : ℤ) → eqb (nat_abs l) (nat_abs x) ≡ true → (unassigned_existential p ρ x ≡ existential p l) × (unassigned_existential p (put l ρ) x ≡ false)
  unfolding unassigned_existential existential
  own_open x t =
      let e = eqb_eq (nat_abs l) (nat_abs x) t in
      rw (assigned_put l ρ x, t, ← assigned_var ρ l x e, free, ← e) (and-true (existential p l), and-false (existential p l))

  pub other_open : (x : ℤ) → eqb (nat_abs l) (nat_abs x) ≡ false → unassigned_existential p (put l ρ) x ≡ unassigned_existential p ρ x
  unfolding unassigned_existential
  other_open x t = rw (assigned_put l ρ x, t)

  pub other_open_universal : (x : ℤ) → eqb (nat_abs l) (nat_abs x) ≡ false → unassigned_universal p (put l ρ) x ≡ unassigned_universal p ρ x
  unfolding unassigned_universal
  other_open_universal x t = rw (assigned_put l ρ x, t)

  -- by one literal of the clause, when l is existential
  pub opens_put : (C : List ℤ) → repeats C ≡ false → existential p l ≡ true → opens p ρ C ≡ opens p (put l ρ) C + (bit (mem l C) + bit (mem (neg_ℤ l) C))
  opens_put C once ex = rw (← both C once) (count_split (unassigned_existential p ρ) (unassigned_existential p (put l ρ)) (λ x. eqb (nat_abs l) (nat_abs x)) C by)
    where
      at : (x : ℤ) → (eqb (nat_abs l) (nat_abs x) ≡ true) ⊎ (eqb (nat_abs l) (nat_abs x) ≡ false) → bit (unassigned_existential p ρ x) ≡ bit (unassigned_existential p (put l ρ) x) + bit (eqb (nat_abs l) (nat_abs x))
      at x (inl t) = let o = own_open x t in rw (o.0, o.1, t, ex)
      at x (inr t) = rw (other_open x t, t) (omega arith)

      by : (x : ℤ) → bit (unassigned_existential p ρ x) ≡ bit (unassigned_existential p (put l ρ) x) + bit (eqb (nat_abs l) (nat_abs x))
      by x = at x (look (eqb (nat_abs l) (nat_abs x)))

  -- and when it is not
  pub opens_stay : (C : List ℤ) → existential p l ≡ false → opens p (put l ρ) C ≡ opens p ρ C
  opens_stay C un = count_same _ _ C (λ x i. at x (look (eqb (nat_abs l) (nat_abs x))))
    where
      at : (x : ℤ) → (eqb (nat_abs l) (nat_abs x) ≡ true) ⊎ (eqb (nat_abs l) (nat_abs x) ≡ false) → unassigned_existential p (put l ρ) x ≡ unassigned_existential p ρ x
      at x (inl t) = let o = own_open x t in rw (o.0, o.1, un)
      at x (inr t) = other_open x t

  -- a clause without the variable stays a unit clause or none, on the same literal
  module _ (C : List ℤ) (not-l : mem l C ≡ false) (not-n : mem (neg_ℤ l) C ≡ false) where
    apart : (x : ℤ) → In x C → eqb (nat_abs l) (nat_abs x) ≡ false
    apart x i = to_false _ (λ t. elim (var_cases x l (sym (eqb_eq (nat_abs l) (nat_abs x) t))) [
      | inl e ↦ clash (mem_i (rw e at i)) not-l
      | inr e ↦ clash (mem_i (rw e at i)) not-n
    ])

    candidate_apart : (candidate p ρ C ≡ pos 0) ⊎ In (candidate p ρ C) C → eqb (nat_abs l) (nat_abs (candidate p ρ C)) ≡ false
    candidate_apart (inl e) = rw e (eqb_ne (nat_abs l) 0 (λ z. omega arith))
    candidate_apart (inr i) = apart _ i

    pub unit_stays : is_unit p (put l ρ) C ≡ is_unit p ρ C
    unfolding unit_on
    unit_stays =
        let k = candidate p ρ C in
        let e1 = candidate_same p ρ (put l ρ) C (λ x i. other_open x (apart x i)) in
        let e2 = any_same (put l ρ) ρ C (λ x i. true_other x (apart x i)) in
        let e3 = other_open k (candidate_apart (candidate_within p ρ C)) in
        let e4 = all_same (is_only p (put l ρ) k) (is_only p ρ k) C (λ x i. ap (λ b. not b || eq_z x k) (other_open x (apart x i))) in
        let e5 = all_same (is_deeper p (put l ρ) k) (is_deeper p ρ k) C (λ x i. ap (λ b. not b || ltb (level p k) (level p x)) (other_open_universal x (apart x i))) in
        rw (e1, e2, e3, e4, e5)
