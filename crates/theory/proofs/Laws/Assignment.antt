-- Assignments that grow: what is true and which variables are assigned after one more literal, and after the entries of a record.
-- From the definition of `assigned`: a variable is assigned if one of its two literals is true.
use Rattle.std.specs.Prelude.{◌≡◌, refl, ◌⊎◌, Bool, true, false, ◌||◌, List, [], ◌∷◌, ◌++◌, eqb, ℤ, neg_ℤ, nat_abs}
use Rattle.std.proofs.Common.{sym, ◌∙◌, ap, inl, inr, append-nil, append_assoc}
use Rattle.std.proofs.Math.Path.{fun_ext}
use Rattle.std.proofs.Math.Bool.{or_comm, or_assoc, or-false}
use Rattle.words.specs.Laws.Bools.{or_e, or_r, eqb_same}
use Rattle.words.specs.Words.{eq_z, mem}
use Rattle.words.specs.Laws.Words.{eq_z_refl, eq_z_eq, mem_append, negneg, nat_abs_neg, var_cases, same_variable}
use Rattle.formula.specs.Laws.Prefix.{stands, stands_mem}
use Rattle.formula.specs.Truth.{asked}
use Rattle.theory.specs.Record.{Entry, Record, literals, Assignment, among, true_in, assigned}
use Rattle.theory.proofs.Laws.Asked.{asked_exchange}
use Rattle.theory.specs.Grown.{put, after, given}

-- ---- which literals are true
pub put_new : (l : ℤ) (ρ : Assignment) → put l ρ l ≡ true
unfolding put
put_new l ρ = rw (eq_z_refl l)

pub put_old : (l x : ℤ) (ρ : Assignment) → ρ x ≡ true → put l ρ x ≡ true
unfolding put
put_old l x ρ h = or_r (eq_z x l) h

pub put_e : (l x : ℤ) (ρ : Assignment) → put l ρ x ≡ true → (x ≡ l) ⊎ (ρ x ≡ true)
unfolding put
put_e l x ρ h = elim (or_e (eq_z x l) (ρ x) h) [ inl e ↦ inl (eq_z_eq x l e) | inr e ↦ inr e ]

pub put_comm : (a b : ℤ) (ρ : Assignment) → put a (put b ρ) ≡ put b (put a ρ)
unfolding put
put_comm a b ρ = fun_ext (λ x. swap (eq_z x a) (eq_z x b) (ρ x))
  where
    swap : (u v w : Bool) → (u || (v || w)) ≡ (v || (u || w))
    swap u v w = sym (or_assoc u v w) ∙ ap (λ (b : Bool). b || w) (or_comm u v) ∙ or_assoc v u w

-- ---- which variables are assigned
pub assigned_neg : (ρ : Assignment) (x : ℤ) → assigned ρ (neg_ℤ x) ≡ assigned ρ x
unfolding assigned
assigned_neg ρ x = rw (negneg x) (or_comm (ρ (neg_ℤ x)) (ρ x))

-- both literals of a variable are assigned, or none
pub assigned_var : (ρ : Assignment) (x y : ℤ) → nat_abs x ≡ nat_abs y → assigned ρ x ≡ assigned ρ y
assigned_var ρ x y e = elim (var_cases x y e) [ inl z ↦ rw z | inr z ↦ rw z (assigned_neg ρ y) ]

-- one more literal assigns its own variable and no other
pub assigned_put : (l : ℤ) (ρ : Assignment) (x : ℤ) → assigned (put l ρ) x ≡ (eqb (nat_abs l) (nat_abs x) || assigned ρ x)
unfolding assigned put asked
assigned_put l ρ x = rw (← same_variable x l) (asked_exchange false (eq_z x l) (ρ x) (eq_z (neg_ℤ x) l) (ρ (neg_ℤ x)))

pub assigned_own : (l : ℤ) (ρ : Assignment) → assigned (put l ρ) l ≡ true
assigned_own l ρ = rw (assigned_put l ρ l, eqb_same (nat_abs l))

pub assigned_still : (l : ℤ) (ρ : Assignment) (x : ℤ) → assigned ρ x ≡ true → assigned (put l ρ) x ≡ true
assigned_still l ρ x h = rw (assigned_put l ρ x, h) (or_r (eqb (nat_abs l) (nat_abs x)) refl)

pub assigned_other : (l : ℤ) (ρ : Assignment) (x : ℤ) → eqb (nat_abs l) (nat_abs x) ≡ false → assigned (put l ρ) x ≡ assigned ρ x
assigned_other l ρ x h = rw (assigned_put l ρ x, h)

-- the literal's sign does not matter
pub assigned_sign : (l : ℤ) (ρ : Assignment) (x : ℤ) → assigned (put (neg_ℤ l) ρ) x ≡ assigned (put l ρ) x
assigned_sign l ρ x = rw (assigned_put (neg_ℤ l) ρ x, assigned_put l ρ x, nat_abs_neg l)

-- an unassigned variable stays so when another is set, to either value
pub unset_put : (q : ℤ) (ρ : Assignment) (x : ℤ) → eqb (nat_abs q) (nat_abs x) ≡ false → assigned ρ x ≡ false
    → (assigned (put q ρ) x ≡ false) × (assigned (put (neg_ℤ q) ρ) x ≡ false)
unset_put q ρ x d a = let h = assigned_other q ρ x d ∙ a in (h, assigned_sign q ρ x ∙ h)

-- ---- the assignment of a list and of a record
pub assigned_among : (σ : List ℤ) (l : ℤ) → assigned (among σ) l ≡ stands σ l
unfolding assigned
assigned_among σ l = stands_mem σ l

pub literals_append : (a b : Record) → literals (a ++ b) ≡ literals a ++ literals b
unfolding literals
literals_append [] b = refl
literals_append (e ∷ a) b = ap (λ (xs : List ℤ). e.literal ∷ xs) (literals_append a b)

pub given_literals : (vs : List ℤ) → literals (given vs) ≡ vs
unfolding given literals
given_literals [] = refl
given_literals (v ∷ vs) = ap (λ (ws : List ℤ). v ∷ ws) (given_literals vs)

-- a record that grows by an entry
pub true_snoc : (r : Record) (e : Entry) → true_in (r ++ e ∷ []) ≡ put e.literal (true_in r)
unfolding put literals mem
true_snoc r e = fun_ext at
  where
    at : (x : ℤ) → mem x (literals (r ++ e ∷ [])) ≡ (eq_z x e.literal || mem x (literals r))
    at x = rw (literals_append r (e ∷ []), mem_append x (literals r) (e.literal ∷ []), or-false (eq_z x e.literal)) (or_comm (mem x (literals r)) (eq_z x e.literal))

pub true_append : (a s : Record) → true_in (a ++ s) ≡ after (true_in a) s
unfolding after
true_append a [] = ap true_in (append-nil a)
true_append a (e ∷ s) = ap true_in (sym (append_assoc a (e ∷ []) s)) ∙ true_append (a ++ e ∷ []) s ∙ ap (λ (ρ : Assignment). after ρ s) (true_snoc a e)
