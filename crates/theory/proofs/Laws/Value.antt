-- The value of a formula under an assignment: truth that passes over the prefix variables that are assigned already. Records assign inner
-- variables early, so the laws are about the value; `value_rest` says that it is the truth of what is left of the formula.
use Rattle.std.specs.Prelude.{◌≡◌, refl, Bool, true, false, cond, List, [], ◌∷◌, ◌++◌, eqb, ℤ, neg_ℤ, nat_abs}
use Rattle.std.proofs.Common.{sym, ◌∙◌, inl, inr}
use Rattle.words.specs.Laws.Bools.{clash, look, or_fl, or_fr}
use Rattle.words.specs.Lists.{In, here, there, all, any}
use Rattle.words.specs.Words.{negative, mem}
use Rattle.words.specs.Laws.Words.{negneg, var_cases}
use Rattle.formula.specs.Formula.{Formula}
use Rattle.formula.specs.Block.{twice}
use Rattle.formula.specs.Laws.Prefix.{stands, stands_neg, twice_head, twice_tail}
use Rattle.formula.specs.Proper.{Proper}
use Rattle.formula.specs.Truth.{asked, truth, true?}
use Rattle.theory.specs.Record.{Record, literals, Assignment, among, true_in, assigned}
use Rattle.theory.specs.Tests.{all_assigned}
use Rattle.theory.specs.Start.{rest, true_under}
use Rattle.theory.proofs.Laws.Assignment.{assigned_var, assigned_own, assigned_other}
use Rattle.theory.specs.Grown.{put}
use Rattle.theory.proofs.Laws.Asked.{asked_comm}

unfoldable pub value : List ℤ → List (List ℤ) → Assignment → Bool
value [] m ρ = all (any ρ) m
value (q ∷ p) m ρ = cond (assigned ρ q) (value p m ρ) (asked (negative q) (value p m (put q ρ)) (value p m (put (neg_ℤ q) ρ)))

abbrev pub value_of : Formula → Assignment → Bool
value_of F ρ = value F.prefix F.clauses ρ

module _ (q : ℤ) (p : List ℤ) (m : List (List ℤ)) (ρ : Assignment) where
  -- the first variable: passed over, or asked for
  pub value_set : assigned ρ q ≡ true → value (q ∷ p) m ρ ≡ value p m ρ
  unfolding value
  value_set h = rw h

  pub value_ask : assigned ρ q ≡ false → value (q ∷ p) m ρ ≡ asked (negative q) (value p m (put q ρ)) (value p m (put (neg_ℤ q) ρ))
  unfolding value
  value_ask h = rw h

  -- the same said of either literal l of the first variable
  module _ (l : ℤ) (e : nat_abs l ≡ nat_abs q) where
    pub value_at_lem : assigned ρ q ≡ false → value (q ∷ p) m ρ ≡ asked (negative q) (value p m (put l ρ)) (value p m (put (neg_ℤ l) ρ))
    value_at_lem h = elim (var_cases l q e) [
      | inl z ↦ rw z (value_ask h)
      | inr z ↦ rw (z, negneg q) (value_ask h ∙ asked_comm (negative q) _ _)
    ]

-- its own literal, put in, passes over the first variable
pub value_own : (q : ℤ) (p : List ℤ) (m : List (List ℤ)) (ρ : Assignment) (l : ℤ) → nat_abs l ≡ nat_abs q → value (q ∷ p) m (put l ρ) ≡ value p m (put l ρ)
value_own q p m ρ l e = value_set q p m (put l ρ) (sym (assigned_var (put l ρ) l q e) ∙ assigned_own l ρ)

-- everything assigned: the clauses decide
pub value_full : (p : List ℤ) (m : List (List ℤ)) (ρ : Assignment) → all_assigned p ρ ≡ true → value p m ρ ≡ all (any ρ) m
unfolding value all_assigned all
value_full [] m ρ h = refl
value_full (q ∷ p) m ρ h = elim (look (assigned ρ q)) [ inl a ↦ rw a (value_full p m ρ (rw a at h)) | inr a ↦ clash (rw a at h) refl ]

-- ---- what is left
-- a literal of another variable leaves what was left
rest_put : (p : List ℤ) (l : ℤ) (ρ : Assignment) → stands p l ≡ false → rest p (put l ρ) ≡ rest p ρ
unfolding rest stands any
rest_put [] l ρ h = refl
rest_put (q ∷ p) l ρ h =
    rw (assigned_other l ρ q (or_fl (eqb (nat_abs l) (nat_abs q)) (stands p l) h), rest_put p l ρ (or_fr (eqb (nat_abs l) (nat_abs q)) (stands p l) h))

pub value_rest : (p : List ℤ) (m : List (List ℤ)) (σ : List ℤ) → twice p ≡ false → value p m (among σ) ≡ truth (rest p (among σ)) m σ
unfolding value rest truth put mem
value_rest [] m σ h = refl
value_rest (q ∷ p) m σ h = elim (look (assigned (among σ) q)) [
  | inl a ↦ rw a (value_rest p m σ (twice_tail q p h))
  | inr a ↦ rw (a, value_rest p m (q ∷ σ) (twice_tail q p h), value_rest p m (neg_ℤ q ∷ σ) (twice_tail q p h), new, opp)
]
  where
    new : rest p (among (q ∷ σ)) ≡ rest p (among σ)
    new = rest_put p q (among σ) (twice_head q p h)

    opp : rest p (among (neg_ℤ q ∷ σ)) ≡ rest p (among σ)
    opp = rest_put p (neg_ℤ q) (among σ) (stands_neg p q ∙ twice_head q p h)

-- what is left depends on which variables are assigned
pub rest_same : (p : List ℤ) (ρ τ : Assignment) → ((x : ℤ) → assigned ρ x ≡ assigned τ x) → rest p ρ ≡ rest p τ
unfolding rest
rest_same [] ρ τ h = refl
rest_same (q ∷ p) ρ τ h = rw (h q, rest_same p ρ τ h)

pub rest_append : (a b : List ℤ) (ρ : Assignment) → rest (a ++ b) ρ ≡ rest a ρ ++ rest b ρ
unfolding rest
rest_append [] b ρ = refl
rest_append (q ∷ a) b ρ = rw (rest_append a b ρ) (go (assigned ρ q))
  where
    go : (t : Bool) → cond t (rest a ρ ++ rest b ρ) (q ∷ (rest a ρ ++ rest b ρ)) ≡ cond t (rest a ρ) (q ∷ rest a ρ) ++ rest b ρ
    go true = refl
    go false = refl

-- nothing is left of what is assigned, and all of what is not
pub rest_set : (p : List ℤ) (ρ : Assignment) → all_assigned p ρ ≡ true → rest p ρ ≡ []
unfolding rest all_assigned all
rest_set [] ρ h = refl
rest_set (q ∷ p) ρ h = elim (look (assigned ρ q)) [ inl a ↦ rw a (rest_set p ρ (rw a at h)) | inr a ↦ clash (rw a at h) refl ]

pub rest_unset : (p : List ℤ) (ρ : Assignment) → ((x : ℤ) → In x p → assigned ρ x ≡ false) → rest p ρ ≡ p
unfolding rest
rest_unset [] ρ h = refl
rest_unset (q ∷ p) ρ h = rw (h q (here refl), rest_unset p ρ (λ x i. h x (there i)))

-- a word of what is left is an unassigned word
pub rest_e : (p : List ℤ) (ρ : Assignment) {x : ℤ} → In x (rest p ρ) → In x p × (assigned ρ x ≡ false)
unfolding rest
rest_e (q ∷ p) ρ {x} i = elim (look (assigned ρ q)) [ inl a ↦ let (j, u) = rest_e p ρ (rw a at i) in (there j, u) | inr a ↦ go a (rw a at i) (rest_e p ρ) ]
  where
    go : assigned ρ q ≡ false → In x (q ∷ rest p ρ) → (In x (rest p ρ) → In x p × (assigned ρ x ≡ false)) → In x (q ∷ p) × (assigned ρ x ≡ false)
    go a (here e) ih = (here e, rw e a)
    go a (there i) ih = let (j, u) = ih i in (there j, u)
rest_e [] ρ {x = x} i = elim i [ ]

pub rest_i : (p : List ℤ) (ρ : Assignment) {x : ℤ} → In x p → assigned ρ x ≡ false → In x (rest p ρ)
unfolding rest
rest_i (q ∷ p) ρ (here e) u = rw (rw e at u) (here e)
rest_i (q ∷ p) ρ (there i) u = elim (look (assigned ρ q)) [ inl a ↦ rw a (rest_i p ρ i u) | inr a ↦ rw a (there (rest_i p ρ i u)) ]
rest_i [] ρ x4 u = elim x4 [ ]

-- ---- a formula under a record
-- the value under a record is the truth of the rest
pub value_under : (F : Formula) → Proper F → (r : Record) → value_of F (true_in r) ≡ true_under F r
value_under F ok r = value_rest F.prefix F.clauses (literals r) ok.once

-- under the empty record the rest is the whole formula
pub under_none : (F : Formula) → true_under F [] ≡ true? F
unfolding true? assigned literals mem
under_none F = rw (rest_unset F.prefix (true_in []) (λ x i. refl))
