-- The laws of a forced literal: the formula is worth the same with it. Unit: above the literal's variable nothing touches the clause, since
-- its other unassigned literals are universal and deeper; at the variable the opposite leaves a clause in conflict. Monotone: no clause
-- that lacks a true literal needs the opposite of an existential literal, or a universal literal itself.
use Rattle.std.specs.Prelude.{◌≡◌, refl, ◌⊎◌, true, false, List, [], ◌∷◌, ℤ, neg_ℤ, nat_abs}
use Rattle.std.proofs.Common.{sym, ◌∙◌, ap, inl, inr, arith}
use Rattle.words.specs.Laws.Bools.{clash, look, to_false, eqb_i}
use Rattle.words.specs.Lists.{In, any}
use Rattle.words.specs.Laws.Lists.{all_e, all_i, any_f, any_none, any_more}
use Rattle.words.specs.Words.{negative}
use Rattle.words.specs.Laws.Words.{own_opposite}
use Rattle.formula.specs.Formula.{Formula, existential, universal}
use Rattle.formula.specs.Block.{both_signs}
use Rattle.formula.specs.Proper.{Proper}
use Rattle.formula.specs.Laws.Prefix.{stands_bound, existential_var, existential_stands, existential_universal, existential_named, universal_var, level_var, both_signs_lem, Ordered, ordered}
use Rattle.formula.specs.Truth.{asked}
use Rattle.theory.specs.Record.{Assignment, assigned}
use Rattle.theory.specs.Tests.{unassigned_existential}
use Rattle.theory.proofs.Laws.Assignment.{put_new, put_old, put_e, assigned_var, assigned_own, assigned_put, assigned_other, assigned_sign}
use Rattle.theory.specs.Grown.{put}
use Rattle.theory.proofs.Laws.Asked.{asked_first, asked_more}
use Rattle.theory.proofs.Laws.Value.{value, value_of, value_set, value_ask}
use Rattle.theory.proofs.Laws.Tested.{unassigned_existential_e, unassigned_existential_i, unassigned_universal_i, unassigned_existential_put, unassigned_universal_put, untrue_put, true_put, absent_put, monotone_stands}
use Rattle.theory.specs.Met.{Dead, UnitAt, Absent, MonotoneAt}
use Rattle.theory.proofs.Laws.Decide.{Above, descend}
use Rattle.theory.proofs.Laws.Conflict.{dead_false}

-- where l's variable is asked for, its opposite adds nothing
abbrev OneSided : List ℤ → List (List ℤ) → ℤ → List ℤ → Assignment → Type 0
OneSided P m l p ρ = asked (universal P l) (value p m (put l ρ)) (value p m (put (neg_ℤ l) ρ)) ≡ value p m (put l ρ)

-- ---- unit
module _ (P : List ℤ) (C : List ℤ) (l : ℤ) where
  -- a literal above l leaves the clause a unit: it is not in the clause
  pub unit_put : (ρ : Assignment) (q y : ℤ) → Above P l ρ q y → UnitAt P C l ρ → UnitAt P C l (put y ρ)
  unit_put ρ q y v r = record {
    untrue = untrue_put C y ρ (out (stands_bound P q v.bound)) r.untrue;
    inside = r.inside;
    exists = r.exists;
    unset = assigned_other y ρ l (rw v.own v.apart) ∙ r.unset;
    only = λ x i h. r.only x i (unassigned_existential_put P y ρ x h);
    deeper = λ x i h. r.deeper x i (unassigned_universal_put P y ρ x h);
  }
    where
      ay : assigned ρ y ≡ false
      ay = assigned_var ρ y q v.own ∙ v.unset

      -- an existential one would be l, a universal one deeper than l
      out : (existential P q ≡ true) ⊎ (universal P q ≡ true) → In y C → ⊥
      out (inl h) i = clash (eqb_i (sym v.own ∙ ap nat_abs (r.only y i (unassigned_existential_i P ρ y (existential_var P y q v.own ∙ h) ay)))) v.apart
      out (inr h) i =
          let k = r.deeper y i (unassigned_universal_i P ρ y (universal_var P y q v.own ∙ h) ay) in
          let e = level_var P y q v.own in
          let g = v.higher in omega arith

  -- l's opposite leaves it dead. Here too `plain` is used: l's opposite is not in the clause
  unit_dead : both_signs C ≡ false → (nat_abs l ≡ 0 → ⊥) → (ρ : Assignment) → UnitAt P C l ρ → Dead P (put (neg_ℤ l) ρ) C
  unit_dead plain named ρ r = record {
    untrue = untrue_put C (neg_ℤ l) ρ (λ i. named (own_opposite l (both_signs_lem C plain l r.inside i))) r.untrue;
    helpless = any_f (unassigned_existential P (put (neg_ℤ l) ρ)) C (λ x i. to_false _ (λ h. clash (set x (r.only x i (unassigned_existential_put P (neg_ℤ l) ρ x h))) (unassigned_existential_e P (put (neg_ℤ l) ρ) x h).1));
  }
    where
      set : (x : ℤ) → x ≡ l → assigned (put (neg_ℤ l) ρ) x ≡ true
      set x e = rw e (assigned_sign l ρ l ∙ assigned_own l ρ)

-- ---- monotone
-- a literal above l leaves it monotone: more clauses have a true literal
pub monotone_put : (P : List ℤ) (m : List (List ℤ)) (l : ℤ) (ρ : Assignment) (q y : ℤ) → Above P l ρ q y → MonotoneAt P m l ρ → MonotoneAt P m l (put y ρ)
monotone_put P m l ρ q y v r = record {
  unset = assigned_other y ρ l (rw v.own v.apart) ∙ r.unset;
  spare = elim r.spare [ inl k ↦ inl (k.0, absent_put m (neg_ℤ l) y ρ k.1) | inr k ↦ inr (k.0, absent_put m l y ρ k.1) ];
}

-- τ makes true each clause that ρ makes true
abbrev Serves : List (List ℤ) → Assignment → Assignment → Type 0
Serves m ρ τ = (C : List ℤ) → In C m → (any τ C ≡ true) ⊎ ((x : ℤ) → In x C → ρ x ≡ true → τ x ≡ true)

serves_put : (m : List (List ℤ)) (ρ τ : Assignment) (y : ℤ) → Serves m ρ τ → Serves m (put y ρ) (put y τ)
serves_put m ρ τ y h C i = elim (h C i) [
  | inl e ↦ inl (true_put C y τ e)
  | inr f ↦ inr (λ x j e. elim (put_e y x ρ e) [ inl z ↦ rw z (put_new y τ) | inr z ↦ put_old y x τ (f x j z) ])
]

-- then it will do in its place, if it assigns the same variables
serves_value : (m : List (List ℤ)) (p : List ℤ) (ρ τ : Assignment) → ((x : ℤ) → assigned ρ x ≡ assigned τ x) → Serves m ρ τ → value p m ρ ≡ true → value p m τ ≡ true
unfolding value
serves_value m [] ρ τ ha hs v = all_i (any τ) m (λ C i. elim (hs C i) [ inl e ↦ e | inr f ↦ any_more ρ τ C f (all_e (any ρ) m v i) ])
serves_value m (q ∷ p) ρ τ ha hs v = elim (look (assigned ρ q)) [
  | inl a ↦ value_set q p m τ (sym (ha q) ∙ a) ∙ serves_value m p ρ τ ha hs (sym (value_set q p m ρ a) ∙ v)
  | inr a ↦ value_ask q p m τ (sym (ha q) ∙ a) ∙ asked_more (negative q) _ _ _ _
      (serves_value m p (put q ρ) (put q τ) (both q) (serves_put m ρ τ q hs))
      (serves_value m p (put (neg_ℤ q) ρ) (put (neg_ℤ q) τ) (both (neg_ℤ q)) (serves_put m ρ τ (neg_ℤ q) hs))
      (sym (value_ask q p m ρ a) ∙ v)
]
  where
    both : (y x : ℤ) → assigned (put y ρ) x ≡ assigned (put y τ) x
    both y x = rw (assigned_put y ρ x, assigned_put y τ x, ha x)

-- a literal that no clause needs may give way to another of its variable
give_way : (m : List (List ℤ)) (p : List ℤ) (ρ : Assignment) (a b : ℤ) → ((x : ℤ) → assigned (put a ρ) x ≡ assigned (put b ρ) x) → Absent m a ρ
    → value p m (put a ρ) ≡ true → value p m (put b ρ) ≡ true
give_way m p ρ a b ha h = serves_value m p (put a ρ) (put b ρ) ha serves
  where
    serves : Serves m (put a ρ) (put b ρ)
    serves C i = elim (h C i) [
      | inl e ↦ inl (true_put C b ρ e)
      | inr f ↦ inr (λ x j e. elim (put_e a x ρ e) [ inl z ↦ absurd (f (rw z at j)) | inr z ↦ put_old b x ρ z ])
    ]

module _ (F : Formula) (ok : Proper F) (ρ : Assignment) where
  -- unit
  pub unit_law : (C : List ℤ) → In C F.clauses → (l : ℤ) → UnitAt F.prefix C l ρ → value_of F ρ ≡ value_of F (put l ρ)
  unit_law C i l r =
      descend F.prefix F.clauses l (λ x y. x) (UnitAt F.prefix C l) (unit_put F.prefix C l) (λ τ q v t x y z w. refl) met
      F.prefix (ordered ok) (existential_stands F.prefix l r.exists) ρ r.unset r
    where
      plain : both_signs C ≡ false
      plain = any_none both_signs F.clauses ok.plain i

      met : (τ : Assignment) (p : List ℤ) → Ordered F.prefix p → UnitAt F.prefix C l τ → OneSided F.prefix F.clauses l p τ
      met τ p o t =
          let d = unit_dead F.prefix C l plain (existential_named ok l t.exists) τ t in
          asked_first (universal F.prefix l) _ _
          (λ b e. clash e (dead_false F.prefix F.clauses C i plain p o (put (neg_ℤ l) τ) d))
          (λ b. clash b (existential_universal ok l t.exists))

  -- monotone
  pub monotone_law : (l : ℤ) → MonotoneAt F.prefix F.clauses l ρ → value_of F ρ ≡ value_of F (put l ρ)
  monotone_law l r =
      descend F.prefix F.clauses l (λ x y. x) (MonotoneAt F.prefix F.clauses l) (monotone_put F.prefix F.clauses l) (λ τ q v t x y z w. refl) met
      F.prefix (ordered ok) (monotone_stands F.prefix F.clauses l ρ r) ρ r.unset r
    where
      met : (τ : Assignment) (p : List ℤ) → Ordered F.prefix p → MonotoneAt F.prefix F.clauses l τ → OneSided F.prefix F.clauses l p τ
      met τ p o t = elim t.spare [
        | inl k ↦ asked_first (universal F.prefix l) _ _
            (λ b. give_way F.clauses p τ (neg_ℤ l) l (assigned_sign l τ) k.1)
            (λ b. clash b (existential_universal ok l k.0))
        | inr k ↦ asked_first (universal F.prefix l) _ _
            (λ b. clash k.0 b)
            (λ b. give_way F.clauses p τ l (neg_ℤ l) (λ x. sym (assigned_sign l τ x)) k.1)
      ]
