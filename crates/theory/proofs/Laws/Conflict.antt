-- The laws of a record that is decided by its clauses. Conflict: a clause in conflict makes the formula false, since on the way down its
-- universal literals can be set against it. Leaf: with everything assigned and no clause in conflict the formula is true.
use Rattle.std.specs.Prelude.{◌≡◌, false, not, List, [], ◌∷◌, ℤ, neg_ℤ}
use Rattle.std.proofs.Common.{◌∙◌, ap, inl, inr}
use Rattle.std.proofs.Math.Bool.{true}
use Rattle.words.specs.Laws.Bools.{clash, look, to_false}
use Rattle.words.specs.Lists.{In, any}
use Rattle.words.specs.Laws.Lists.{all_e, all_i, any_i, any_e, any_f, any_none, all_f}
use Rattle.words.specs.Words.{negative, mem}
use Rattle.words.specs.Laws.Words.{mem_i, mem_e, own_opposite, negative_named}
use Rattle.formula.specs.Formula.{Formula, existential}
use Rattle.formula.specs.Block.{both_signs}
use Rattle.formula.specs.Proper.{Proper}
use Rattle.formula.specs.Laws.Prefix.{stands_e, existential_neg, existential_stands, both_signs_lem, Ordered, more, ordered}
use Rattle.theory.specs.Record.{Assignment, assigned}
use Rattle.theory.specs.Tests.{unassigned_existential, in_conflict, conflict, all_assigned}
use Rattle.theory.proofs.Laws.Assignment.{assigned_neg, assigned_var}
use Rattle.theory.specs.Grown.{put}
use Rattle.theory.proofs.Laws.Value.{value, value_of, value_set, value_ask, value_full}
use Rattle.theory.proofs.Laws.Asked.{asked_false, asked_both_false}
use Rattle.theory.proofs.Laws.Tested.{unassigned_existential_e, unassigned_existential_i, dead_e, dead_i, dead_put}
use Rattle.theory.specs.Met.{Dead}

-- a dead clause, down the prefix. Here `plain` is used: at a universal variable the clause does not have both literals, so one of them sets
-- nothing in it
pub dead_false : (P : List ℤ) (m : List (List ℤ)) (C : List ℤ) → In C m → both_signs C ≡ false
    → (p : List ℤ) → Ordered P p → (ρ : Assignment) → Dead P ρ C → value p m ρ ≡ false
unfolding value
dead_false P m C in_c plain [] o ρ d = all_f (any ρ) m in_c d.untrue
dead_false P m C in_c plain (q ∷ p) (more f u e s o) ρ d = elim (look (assigned ρ q)) [
  | inl a ↦ value_set q p m ρ a ∙ dead_false P m C in_c plain p o ρ d
  | inr a ↦ value_ask q p m ρ a ∙ elim (look (negative q)) [
    | inl n ↦ rw n (elim (look (mem q C)) [
      | inl t ↦ asked_false _ _ (inr (dead_false P m C in_c plain p o (put (neg_ℤ q) ρ) (dead_put P C (neg_ℤ q) ρ (no_opposite n t) d)))
      | inr t ↦ asked_false _ _ (inl (dead_false P m C in_c plain p o (put q ρ) (dead_put P C q ρ (λ i. clash (mem_i i) t) d)))
    ])
    | inr n ↦ asked_both_false (negative q) _ _
        (dead_false P m C in_c plain p o (put q ρ) (dead_put P C q ρ (out q (e ∙ ap not n) a) d))
        (dead_false P m C in_c plain p o (put (neg_ℤ q) ρ) (dead_put P C (neg_ℤ q) ρ (out (neg_ℤ q) (existential_neg P q ∙ e ∙ ap not n) (assigned_neg ρ q ∙ a)) d))
  ]
]
  where
    no_opposite : negative q ≡ true → mem q C ≡ true → In (neg_ℤ q) C → ⊥
    no_opposite n t i = negative_named q n (own_opposite q (both_signs_lem C plain q (mem_e q C t) i))

    -- an unassigned existential literal is not in the clause
    out : (x : ℤ) → existential P x ≡ true → assigned ρ x ≡ false → In x C → ⊥
    out x ex a i = clash (any_i (unassigned_existential P ρ) i (unassigned_existential_i P ρ x ex a)) d.helpless

module _ (F : Formula) (ρ : Assignment) where
  -- conflict
  pub conflict_law : Proper F → conflict F.prefix F.clauses ρ ≡ true → value_of F ρ ≡ false
  unfolding conflict
  conflict_law ok h =
      let (C, i, d) = any_e (in_conflict F.prefix ρ) F.clauses h in
      dead_false F.prefix F.clauses C i (any_none both_signs F.clauses ok.plain i) F.prefix (ordered ok) ρ (dead_e F.prefix ρ C d)

  -- leaf
  pub leaf_law : conflict F.prefix F.clauses ρ ≡ false → all_assigned F.prefix ρ ≡ true → value_of F ρ ≡ true
  unfolding conflict all_assigned
  leaf_law hc hf = value_full F.prefix F.clauses ρ hf ∙ all_i (any ρ) F.clauses each
    where
      -- an existential literal is assigned, since its variable stands in the prefix
      set : (x : ℤ) → existential F.prefix x ≡ true → assigned ρ x ≡ true
      set x e = let (w, i, z) = stands_e F.prefix x (existential_stands F.prefix x e) in assigned_var ρ x w z ∙ all_e (assigned ρ) F.prefix hf i

      each : (C : List ℤ) → In C F.clauses → any ρ C ≡ true
      each C i = elim (look (any ρ C)) [ inl e ↦ e | inr e ↦ clash (any_i (in_conflict F.prefix ρ) i (dead_i F.prefix ρ C (dead e))) hc ]
        where
          dead : any ρ C ≡ false → Dead F.prefix ρ C
          dead e = record { untrue = e; helpless = any_f (unassigned_existential F.prefix ρ) C (λ x j. to_false _ (λ t. let u = unassigned_existential_e F.prefix ρ x t in clash (set x u.0) u.1)) }
