-- The record at which a search ends shows why: of its entries, those at the outer levels alone leave the rest of the formula with the answer, and
-- the values that it shows for the first group do. From the invariant, which says how each entry was placed.
use Rattle.std.specs.Prelude.{◌≡◌, Bool, false, ℕ}
use Rattle.std.proofs.Math.Path.{refl, sym, ap}
use Rattle.std.proofs.Common.{◌∙◌, inl, inr}
use Rattle.std.proofs.Math.Bool.{true}
use mathlib.Core.List.{List, [], ◌∷◌, ◌++◌, append-nil}
use Rattle.std.proofs.Math.IntN.{ℤ}
use Rattle.words.specs.Laws.Bools.{clash, look}
use Rattle.words.specs.Lists.{In, here, there, all, any}
use Rattle.words.specs.Laws.Lists.{any_i, any_none}
use Rattle.formula.specs.Formula.{Formula}
use Rattle.formula.specs.Block.{both_signs}
use Rattle.formula.specs.Proper.{Proper}
use Rattle.formula.specs.Truth.{truth}
use Rattle.theory.specs.Record.{Record, Assignment, true_in, without, forced}
use Rattle.theory.specs.Tests.{in_conflict, conflict}
use Rattle.theory.specs.Rules.{going, valid, unsat, verdict, MonotoneTest, Within, StepBy, fail, succeed, PathBy}
use Rattle.theory.specs.Start.{true_under}
use Rattle.theory.specs.Witness.{group_of, rest_of, below, conflicting, shown_true, signed, witness_of}
use Rattle.theory.proofs.Laws.Assignment.{true_append}
use Rattle.theory.specs.Grown.{after}
use Rattle.theory.proofs.Laws.Value.{value_rest, value_under, value_of}
use Rattle.theory.proofs.Laws.Tested.{dead_e, dead_i}
use Rattle.theory.proofs.Laws.Conflict.{conflict_law, leaf_law}
use Rattle.theory.proofs.Laws.Invariant.{Carried, flipped, invariant_start, holds_path}
use Rattle.theory.proofs.Laws.Moves.{good_none, good_path}
use Rattle.theory.proofs.Laws.Below.{Fresh, no_more, leave_out}
use Rattle.theory.proofs.Laws.Group.{rest_group, signed_stands}
use Rattle.theory.proofs.Laws.Completed.{completion, completion_fresh, completion_none, completion_dead, completion_low, shown_among}

-- the lowest clause in conflict is one
conflicting_e : (p : List ℤ) (m : List (List ℤ)) (ρ : Assignment) → any (in_conflict p ρ) m ≡ true → In (conflicting p m ρ) m × (in_conflict p ρ (conflicting p m ρ) ≡ true)
unfolding conflicting any
conflicting_e p [] ρ h = clash h refl
conflicting_e p (C ∷ m) ρ h = elim (look (in_conflict p ρ C)) [ inl e ↦ rw e (here refl, e) | inr e ↦ let (i, d) = conflicting_e p m ρ (rw e at h) in rw e (there i, d) ]

-- and what completes the record leaves it so
still_conflict : (F : Formula) → Proper F → (r : Record) → conflict F.prefix F.clauses (true_in r) ≡ true
    → conflict F.prefix F.clauses (true_in (r ++ completion F r (conflicting F.prefix F.clauses (true_in r)))) ≡ true
unfolding conflict
still_conflict F ok r h =
    let C = conflicting F.prefix F.clauses (true_in r) in
    let (i, d) = conflicting_e F.prefix F.clauses (true_in r) h in
    let k = completion_dead F ok r C (any_none both_signs F.clauses ok.plain i) (dead_e F.prefix (true_in r) C d) in
    rw (true_append r (completion F r C)) (any_i (in_conflict F.prefix (after (true_in r) (completion F r C))) i (dead_i F.prefix (after (true_in r) (completion F r C)) C k))

module _ {μ : MonotoneTest} (within : Within μ) (F : Formula) (ok : Proper F) {n : ℕ} {r : Record} (p : PathBy μ F n (going []) (going r)) where
  -- how its entries were placed
  placed : Carried F (true_in []) r
  unfolding forced all
  placed = let i = holds_path F [] within ok refl (invariant_start F []) p in rw (← i.whole) at i.carried

  -- its entries below j and more that are fresh, if the record is worth v with them and without them
  shows : (v : Bool) (j : ℕ) (c : Record) → below F.prefix j c ≡ c → Fresh F.prefix (true_in r) c → without (flipped v) r ≡ true
      → value_of F (true_in r) ≡ v → value_of F (true_in (r ++ c)) ≡ v → value_of F (true_in (below F.prefix j (r ++ c))) ≡ v
  shows v j c low f h w u =
      ap (value_of F) (true_append [] (below F.prefix j (r ++ c)))
      ∙ leave_out F ok j v c low (true_in []) r placed (rw (true_append [] r) at f) h (rw (← true_append [] r) w) (rw (← true_append [] (r ++ c)) u)

  -- [witness.levels] the entries below any level are worth the answer
  pub witness : (b : Bool) → StepBy μ F r (verdict b) → (j : ℕ) → true_under F (below F.prefix j r) ≡ b
  unfolding below
  witness b s j = sym (value_under F ok (below F.prefix j r)) ∙ go b s
    where
      alone : (v : Bool) → without (flipped v) r ≡ true → value_of F (true_in r) ≡ v → value_of F (true_in (below F.prefix j r)) ≡ v
      alone v h w = rw (append-nil r) at (shows v j [] refl no_more h w (rw (append-nil r) w))

      go : (b : Bool) → StepBy μ F r (verdict b) → value_of F (true_in (below F.prefix j r)) ≡ b
      go true (succeed q f h) = alone true h (leaf_law F (true_in r) q f)
      go false (fail c h) = alone false h (conflict_law F (true_in r) ok c)

  -- [witness] the values that it shows for the first group are worth the answer
  pub shown : (b : Bool) → StepBy μ F r (verdict b) → truth (rest_of F) F.clauses (witness_of F r) ≡ b
  unfolding witness_of
  shown b s =
      rw (rest_group F ok vs (signed_stands (shown_true (true_in r) C) (group_of F))) at (
      sym (value_rest F.prefix F.clauses vs ok.once)
      ∙ ap (value_of F) (shown_among F ok r C (good_path within F (good_none F) p))
      ∙ go b s
      )
    where
      C : List ℤ
      C = conflicting F.prefix F.clauses (true_in r)

      c : Record
      c = completion F r C

      vs : List ℤ
      vs = signed (shown_true (true_in r) C) (group_of F)

      go : (b : Bool) → StepBy μ F r (verdict b) → value_of F (true_in (below F.prefix 1 (r ++ c))) ≡ b
      go true (succeed q f h) =
          let w = leaf_law F (true_in r) q f in
          shows true 1 c (completion_low F ok r C) (completion_fresh F ok r C) h w (rw (completion_none F ok r C f, append-nil r) w)
      go false (fail k h) =
          let w = conflict_law F (true_in r) ok k in
          shows false 1 c (completion_low F ok r C) (completion_fresh F ok r C) h w (conflict_law F (true_in (r ++ c)) ok (still_conflict F ok r k))

  -- [witness.opening] valid: they make the rest true
  pub opening : StepBy μ F r valid → truth (rest_of F) F.clauses (witness_of F r) ≡ true
  opening s = shown true s

  -- [witness.counter] unsat: they make the rest false
  pub counter : StepBy μ F r unsat → truth (rest_of F) F.clauses (witness_of F r) ≡ false
  counter s = shown false s
