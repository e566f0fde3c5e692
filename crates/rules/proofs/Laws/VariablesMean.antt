-- What the search for a monotone variable by the tables means: the signs of a variable are those with which it occurs.
use Rattle.words.specs.declared.Literal.{Literal}
use Rattle.std.specs.Prelude.{ℕ, zero, suc, ◌+◌, ◌-◌, ◌≤◌, ◌≡◌, Bool, ◌&&◌, ◌||◌, List, ℤ, pos, negsuc, neg_ℤ, nat_abs, length, get_or, Option, Some, None}
use Rattle.std.proofs.Math.Path.{refl}
use Rattle.std.proofs.Common.{◌∙◌, ap, le_trans, arith}
use Rattle.std.proofs.Math.Bool.{true, false, cond, not, or-false, or_comm}
use Rattle.std.proofs.Math.Dec.{eqb}
use Rattle.words.specs.Lists.{In}
use Rattle.words.specs.Laws.Words.{mem_i, nat_abs_neg, negneg}
use Rattle.formula.specs.Limits.{limits, max_variables}
use Rattle.formula.specs.Laws.Limits.{variables_are}
use Rattle.formula.specs.Formula.{existential, universal}
use Rattle.formula.specs.Laws.Named.{in_named}
use Rattle.formula.specs.Inner.Places.{place_of}
use Rattle.formula.specs.Laws.Places.{word_place, place_plus, place_minus}
use Rattle.formula.specs.Laws.Prefix.{one_sign_lem}
use Rattle.theory.specs.Record.{Assignment, assigned}
use Rattle.theory.specs.Tests.{unassigned_existential, unassigned_universal, one_sign, monotone, occurs}
use Rattle.record.specs.Found.{literal}
use Rattle.choice.specs.First.{first_of}
use Rattle.choice.specs.Laws.Searches.{first_same}
use Rattle.choice.specs.Laws.VariablesMean.{assigned_in_lem}
use Rattle.rules.specs.Due.{first_monotone}
use Rattle.record.specs.Inner.Tables.{Values}
use Rattle.rules.specs.Inner.Occurrences.{Occurring}
use Rattle.rules.specs.Inner.Variables.{signs_in, by_signs, monotone_in}
use Rattle.rules.specs.declared.by_literal.Signs.TheVariants.{Neither, Positive, Negative, Both}
use Rattle.record.specs.Inner.Ready.{Bound}

-- ---- signs
module _ (m : List (List ℤ)) (table : List ℕ) (said : Occurring m table) (v : ℕ) (h : v ≤ limits.variables) where
  plus : get_or table (max_variables + v) 0 ≡ cond (occurs m (pos v)) 1 0
  plus = rw (← variables_are, ← place_plus v) (said (place_of (pos v)) ∙ ap (λ x. cond (occurs m x) 1 0) (word_place (pos v) h))

  minus : get_or table (max_variables - v) 0 ≡ cond (occurs m (neg_ℤ (pos v))) 1 0
  minus = let l : nat_abs (neg_ℤ (pos v)) ≤ limits.variables = rw (nat_abs_neg (pos v)) h in rw (← variables_are, ← place_minus v) (said (place_of (neg_ℤ (pos v))) ∙ ap (λ x. cond (occurs m x) 1 0) (word_place (neg_ℤ (pos v)) l))

  -- so with one sign only it takes that literal, or the opposite
  pub taken_by : (q : ℤ) → by_signs (signs_in table v) q ≡ cond (one_sign m (pos v)) (Some (literal q)) (cond (one_sign m (neg_ℤ (pos v))) (Some (literal (neg_ℤ q))) None)
  unfolding one_sign
  taken_by q = rw (plus, minus, negneg (pos v)) (go (occurs m (pos v)) (occurs m (neg_ℤ (pos v))))
    where
      go : (a b : Bool) → by_signs (cond (eqb (cond b 1 0) 0) (cond (eqb (cond a 1 0) 0) Neither Positive) (cond (eqb (cond a 1 0) 0) Negative Both)) q ≡ cond (a && not b) (Some (literal q)) (cond (b && not a) (Some (literal (neg_ℤ q))) None)
      go true true = refl
      go true false = refl
      go false true = refl
      go false false = refl

-- ---- Monotone: a word of the prefix and its opposite
module _ (p : List ℤ) (b : Bound p) (m : List (List ℤ)) (ρ : Assignment) where
  pub monotone_own : (q : ℤ) → In q p → monotone p m ρ q ≡ (not (assigned ρ q) && one_sign m (pos (nat_abs q)))
  unfolding monotone unassigned_existential unassigned_universal existential universal
  monotone_own (pos zero) i = absurd (let k = in_named (length p) p b.binds.named i in omega (arith, k.some))
  monotone_own (pos (suc n)) i =
      rw (mem_i i, one_sign_lem p b.binds.once i (omega arith))
      (or-false (not (assigned ρ (pos (suc n))) && one_sign m (pos (suc n))))
  monotone_own (negsuc n) i = rw (mem_i i, one_sign_lem p b.binds.once i (omega arith))

  pub monotone_opposite : (q : ℤ) → In q p → monotone p m ρ (neg_ℤ q) ≡ (not (assigned ρ q) && one_sign m (neg_ℤ (pos (nat_abs q))))
  unfolding monotone unassigned_existential unassigned_universal existential universal assigned
  monotone_opposite (pos zero) i = absurd (let k = in_named (length p) p b.binds.named i in omega (arith, k.some))
  monotone_opposite (pos (suc n)) i =
      rw (mem_i i, one_sign_lem p b.binds.once i (omega arith), or_comm (ρ (negsuc n)) (ρ (pos (suc n))))
      (or-false (not (ρ (pos (suc n)) || ρ (negsuc n)) && one_sign m (negsuc n)))
  monotone_opposite (negsuc n) i = rw (mem_i i, one_sign_lem p b.binds.once i (omega arith), or_comm (ρ (negsuc n)) (ρ (pos (suc n))))

  pub monotone_means : (values occurs : List ℕ) → Values ρ values → Occurring m occurs → first_of (monotone_in values occurs) p ≡ first_monotone p m ρ
  unfolding first_monotone monotone_in
  monotone_means values occurs vals occ = first_same _ _ p each
    where
      go : (a x y : Bool) (A B : Option Literal) → cond a None (cond x A (cond y B None)) ≡ cond (not a && x) A (cond (not a && y) B None)
      go true x y A B = refl
      go false x y A B = refl

      each : (q : ℤ) → In q p → monotone_in values occurs q ≡ cond (monotone p m ρ q) (Some (literal q)) (cond (monotone p m ρ (neg_ℤ q)) (Some (literal (neg_ℤ q))) None)
      each q i =
          let small : nat_abs q ≤ limits.variables = le_trans (in_named (length p) p b.binds.named i).most b.room in
          rw (assigned_in_lem ρ values vals q, monotone_own q i, monotone_opposite q i, taken_by m occurs occ (nat_abs q) small q)
          (go (assigned ρ q) _ _ (Some (literal q)) (Some (literal (neg_ℤ q))))
