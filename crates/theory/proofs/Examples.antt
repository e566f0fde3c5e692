-- Three formulas, computed, that show why the rules are as they are: a Unit without levels, a Unit on universal literals, and clauses with
-- both signs of a variable would each give a wrong answer.
use Rattle.std.specs.Prelude.{◌≡◌, refl, Bool, true, false, not, ◌&&◌, ◌||◌, List, [], ◌∷◌, ◌++◌, ℕ, suc, ℤ, pos, neg_ℤ}
use Rattle.words.specs.Lists.{In, here, there, all, any}
use Rattle.words.specs.Words.{eq_z, mem}
use Rattle.formula.specs.Formula.{Formula, existential, universal, change, level_of, level, run, first_group}
use Rattle.formula.specs.Truth.{asked, truth, true?}
use Rattle.theory.specs.Record.{entry, Record, literals, Assignment, true_in, assigned, without}
use Rattle.theory.specs.Tests.{unassigned_existential, unassigned_universal, in_conflict, conflict, unit_on, is_open, all_assigned}
use Rattle.theory.specs.Witness.{conflicting, shown_true, signed, witness_of}
use Rattle.theory.specs.Rules.{State, going, valid, unsat, Step, fail, unit, decide_exists, decide_forall, backtrack_forall, succeed, Path, stop, take}

-- the rules and one more: a literal that the test U finds in a clause may be appended, kind 0
data Wider (F : Formula) (U : Assignment → List ℤ → ℤ → Bool) : ℕ → State → State → Type 0 where
  stopped : {s : State} → Wider F U 0 s s
  rule : {n : ℕ} {r : Record} {s t : State} → Step F r s → Wider F U n s t → Wider F U (suc n) (going r) t
  also : {n : ℕ} {r : Record} {t : State} (C : List ℤ) → In C F.clauses → (l : ℤ) → U (true_in r) C l ≡ true
      → Wider F U n (going (r ++ entry 0 l ∷ [])) t → Wider F U (suc n) (going r) t

abbrev p : ℕ → ℤ
p v = pos v

abbrev n : ℕ → ℤ
n v = neg_ℤ (pos v)

-- ---- case I: prefix -1 2, clauses {2,1} {-2,-1}. For each value of 1 the other value of 2 will do
abbrev case_i : Formula
case_i = record { prefix = n 1 ∷ p 2 ∷ []; clauses = (p 2 ∷ p 1 ∷ []) ∷ (n 2 ∷ n 1 ∷ []) ∷ [] }

case_i_true : true? case_i ≡ true
unfolding true? truth asked all any mem eq_z
case_i_true = refl

-- the rules say so, in five
case_i_path : Path case_i 5 (going []) valid
unfolding conflict in_conflict unit_on is_open all_assigned unassigned_existential unassigned_universal existential universal level level_of change assigned literals without all any mem eq_z
case_i_path =
    take (decide_forall refl (p 1) refl refl)
    (take (unit refl (n 2 ∷ n 1 ∷ []) (there (here refl)) (n 2) refl)
    (take (backtrack_forall refl refl [] (entry 0 (n 2) ∷ []) (p 1) refl refl)
    (take (unit refl (p 2 ∷ p 1 ∷ []) (here refl) (p 2) refl)
    (take (succeed refl refl refl) stop))))

-- Unit without the levels, as some slides print it
unit_flat : List ℤ → Assignment → List ℤ → ℤ → Bool
unit_flat q ρ C l = not (any ρ C) && (mem l C && unassigned_existential q ρ l) && all (λ x. not (unassigned_existential q ρ x) || eq_z x l) C

-- makes 2 true before 1 has a value, and then the second clause is in conflict: unsat
case_i_flat : Wider case_i (unit_flat case_i.prefix) 2 (going []) unsat
unfolding unit_flat conflict in_conflict unassigned_existential existential assigned literals without all any mem eq_z
case_i_flat = also (p 2 ∷ p 1 ∷ []) (here refl) (p 2) refl (rule (fail refl refl) stopped)

-- ---- case J: prefix -1 2, clause {1}
abbrev case_j : Formula
case_j = record { prefix = n 1 ∷ p 2 ∷ []; clauses = (p 1 ∷ []) ∷ [] }

case_j_false : true? case_j ≡ false
unfolding true? truth asked all any mem eq_z
case_j_false = refl

-- the rules fail at once
case_j_path : Path case_j 1 (going []) unsat
unfolding conflict in_conflict unassigned_existential existential assigned literals without all any mem eq_z
case_j_path = take (fail refl refl) stop

-- [witness.values] the empty record shows the universal variable as false, against the clause in conflict: as true it would show nothing
case_j_shown : witness_of case_j [] ≡ n 1 ∷ []
unfolding witness_of conflicting shown_true signed first_group run in_conflict unassigned_existential existential assigned literals any mem eq_z
case_j_shown = refl

-- Unit on a literal of either quantifier, tried before the look for a conflict
unit_either : List ℤ → Assignment → List ℤ → ℤ → Bool
unit_either q ρ C l = not (any ρ C) && (mem l C && (unassigned_existential q ρ l || unassigned_universal q ρ l)) && all (λ x. assigned ρ x || eq_z x l) C

-- makes the universal variable true, as if it could be chosen: valid
case_j_either : Wider case_j (unit_either case_j.prefix) 3 (going []) valid
unfolding unit_either conflict in_conflict is_open all_assigned unassigned_existential unassigned_universal existential universal level level_of change assigned literals without all any mem eq_z
case_j_either = also (p 1 ∷ []) (here refl) (p 1) refl (rule (decide_exists refl (p 2) refl refl) (rule (succeed refl refl refl) stopped))

-- ---- both signs in a clause: prefix -1, clause {1,-1}. True, whatever 1 is, yet by [conflict] in conflict at once
abbrev both_in : Formula
both_in = record { prefix = n 1 ∷ []; clauses = (p 1 ∷ n 1 ∷ []) ∷ [] }

both_in_true : true? both_in ≡ true
unfolding true? truth asked all any mem eq_z
both_in_true = refl

-- so the rules would be wrong, and Proper asks that no clause be so
both_in_path : Path both_in 1 (going []) unsat
unfolding conflict in_conflict unassigned_existential existential assigned literals without all any mem eq_z
both_in_path = take (fail refl refl) stop
