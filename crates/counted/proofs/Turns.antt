-- A loop over the clauses and their numbers: before clause c the clauses from c on are left. Each is a part of the words.
use Rattle.std.specs.Prelude.{ℕ, ◌+◌, ◌-◌, ◌≤◌, ◌<◌, ◌≡◌, List, [], ◌∷◌, ℤ, pos, nat_abs, length, get_or, take, drop}
use Rattle.std.proofs.Common.{sym, ◌∙◌, ap, arith, refl, length-take, length-drop}
use mathlib.Core.List.{head-eq_of_cons-eq, tail-eq_of_cons-eq}
use Rattle.words.specs.Laws.Lists.{next}
use Rattle.formula.specs.Formula.{clauses_from}
use Rattle.formula.specs.Laws.Clauses.{clauses_length}
use Rattle.formula.specs.Laws.Ends.{clause_start}
use Rattle.clauses.specs.Inner.Clauses.{Placed}
use Rattle.clauses.specs.declared.in_order.InOrder.{InOrder}
use Rattle.clauses.proofs.Laws.Walk.{placed_part}
use Rattle.counted.proofs.Laws.Lowest.{clause_taken}

-- the clauses that are still to come
abbrev pub left : InOrder → List (List ℤ)
left s = clauses_from s.literals.now s.from s.ends.now

module _ {A : Type 0} (all : List A) (c : ℕ) {rest : List A} (here : rest ≡ drop c all) where
  pub none_more : rest ≡ [] → length all ≤ c
  none_more e = let z : length (drop c all) ≡ 0 = ap length (sym here ∙ e) in omega (arith, length-drop c all)

  module _ {x : A} {after : List A} (e : rest ≡ x ∷ after) where
    pub one_inside : c < length all
    one_inside = let z = ap length (sym here ∙ e) in omega (arith, length-drop c all, z)

    both : get_or all c x ∷ drop (c + 1) all ≡ x ∷ after
    both = sym (next all c x one_inside) ∙ sym here ∙ e

    pub one_is : (d : A) → x ≡ get_or all c d
    one_is d = sym (head-eq_of_cons-eq (sym (next all c d one_inside) ∙ sym here ∙ e))

    pub after_is : after ≡ drop (c + 1) all
    after_is = sym (tail-eq_of_cons-eq both)

-- ---- a clause's words
module _ (es ls : List ℤ) (c : ℕ) (h : c < length es) where
  part : take (nat_abs (get_or es c (pos 0)) - clause_start es c) (drop (clause_start es c) ls) ≡ get_or (clauses_from ls 0 es) c []
  part = clause_taken ls es c (clause_start es c) (nat_abs (get_or es c (pos 0))) h refl refl

  pub clause_placed : Placed ls → Placed (get_or (clauses_from ls 0 es) c [])
  clause_placed p = rw (← part) (placed_part ls (nat_abs (get_or es c (pos 0)) - clause_start es c) (clause_start es c) p)

  pub clause_few : length (get_or (clauses_from ls 0 es) c []) ≤ length ls
  clause_few = rw (← part) (simp (length-take, length-drop) (omega arith))

-- ---- the clause that comes
module _ (es ls : List ℤ) (c : ℕ) {rest after : List (List ℤ)} {C : List ℤ} (here : rest ≡ drop c (clauses_from ls 0 es)) (e : rest ≡ C ∷ after) where
  pub coming_inside : c < length es
  coming_inside = omega (arith, clauses_length ls 0 es, one_inside (clauses_from ls 0 es) c here e)

  pub coming_placed : Placed ls → Placed C
  coming_placed p = rw (one_is (clauses_from ls 0 es) c here e []) (clause_placed es ls c coming_inside p)

  pub coming_few : length C ≤ length ls
  coming_few = rw (one_is (clauses_from ls 0 es) c here e []) (clause_few es ls c coming_inside)
