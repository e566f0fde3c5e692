-- The clauses that are left: of no ends there are none, an end more is a clause more, and there are as many as ends. By the definition.
use Rattle.std.proofs.Common.{◌≡◌, ◌-◌, ℕ, suc, ℤ, List, [], ◌∷◌, length, take, drop, refl, nat_abs, arith, ap}
use Rattle.std.specs.Iterator.{YieldsFirstRef}
use Rattle.std.proofs.lemmas.Iterator.{YieldsList}
use Rattle.std.proofs.lemmas.Iterator.Consumers.{YieldsList-from_first}
use Rattle.formula.specs.declared.each_clause.Clauses.{Clauses}
use Rattle.formula.specs.Formula.{clauses_from}

pub none_left : (ls : List ℤ) (from : ℕ) (es : List ℤ) → length es ≡ 0 → clauses_from ls from es ≡ []
unfolding clauses_from
none_left ls from [] h = refl
none_left ls from (e ∷ es) h = absurd (omega arith)

pub one_left : (ls : List ℤ) (from : ℕ) (es : List ℤ) (e : ℤ) (others : List ℤ) → es ≡ e ∷ others
    → {end n : ℕ} {rest clause : List ℤ} → end ≡ nat_abs e → n ≡ end - from → rest ≡ drop from ls → clause ≡ take n rest
    → clauses_from ls from es ≡ clause ∷ clauses_from ls end others
unfolding clauses_from
one_left ls from es e others is at long after all = rw (is, all, after, long, at)

pub as_many : (ls : List ℤ) (from : ℕ) (es : List ℤ) → length (clauses_from ls from es) ≡ length es
unfolding clauses_from
as_many ls from [] = refl
as_many ls from (e ∷ es) = ap suc (as_many ls (nat_abs e) es)

-- a chain over the clauses runs over that list
pub each_clause : (c : Clauses) (all : List (List ℤ)) → clauses_from c.literals.now c.from c.ends.now ≡ all
    → YieldsList (YieldsFirstRef (λ (s : Clauses). clauses_from s.literals.now s.from s.ends.now)) (λ x. x.now) c all
each_clause c all e = YieldsList-from_first (λ x. x.now) (λ (s : Clauses). clauses_from s.literals.now s.from s.ends.now) all e
