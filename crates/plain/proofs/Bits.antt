-- A chain over clauses whose ends are in order runs over the list of them; and a literal is a value if it is the newest or one of the others.
use Rattle.std.specs.Prelude.{◌≡◌, refl, true, false, List, [], ◌∷◌, ℤ, length}
use Rattle.std.proofs.Common.{sym, arith}
use Rattle.std.specs.Iterator.{YieldsFirstRef}
use Rattle.std.proofs.lemmas.Iterator.{YieldsList}
use Rattle.std.proofs.lemmas.Iterator.Consumers.{YieldsList-from_first}
use Rattle.words.specs.Words.{mem}
use Rattle.words.specs.Laws.Words.{eq_z_refl, eq_z_ne}
use Rattle.clauses.specs.declared.in_order.InOrder.{InOrder}
use Rattle.formula.specs.Formula.{clauses_from}

pub each_in_order : (c : InOrder) (all : List (List ℤ)) → clauses_from c.literals.now c.from c.ends.now ≡ all
    → YieldsList (YieldsFirstRef (λ (s : InOrder). clauses_from s.literals.now s.from s.ends.now)) (λ x. x.now) c all
each_in_order c all e = YieldsList-from_first (λ x. x.now) (λ (s : InOrder). clauses_from s.literals.now s.from s.ends.now) all e

module _ (l : ℤ) where
  pub no_value : (σ : List ℤ) → length σ ≡ 0 → false ≡ mem l σ
  unfolding mem
  no_value [] e = refl
  no_value (x ∷ σ) e = absurd (omega (arith, e))

  module _ (newest : ℤ) (others σ : List ℤ) (is : σ ≡ newest ∷ others) where
    pub newest_value : newest ≡ l → true ≡ mem l σ
    unfolding mem
    newest_value e = rw (is, e, eq_z_refl l) refl

    pub other_value : (newest ≡ l → ⊥) → mem l others ≡ mem l σ
    unfolding mem
    other_value k = rw (is, eq_z_ne {x = l} {y = newest} (λ e. k (sym e))) refl
