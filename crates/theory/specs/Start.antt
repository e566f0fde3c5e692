-- The records that a search may start from, and what they leave of the formula.
use Rattle.std.specs.Prelude.{◌≡◌, Bool, true, false, cond, ◌||◌, List, [], ◌∷◌, ℕ, zero, suc, ℤ}
use Rattle.words.specs.Lists.{all}
use Rattle.formula.specs.Formula.{Formula, existential, universal}
use Rattle.formula.specs.Block.{twice}
use Rattle.formula.specs.Truth.{truth}
use Rattle.theory.specs.Record.{Record, literals, Assignment, true_in, assigned}

-- a kind suits a literal: forced, any variable of the prefix; a decision, one of its quantifier; a kind above 2, none
unfoldable pub suits : List ℤ → ℕ → ℤ → Bool
suits p zero l = existential p l || universal p l
suits p (suc zero) l = existential p l
suits p (suc (suc zero)) l = universal p l
suits p (suc (suc (suc k))) l = false

unfoldable pub all_suit : List ℤ → Record → Bool
all_suit p r = all (λ e. suits p e.kind e.literal) r

-- distinct variables of the prefix, each of a kind that suits it
pub record Good (F : Formula) (r : Record) : Type 0 where
  pub distinct : twice (literals r) ≡ false
  pub suited : all_suit F.prefix r ≡ true

-- what is left of a prefix: the words whose variable is unassigned
unfoldable pub rest : List ℤ → Assignment → List ℤ
rest [] ρ = []
rest (q ∷ p) ρ = cond (assigned ρ q) (rest p ρ) (q ∷ rest p ρ)

-- the rest of the formula under a record is true
abbrev pub true_under : Formula → Record → Bool
true_under F r = truth (rest F.prefix (true_in r)) F.clauses (literals r)
