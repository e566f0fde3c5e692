-- [truth] From the outermost variable on, with both of its values. σ holds the literals made true so far.
use Rattle.std.specs.Prelude.{Bool, true, false, ◌&&◌, ◌||◌, List, [], ◌∷◌, ℤ, neg_ℤ}
use Rattle.words.specs.Lists.{all, any}
use Rattle.words.specs.Words.{negative, mem}
use Rattle.formula.specs.Formula.{Formula}

-- one of the two for an existential variable (false: its word is not negative), both for a universal one
unfoldable pub asked : Bool → Bool → Bool → Bool
asked false a b = a || b
asked true a b = a && b

unfoldable pub truth : List ℤ → List (List ℤ) → List ℤ → Bool
truth [] m σ = all (any (λ l. mem l σ)) m
truth (q ∷ p) m σ = asked (negative q) (truth p m (q ∷ σ)) (truth p m (neg_ℤ q ∷ σ))

unfoldable pub true? : Formula → Bool
true? F = truth F.prefix F.clauses []
