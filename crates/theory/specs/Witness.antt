-- [witness] What the record of an ended search shows: its entries at the outer levels, and values of the first group.
use Rattle.std.specs.Prelude.{Bool, not, cond, List, [], ◌∷◌, ℕ, ltb, ℤ, pos, neg_ℤ, nat_abs, take, drop}
use Rattle.words.specs.Words.{mem}
use Rattle.formula.specs.Formula.{Formula, level, first_group}
use Rattle.theory.specs.Record.{Record, Assignment, true_in, assigned}
use Rattle.theory.specs.Tests.{in_conflict}

-- [group.first] the first group, and the prefix after it
abbrev pub group_of : Formula → List ℤ
group_of F = take (first_group F.prefix) F.prefix

abbrev pub rest_of : Formula → List ℤ
rest_of F = drop (first_group F.prefix) F.prefix

-- [witness.levels] the entries of a record at the levels below j
unfoldable pub below : List ℤ → ℕ → Record → Record
below p j [] = []
below p j (e ∷ r) = cond (ltb (level p e.literal) j) (e ∷ below p j r) (below p j r)

-- [witness.values] the lowest clause in conflict; without one, a clause of no literals
unfoldable pub conflicting : List ℤ → List (List ℤ) → Assignment → List ℤ
conflicting p [] ρ = []
conflicting p (C ∷ m) ρ = cond (in_conflict p ρ C) C (conflicting p m ρ)

-- [witness.values] whether the variable of q is shown as true: as it is assigned; unassigned, against the clause C
unfoldable pub shown_true : Assignment → List ℤ → ℤ → Bool
shown_true ρ C q = cond (assigned ρ q) (ρ (pos (nat_abs q))) (not (mem (pos (nat_abs q)) C))

-- a word's variable, true or false as s says, and those of a group, in order
abbrev pub signed_as : (ℤ → Bool) → ℤ → ℤ
signed_as s q = cond (s q) (pos (nat_abs q)) (neg_ℤ (pos (nat_abs q)))

unfoldable pub signed : (ℤ → Bool) → List ℤ → List ℤ
signed s [] = []
signed s (q ∷ g) = signed_as s q ∷ signed s g

-- [witness.values] the values of the first group that a record shows
unfoldable pub witness_of : Formula → Record → List ℤ
witness_of F r = signed (shown_true (true_in r) (conflicting F.prefix F.clauses (true_in r))) (group_of F)
