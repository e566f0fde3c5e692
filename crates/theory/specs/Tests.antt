-- The tests that the rules make of a clause, of a literal and of a record. p is the prefix, m the clauses, ρ says which literals are true.
use Rattle.std.specs.Prelude.{Bool, not, cond, ◌&&◌, ◌||◌, List, [], ◌∷◌, leb, ltb, ℤ, neg_ℤ}
use Rattle.words.specs.Lists.{any, all}
use Rattle.words.specs.Words.{eq_z, mem}
use Rattle.formula.specs.Formula.{existential, universal, level}
use Rattle.theory.specs.Record.{Assignment, assigned}

-- an unassigned existential literal, an unassigned universal literal
unfoldable pub unassigned_existential : List ℤ → Assignment → ℤ → Bool
unassigned_existential p ρ x = existential p x && not (assigned ρ x)

unfoldable pub unassigned_universal : List ℤ → Assignment → ℤ → Bool
unassigned_universal p ρ x = universal p x && not (assigned ρ x)

-- [conflict] a clause in conflict
unfoldable pub in_conflict : List ℤ → Assignment → List ℤ → Bool
in_conflict p ρ C = not (any ρ C) && not (any (unassigned_existential p ρ) C)

-- [due] some clause is
unfoldable pub conflict : List ℤ → List (List ℤ) → Assignment → Bool
conflict p m ρ = any (in_conflict p ρ) m

-- [unit] no unassigned existential literal but l: x is no other
abbrev pub is_only : List ℤ → Assignment → ℤ → ℤ → Bool
is_only p ρ l x = not (unassigned_existential p ρ x) || eq_z x l

-- [unit] unassigned universal literals are above the level of l: so x, if it is one
abbrev pub is_deeper : List ℤ → Assignment → ℤ → ℤ → Bool
is_deeper p ρ l x = not (unassigned_universal p ρ x) || ltb (level p l) (level p x)

-- [unit] no true literal, l as the one unassigned existential literal, and the unassigned universal ones above its level
unfoldable pub unit_on : List ℤ → Assignment → List ℤ → ℤ → Bool
unit_on p ρ C l = not (any ρ C) && (mem l C && unassigned_existential p ρ l) && all (is_only p ρ l) C && all (is_deeper p ρ l) C

-- l stands in some clause; [monotone] it does and its opposite does not, so [monotone.absent] a variable that stands in none has no sign
unfoldable pub occurs : List (List ℤ) → ℤ → Bool
occurs m l = any (mem l) m

unfoldable pub one_sign : List (List ℤ) → ℤ → Bool
one_sign m l = occurs m l && not (occurs m (neg_ℤ l))

-- [monotone] an existential literal as it stands in the clauses m, a universal one as the opposite
unfoldable pub monotone : List ℤ → List (List ℤ) → Assignment → ℤ → Bool
monotone p m ρ l = (unassigned_existential p ρ l && one_sign m l) || (unassigned_universal p ρ l && one_sign m (neg_ℤ l))

-- [monotone] only the clauses with no true literal count
unfoldable pub untrue_of : Assignment → List (List ℤ) → List (List ℤ)
untrue_of ρ [] = []
untrue_of ρ (C ∷ m) = cond (any ρ C) (untrue_of ρ m) (C ∷ untrue_of ρ m)

unfoldable pub monotone_open : List ℤ → List (List ℤ) → Assignment → ℤ → Bool
monotone_open p m ρ l = monotone p (untrue_of ρ m) ρ l

-- [order.monotone] the widest that is sound: l stands in no clause that lacks a true literal
unfoldable pub absent : List (List ℤ) → Assignment → ℤ → Bool
absent m ρ l = all (λ C. any ρ C || not (mem l C)) m

unfoldable pub monotone_wide : List ℤ → List (List ℤ) → Assignment → ℤ → Bool
monotone_wide p m ρ l = (unassigned_existential p ρ l && absent m ρ (neg_ℤ l)) || (unassigned_universal p ρ l && absent m ρ l)

-- [open] all variables of lower levels are assigned: so the one that q binds
abbrev pub not_below : List ℤ → Assignment → ℤ → ℤ → Bool
not_below p ρ l q = assigned ρ q || leb (level p l) (level p q)

-- [open] an open literal: unassigned, with every variable of a lower level assigned
unfoldable pub is_open : List ℤ → Assignment → ℤ → Bool
is_open p ρ l = (unassigned_existential p ρ l || unassigned_universal p ρ l) && all (not_below p ρ l) p

-- all variables are assigned
unfoldable pub all_assigned : List ℤ → Assignment → Bool
all_assigned p ρ = all (assigned ρ) p
