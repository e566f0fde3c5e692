-- A formula, how a block is read as one, and the quantifier, level and group of a variable.
use Rattle.std.specs.Prelude.{ℕ, suc, ◌+◌, ◌-◌, Bool, cond, List, [], ◌∷◌, eqb, ℤ, pos, neg_ℤ, nat_abs, get_or, take, drop}
use Rattle.std.specs.Bool.{beq}
use Rattle.words.specs.Words.{negative, mem}

-- the prefix, from the outermost variable to the innermost, and the clauses, each a list of literals
pub record Formula : Type 0 where
  pub prefix : List ℤ
  pub clauses : List (List ℤ)

-- ---- the block's words [block.header]
abbrev pub word : List ℤ → ℕ → ℤ
word b i = get_or b i (pos 0)

abbrev pub variables_of : List ℤ → ℕ
variables_of b = nat_abs (word b 0)

abbrev pub clause_count_of : List ℤ → ℕ
clause_count_of b = nat_abs (word b 1)

abbrev pub literal_count_of : List ℤ → ℕ
literal_count_of b = nat_abs (word b 2)

-- [block.offsets] [prefix] the three parts
abbrev pub prefix_of : List ℤ → List ℤ
prefix_of b = take (variables_of b) (drop 6 b)

abbrev pub ends_of : List ℤ → List ℤ
ends_of b = take (clause_count_of b) (drop (6 + variables_of b) b)

abbrev pub literals_of : List ℤ → List ℤ
literals_of b = take (literal_count_of b) (drop (6 + variables_of b + clause_count_of b) b)

-- [ends] the clauses of the literal words ls after the one that ends at `from`
unfoldable pub clauses_from : List ℤ → ℕ → List ℤ → List (List ℤ)
clauses_from ls from [] = []
clauses_from ls from (e ∷ es) = take (nat_abs e - from) (drop from ls) ∷ clauses_from ls (nat_abs e) es

unfoldable pub formula_of : List ℤ → Formula
formula_of b = record { prefix = prefix_of b; clauses = clauses_from (literals_of b) 0 (ends_of b) }

-- ---- [prefix] the variable of the literal l is so bound by the prefix
unfoldable pub existential : List ℤ → ℤ → Bool
existential p l = mem (pos (nat_abs l)) p

unfoldable pub universal : List ℤ → ℤ → Bool
universal p l = mem (neg_ℤ (pos (nat_abs l))) p

-- 1 if the quantifier changes from the word q to the next
unfoldable pub change : ℤ → List ℤ → ℕ
change q [] = 0
change q (r ∷ p) = cond (beq (negative q) (negative r)) 0 1

-- [level] the changes of quantifier on the way to a variable
unfoldable pub level_of : List ℤ → ℕ → ℕ
level_of [] v = 0
level_of (q ∷ p) v = cond (eqb (nat_abs q) v) 0 (change q p + level_of p v)

unfoldable pub level : List ℤ → ℤ → ℕ
level p l = level_of p (nat_abs l)

-- [group] how many words at the list's start have the given sign
unfoldable pub run : Bool → List ℤ → ℕ
run s [] = 0
run s (q ∷ p) = cond (beq s (negative q)) (suc (run s p)) 0

-- [group.first] the size of the first group
unfoldable pub first_group : List ℤ → ℕ
first_group [] = 0
first_group (q ∷ p) = run (negative q) (q ∷ p)
