-- When a block is turned away: the table's rows 1 to 10 and 23, in its order [table.order].
use Rattle.std.specs.Prelude.{ℕ, ◌+◌, Bool, false, not, ◌&&◌, ◌||◌, List, [], ◌∷◌, eqb, ltb, ℤ, pos, neg_ℤ, nat_abs, length}
use Rattle.words.specs.Lists.{any}
use Rattle.words.specs.Rows.{Row, row, refusal_of}
use Rattle.words.specs.Words.{negative, eq_z, mem}
use Rattle.formula.specs.Limits.{Limits}
use Rattle.formula.specs.Formula.{word, variables_of, clause_count_of, literal_count_of, prefix_of, ends_of, literals_of, clauses_from}

-- [row.2] a count below 0 or above its limit
abbrev pub bad_count : ℕ → ℤ → Bool
bad_count limit w = negative w || ltb limit (nat_abs w)

abbrev pub bad_counts : Limits → List ℤ → Bool
bad_counts L b =
    bad_count L.variables (word b 0) || bad_count L.clauses (word b 1) || bad_count L.literals (word b 2)

-- [row.3] offsets other than 6, 6+V, 6+V+C
abbrev pub is_not : ℕ → ℤ → Bool
is_not n w = not (eq_z w (pos n))

abbrev pub bad_offsets : List ℤ → Bool
bad_offsets b =
    is_not 6 (word b 3) || is_not (6 + variables_of b) (word b 4) || is_not (6 + variables_of b + clause_count_of b) (word b 5)

-- [row.4] [block.length] a length other than 6+V+C+T
abbrev pub bad_length : List ℤ → Bool
bad_length b = not (eqb (length b) (6 + variables_of b + clause_count_of b + literal_count_of b))

-- [row.5] [row.9] the word names none of n variables
abbrev pub no_variable : ℕ → ℤ → Bool
no_variable n w = eqb (nat_abs w) 0 || ltb n (nat_abs w)

-- [row.6] two words of one size
abbrev pub names : ℕ → ℤ → Bool
names v w = eqb v (nat_abs w)

unfoldable pub twice : List ℤ → Bool
twice [] = false
twice (w ∷ ws) = any (names (nat_abs w)) ws || twice ws

-- [row.7] there are variables, and the last prefix word is below 0
abbrev pub bad_last : List ℤ → Bool
bad_last b = ltb 0 (variables_of b) && negative (word b (5 + variables_of b))

-- [row.8] an end below 0, below the one before it, which is at `from`, or above the total; or the last is not the total
unfoldable pub bad_ends : ℕ → ℕ → List ℤ → Bool
bad_ends total from [] = not (eqb from total)
bad_ends total from (e ∷ es) = negative e || ltb (nat_abs e) from || ltb total (nat_abs e) || bad_ends total (nat_abs e) es

-- [row.10] a literal and its opposite
unfoldable pub both_signs : List ℤ → Bool
both_signs [] = false
both_signs (l ∷ ls) = mem (neg_ℤ l) ls || both_signs ls

-- [row.23] a literal more than once
unfoldable pub repeats : List ℤ → Bool
repeats [] = false
repeats (l ∷ ls) = mem l ls || repeats ls

-- [calls.check] its rows; the first is a block too short for its header [row.1]
abbrev pub rows : Limits → List ℤ → List Row
rows L b =
    row 1 (ltb (length b) 6)
    ∷ row 2 (bad_counts L b)
    ∷ row 3 (bad_offsets b)
    ∷ row 4 (bad_length b)
    ∷ row 5 (any (no_variable (variables_of b)) (prefix_of b))
    ∷ row 6 (twice (prefix_of b))
    ∷ row 7 (bad_last b)
    ∷ row 8 (bad_ends (literal_count_of b) 0 (ends_of b))
    ∷ row 9 (any (no_variable (variables_of b)) (literals_of b))
    ∷ row 10 (any both_signs (clauses_from (literals_of b) 0 (ends_of b)))
    ∷ row 23 (any repeats (clauses_from (literals_of b) 0 (ends_of b)))
    ∷ []

-- the number of the first row that applies, and 0 for an accepted block
unfoldable pub refusal : Limits → List ℤ → ℕ
refusal L b = refusal_of (rows L b)
