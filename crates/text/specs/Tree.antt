-- What a text's tree says: its words, which rows refuse it, and the block that it gives.
use Rattle.std.specs.Prelude.{ℕ, ◌+◌, ◌-◌, min, Bool, not, ◌||◌, List, [], ◌∷◌, ◌++◌, map, eqb, ltb, ℤ, pos, length, get_or, replicate, Result, Ok, Err}
use Rattle.words.specs.Lists.{any}
use Rattle.words.specs.Rows.{Row, row, refusal_of}
use Rattle.words.specs.Words.{negative}
use Rattle.words.specs.Outcomes.{Outcome, outcome, unless, by_row}
use Rattle.formula.specs.Limits.{Limits}
use Rattle.formula.specs.Formula.{Formula}
use Rattle.formula.specs.Block.{no_variable, twice, both_signs, repeats}
use Rattle.text.specs.declared.Unread.{Unread}
use Rattle.text.specs.declared.Unread.TheVariants.{Misfit, Refused, Row as AtRow}
use Rattle.grammar.specs.Grammar.{Group, Text}
use Rattle.grammar.specs.Machine.{signed}
use Rattle.reader.specs.Keep.{is_forall, beyond}
use Rattle.reader.specs.Byte.{last_place}
use Rattle.laid.specs.Block.{those, free, completed, laid}
use Rattle.grammar.specs.Reads.{Read, spelled, misfit, reads}

-- ---- the tree's words
-- [text.prefix] what the lines bind, in the order of the text
unfoldable pub words_of : List Group → List ℤ
words_of [] = []
words_of (g ∷ gs) = map (signed (is_forall g.quantifier)) g.numbers ++ words_of gs

unfoldable pub numbers_of : List Group → List ℕ
numbers_of [] = []
numbers_of (g ∷ gs) = g.numbers ++ numbers_of gs

-- [ends] the literals of all clauses, and how many there are up to each clause's last, n being before the first
unfoldable pub literals_of : List (List ℤ) → List ℤ
literals_of [] = []
literals_of (c ∷ cs) = c ++ literals_of cs

unfoldable pub ends_of : ℕ → List (List ℤ) → List ℤ
ends_of n [] = []
ends_of n (c ∷ cs) = pos (n + length c) ∷ ends_of (n + length c) cs

-- ---- rows 28 to 30
unfoldable pub some_beyond : Text → Bool
some_beyond t =
    beyond (pos t.variables) || beyond (pos t.count) || any (λ n. beyond (pos n)) (numbers_of t.groups) || any beyond (literals_of t.clauses)

-- [row.28] a number beyond, or another number of clause lines than announced. [row.29] a count over its limit. [row.30] too little room
abbrev pub count_rows : Limits → Bool → ℕ → ℕ → ℕ → ℕ → ℕ → List Row
count_rows L large v count c t room =
    row 28 (large || not (eqb c count))
    ∷ row 29 (ltb L.variables v || ltb L.clauses c || ltb L.literals t)
    ∷ row 30 (ltb room (6 + v + c + t))
    ∷ []

unfoldable pub text_refusal : Limits → Text → ℕ → ℕ
text_refusal L t room = refusal_of (count_rows L (some_beyond t) t.variables t.count (length t.clauses) (length (literals_of t.clauses)) room)

-- ---- the block
unfoldable pub block_of : Text → List ℤ
block_of t = laid t.variables (words_of t.groups) (ends_of 0 t.clauses) (literals_of t.clauses)

-- ---- [row.31] with the lowest of the block's rows: 7 looks at the completed prefix
abbrev pub last_universal : List ℤ → Bool
last_universal p = negative (get_or p (length p - 1) (pos 0))

abbrev pub tree_rows : ℕ → List ℤ → List (List ℤ) → List Row
tree_rows n ws cs =
    row 5 (any (no_variable n) ws)
    ∷ row 6 (twice ws)
    ∷ row 7 (last_universal (completed n ws (literals_of cs)))
    ∷ row 9 (any (no_variable n) (literals_of cs))
    ∷ row 10 (any both_signs cs)
    ∷ row 23 (any repeats cs)
    ∷ []

unfoldable pub row_of : Text → ℕ
row_of t = refusal_of (tree_rows t.variables (words_of t.groups) t.clauses)

-- ---- the whole call
-- what reading answers: the block's length, or why there is none: [row.27] with a place, [row.28] to [row.30], [row.31] with a row of the block
abbrev pub Reading : Type 0
Reading = Result ℕ Unread

abbrev pub misfit_at : ℕ → Reading
misfit_at i = Err (Misfit i)

abbrev pub text_refused : ℕ → Reading
text_refused n = Err (Refused (by_row n))

abbrev pub block_refused : ℕ → Reading
block_refused n = Err (AtRow (by_row n))

-- [text.wiped] a refused text leaves the output 0; past an accepted block it is 0 too
abbrev pub zeros : ℕ → List ℤ
zeros n = replicate n (pos 0)

abbrev pub filled : List ℤ → List ℤ → List ℤ
filled b o = b ++ zeros (length o - length b)

unfoldable pub text_of : Limits → Text → List ℤ → Outcome (List ℤ) Reading
text_of L t o =
    unless text_refused (text_refusal L t (length o)) (zeros (length o))
    (unless block_refused (row_of t) (zeros (length o))
    (outcome (Ok (6 + t.variables + length t.clauses + length (literals_of t.clauses))) (filled (block_of t) o)))

unfoldable pub answered : Limits → Read → List ℤ → Outcome (List ℤ) Reading
answered L (spelled t) o = text_of L t o
answered L (misfit i) o = outcome (misfit_at (min i last_place)) (zeros (length o))

unfoldable pub read_of : Limits → List ℕ → List ℤ → Outcome (List ℤ) Reading
read_of L bs o = answered L (reads bs) o

-- ---- [text.meaning] the text's own formula: free variables existential and outermost, then the lines, and of the idle ones none
unfoldable pub own_formula : Text → Formula
own_formula t = record {
  prefix = those (free (words_of t.groups) (literals_of t.clauses)) 1 t.variables ++ words_of t.groups;
  clauses = t.clauses;
}
