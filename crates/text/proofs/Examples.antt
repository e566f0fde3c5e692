-- Worked texts: what is read of each, answer and output, by computation. Every output is dirty before.
use Rattle.std.specs.Prelude.{◌≡◌, refl, List, [], ◌∷◌, ℕ, ℤ, pos, negsuc, replicate, Ok}
use Rattle.words.specs.Lists.{any}
use Rattle.words.specs.Words.{eq_z, mem}
use Rattle.words.specs.Outcomes.{outcome}
use Rattle.formula.specs.Limits.{limits}
use Rattle.formula.specs.Block.{twice, both_signs, repeats}
use Rattle.grammar.specs.Grammar.{digit, nonzero, printable}
use Rattle.grammar.specs.Machine.{rows, choose, blank, between, parted, past, alive, fresh, move, shift, trace}
use Rattle.grammar.specs.Events.{hear, heard}
use Rattle.grammar.specs.Reads.{taken, reads}
use Rattle.reader.specs.Keep.{beyond}
use Rattle.laid.specs.Block.{those, completed, laid}
use Rattle.text.specs.Tree.{Reading, misfit_at, text_refused, block_refused, words_of, numbers_of, literals_of, ends_of, some_beyond, text_refusal, block_of, row_of, text_of, answered, read_of}

-- with room for n words
unfoldable Gives : List ℕ → ℕ → Reading → List ℤ → Type 0
Gives bs n a o = read_of limits bs (replicate n (pos 7)) ≡ outcome a o

-- no text, and a text that lacks its last line feed, or has it
--     the empty text
--     `p cnf 0 0`
--     `p cnf 0 0\n`
nothing : Gives ([]) 1 (misfit_at 0) (pos 0 ∷ [])
    × Gives (112 ∷ 32 ∷ 99 ∷ 110 ∷ 102 ∷ 32 ∷ 48 ∷ 32 ∷ 48 ∷ []) 1 (misfit_at 9) (pos 0 ∷ [])
    × Gives (112 ∷ 32 ∷ 99 ∷ 110 ∷ 102 ∷ 32 ∷ 48 ∷ 32 ∷ 48 ∷ 10 ∷ []) 8 (Ok 6) (pos 0 ∷ pos 0 ∷ pos 0 ∷ pos 6 ∷ pos 6 ∷ pos 6 ∷ pos 0 ∷ pos 0 ∷ [])
unfolding Gives limits read_of answered text_of text_refusal row_of block_of laid completed those words_of literals_of ends_of numbers_of some_beyond beyond any twice both_signs repeats mem eq_z reads taken trace fresh heard hear alive move shift past parted between blank choose rows digit nonzero printable
nothing = (refl, refl, refl)

-- a comment takes tabs and bytes from 32 to 126, before the problem line only; a carriage return is no blank
--     `\tc\t ~\np\tcnf 0 0\t\n`
--     `c \xc8\n`
--     `p cnf 0 0\nc\n`
--     `p cnf 0 0\r\n`
comments : Gives (9 ∷ 99 ∷ 9 ∷ 32 ∷ 126 ∷ 10 ∷ 112 ∷ 9 ∷ 99 ∷ 110 ∷ 102 ∷ 32 ∷ 48 ∷ 32 ∷ 48 ∷ 9 ∷ 10 ∷ []) 6 (Ok 6) (pos 0 ∷ pos 0 ∷ pos 0 ∷ pos 6 ∷ pos 6 ∷ pos 6 ∷ [])
    × Gives (99 ∷ 32 ∷ 200 ∷ 10 ∷ []) 1 (misfit_at 2) (pos 0 ∷ [])
    × Gives (112 ∷ 32 ∷ 99 ∷ 110 ∷ 102 ∷ 32 ∷ 48 ∷ 32 ∷ 48 ∷ 10 ∷ 99 ∷ 10 ∷ []) 1 (misfit_at 10) (pos 0 ∷ [])
    × Gives (112 ∷ 32 ∷ 99 ∷ 110 ∷ 102 ∷ 32 ∷ 48 ∷ 32 ∷ 48 ∷ 13 ∷ 10 ∷ []) 1 (misfit_at 9) (pos 0 ∷ [])
unfolding Gives limits read_of answered text_of text_refusal row_of block_of laid completed those words_of literals_of ends_of numbers_of some_beyond beyond any twice both_signs repeats mem eq_z reads taken trace fresh heard hear alive move shift past parted between blank choose rows digit nonzero printable
comments = (refl, refl, refl, refl)

-- an empty clause, and a literal without the 0 behind it; a quantifier line after a clause
--     `p cnf 0 1\n0\n`
--     `p cnf 1 1\n1\n`
--     `p cnf 1 1\n1 0\ne 1 0\n`
clauses : Gives (112 ∷ 32 ∷ 99 ∷ 110 ∷ 102 ∷ 32 ∷ 48 ∷ 32 ∷ 49 ∷ 10 ∷ 48 ∷ 10 ∷ []) 8 (Ok 7) (pos 0 ∷ pos 1 ∷ pos 0 ∷ pos 6 ∷ pos 6 ∷ pos 7 ∷ pos 0 ∷ pos 0 ∷ [])
    × Gives (112 ∷ 32 ∷ 99 ∷ 110 ∷ 102 ∷ 32 ∷ 49 ∷ 32 ∷ 49 ∷ 10 ∷ 49 ∷ 10 ∷ []) 1 (misfit_at 11) (pos 0 ∷ [])
    × Gives (112 ∷ 32 ∷ 99 ∷ 110 ∷ 102 ∷ 32 ∷ 49 ∷ 32 ∷ 49 ∷ 10 ∷ 49 ∷ 32 ∷ 48 ∷ 10 ∷ 101 ∷ 32 ∷ 49 ∷ 32 ∷ 48 ∷ 10 ∷ []) 1 (misfit_at 14) (pos 0 ∷ [])
unfolding Gives limits read_of answered text_of text_refusal row_of block_of laid completed those words_of literals_of ends_of numbers_of some_beyond beyond any twice both_signs repeats mem eq_z reads taken trace fresh heard hear alive move shift past parted between blank choose rows digit nonzero printable
clauses = (refl, refl, refl)

-- a quantifier line without a number, and two lines of one quantifier
--     `p cnf 1 0\ne 0\n`
--     `p cnf 2 0\ne 2 0\ne 1 0\n`
groups : Gives (112 ∷ 32 ∷ 99 ∷ 110 ∷ 102 ∷ 32 ∷ 49 ∷ 32 ∷ 48 ∷ 10 ∷ 101 ∷ 32 ∷ 48 ∷ 10 ∷ []) 1 (misfit_at 12) (pos 0 ∷ [])
    × Gives (112 ∷ 32 ∷ 99 ∷ 110 ∷ 102 ∷ 32 ∷ 50 ∷ 32 ∷ 48 ∷ 10 ∷ 101 ∷ 32 ∷ 50 ∷ 32 ∷ 48 ∷ 10 ∷ 101 ∷ 32 ∷ 49 ∷ 32 ∷ 48 ∷ 10 ∷ []) 8 (Ok 8) (pos 2 ∷ pos 0 ∷ pos 0 ∷ pos 6 ∷ pos 8 ∷ pos 8 ∷ pos 2 ∷ pos 1 ∷ [])
unfolding Gives limits read_of answered text_of text_refusal row_of block_of laid completed those words_of literals_of ends_of numbers_of some_beyond beyond any twice both_signs repeats mem eq_z reads taken trace fresh heard hear alive move shift past parted between blank choose rows digit nonzero printable
groups = (refl, refl)

-- a leading zero, a minus before 0, a sign where none may stand
--     `p cnf 01 0\n`
--     `p cnf 1 1\n-0 0\n`
--     `p cnf 1 0\ne -1 0\n`
digits : Gives (112 ∷ 32 ∷ 99 ∷ 110 ∷ 102 ∷ 32 ∷ 48 ∷ 49 ∷ 32 ∷ 48 ∷ 10 ∷ []) 1 (misfit_at 7) (pos 0 ∷ [])
    × Gives (112 ∷ 32 ∷ 99 ∷ 110 ∷ 102 ∷ 32 ∷ 49 ∷ 32 ∷ 49 ∷ 10 ∷ 45 ∷ 48 ∷ 32 ∷ 48 ∷ 10 ∷ []) 1 (misfit_at 11) (pos 0 ∷ [])
    × Gives (112 ∷ 32 ∷ 99 ∷ 110 ∷ 102 ∷ 32 ∷ 49 ∷ 32 ∷ 48 ∷ 10 ∷ 101 ∷ 32 ∷ 45 ∷ 49 ∷ 32 ∷ 48 ∷ 10 ∷ []) 1 (misfit_at 12) (pos 0 ∷ [])
unfolding Gives limits read_of answered text_of text_refusal row_of block_of laid completed those words_of literals_of ends_of numbers_of some_beyond beyond any twice both_signs repeats mem eq_z reads taken trace fresh heard hear alive move shift past parted between blank choose rows digit nonzero printable
digits = (refl, refl, refl)

-- an idle variable makes a group behind the lines, a free one stands before them
--     `p cnf 2 1\na 1 0\n1 0\n`
--     `p cnf 3 1\na 1 0\n1 2 0\n`
--     `p cnf 2 1\na 1 0\n1 2 0\n`
completes : Gives (112 ∷ 32 ∷ 99 ∷ 110 ∷ 102 ∷ 32 ∷ 50 ∷ 32 ∷ 49 ∷ 10 ∷ 97 ∷ 32 ∷ 49 ∷ 32 ∷ 48 ∷ 10 ∷ 49 ∷ 32 ∷ 48 ∷ 10 ∷ []) 11 (Ok 10) (pos 2 ∷ pos 1 ∷ pos 1 ∷ pos 6 ∷ pos 8 ∷ pos 9 ∷ negsuc 0 ∷ pos 2 ∷ pos 1 ∷ pos 1 ∷ pos 0 ∷ [])
    × Gives (112 ∷ 32 ∷ 99 ∷ 110 ∷ 102 ∷ 32 ∷ 51 ∷ 32 ∷ 49 ∷ 10 ∷ 97 ∷ 32 ∷ 49 ∷ 32 ∷ 48 ∷ 10 ∷ 49 ∷ 32 ∷ 50 ∷ 32 ∷ 48 ∷ 10 ∷ []) 12 (Ok 12) (pos 3 ∷ pos 1 ∷ pos 2 ∷ pos 6 ∷ pos 9 ∷ pos 10 ∷ pos 2 ∷ negsuc 0 ∷ pos 3 ∷ pos 2 ∷ pos 1 ∷ pos 2 ∷ [])
    × Gives (112 ∷ 32 ∷ 99 ∷ 110 ∷ 102 ∷ 32 ∷ 50 ∷ 32 ∷ 49 ∷ 10 ∷ 97 ∷ 32 ∷ 49 ∷ 32 ∷ 48 ∷ 10 ∷ 49 ∷ 32 ∷ 50 ∷ 32 ∷ 48 ∷ 10 ∷ []) 11 (block_refused 7) (pos 0 ∷ pos 0 ∷ pos 0 ∷ pos 0 ∷ pos 0 ∷ pos 0 ∷ pos 0 ∷ pos 0 ∷ pos 0 ∷ pos 0 ∷ pos 0 ∷ [])
unfolding Gives limits read_of answered text_of text_refusal row_of block_of laid completed those words_of literals_of ends_of numbers_of some_beyond beyond any twice both_signs repeats mem eq_z reads taken trace fresh heard hear alive move shift past parted between blank choose rows digit nonzero printable
completes = (refl, refl, refl)

-- 28: a number of forty digits, one past the last word, one clause too few; the least word is within
--     `p cnf 1..1 0\n`
--     `p cnf 1 1\n2147483648 0\n`
--     `p cnf 1 2\n1 0\n`
--     `p cnf 1 1\n-2147483648 0\n`
large : Gives (112 ∷ 32 ∷ 99 ∷ 110 ∷ 102 ∷ 32 ∷ 49 ∷ 49 ∷ 49 ∷ 49 ∷ 49 ∷ 49 ∷ 49 ∷ 49 ∷ 49 ∷ 49 ∷ 49 ∷ 49 ∷ 49 ∷ 49 ∷ 49 ∷ 49 ∷ 49 ∷ 49 ∷ 49 ∷ 49 ∷ 49 ∷ 49 ∷ 49 ∷ 49 ∷ 49 ∷ 49 ∷ 49 ∷ 49 ∷ 49 ∷ 49 ∷ 49 ∷ 49 ∷ 49 ∷ 49 ∷ 49 ∷ 49 ∷ 49 ∷ 49 ∷ 49 ∷ 49 ∷ 32 ∷ 48 ∷ 10 ∷ []) 1 (text_refused 28) (pos 0 ∷ [])
    × Gives (112 ∷ 32 ∷ 99 ∷ 110 ∷ 102 ∷ 32 ∷ 49 ∷ 32 ∷ 49 ∷ 10 ∷ 50 ∷ 49 ∷ 52 ∷ 55 ∷ 52 ∷ 56 ∷ 51 ∷ 54 ∷ 52 ∷ 56 ∷ 32 ∷ 48 ∷ 10 ∷ []) 9 (text_refused 28) (pos 0 ∷ pos 0 ∷ pos 0 ∷ pos 0 ∷ pos 0 ∷ pos 0 ∷ pos 0 ∷ pos 0 ∷ pos 0 ∷ [])
    × Gives (112 ∷ 32 ∷ 99 ∷ 110 ∷ 102 ∷ 32 ∷ 49 ∷ 32 ∷ 50 ∷ 10 ∷ 49 ∷ 32 ∷ 48 ∷ 10 ∷ []) 10 (text_refused 28) (pos 0 ∷ pos 0 ∷ pos 0 ∷ pos 0 ∷ pos 0 ∷ pos 0 ∷ pos 0 ∷ pos 0 ∷ pos 0 ∷ pos 0 ∷ [])
    × Gives (112 ∷ 32 ∷ 99 ∷ 110 ∷ 102 ∷ 32 ∷ 49 ∷ 32 ∷ 49 ∷ 10 ∷ 45 ∷ 50 ∷ 49 ∷ 52 ∷ 55 ∷ 52 ∷ 56 ∷ 51 ∷ 54 ∷ 52 ∷ 56 ∷ 32 ∷ 48 ∷ 10 ∷ []) 9 (block_refused 9) (pos 0 ∷ pos 0 ∷ pos 0 ∷ pos 0 ∷ pos 0 ∷ pos 0 ∷ pos 0 ∷ pos 0 ∷ pos 0 ∷ [])
unfolding Gives limits read_of answered text_of text_refusal row_of block_of laid completed those words_of literals_of ends_of numbers_of some_beyond beyond any twice both_signs repeats mem eq_z reads taken trace fresh heard hear alive move shift past parted between blank choose rows digit nonzero printable
large = (refl, refl, refl, refl)

-- 29 and 30
--     `p cnf 99999 0\n`
--     `p cnf 1 0\n`
--     `p cnf 1 0\n`
limits_and_room : Gives (112 ∷ 32 ∷ 99 ∷ 110 ∷ 102 ∷ 32 ∷ 57 ∷ 57 ∷ 57 ∷ 57 ∷ 57 ∷ 32 ∷ 48 ∷ 10 ∷ []) 1 (text_refused 29) (pos 0 ∷ [])
    × Gives (112 ∷ 32 ∷ 99 ∷ 110 ∷ 102 ∷ 32 ∷ 49 ∷ 32 ∷ 48 ∷ 10 ∷ []) 6 (text_refused 30) (pos 0 ∷ pos 0 ∷ pos 0 ∷ pos 0 ∷ pos 0 ∷ pos 0 ∷ [])
    × Gives (112 ∷ 32 ∷ 99 ∷ 110 ∷ 102 ∷ 32 ∷ 49 ∷ 32 ∷ 48 ∷ 10 ∷ []) 7 (Ok 7) (pos 1 ∷ pos 0 ∷ pos 0 ∷ pos 6 ∷ pos 7 ∷ pos 7 ∷ pos 1 ∷ [])
unfolding Gives limits read_of answered text_of text_refusal row_of block_of laid completed those words_of literals_of ends_of numbers_of some_beyond beyond any twice both_signs repeats mem eq_z reads taken trace fresh heard hear alive move shift past parted between blank choose rows digit nonzero printable
limits_and_room = (refl, refl, refl)

-- each row of 31
--     `p cnf 1 0\ne 2 0\n`
--     `p cnf 2 0\ne 1 1 0\n`
--     `p cnf 1 0\na 1 0\n`
--     `p cnf 1 1\n2 0\n`
--     `p cnf 1 1\n1 -1 0\n`
--     `p cnf 1 1\n1 1 0\n`
rows_31 : Gives (112 ∷ 32 ∷ 99 ∷ 110 ∷ 102 ∷ 32 ∷ 49 ∷ 32 ∷ 48 ∷ 10 ∷ 101 ∷ 32 ∷ 50 ∷ 32 ∷ 48 ∷ 10 ∷ []) 7 (block_refused 5) (pos 0 ∷ pos 0 ∷ pos 0 ∷ pos 0 ∷ pos 0 ∷ pos 0 ∷ pos 0 ∷ [])
    × Gives (112 ∷ 32 ∷ 99 ∷ 110 ∷ 102 ∷ 32 ∷ 50 ∷ 32 ∷ 48 ∷ 10 ∷ 101 ∷ 32 ∷ 49 ∷ 32 ∷ 49 ∷ 32 ∷ 48 ∷ 10 ∷ []) 8 (block_refused 6) (pos 0 ∷ pos 0 ∷ pos 0 ∷ pos 0 ∷ pos 0 ∷ pos 0 ∷ pos 0 ∷ pos 0 ∷ [])
    × Gives (112 ∷ 32 ∷ 99 ∷ 110 ∷ 102 ∷ 32 ∷ 49 ∷ 32 ∷ 48 ∷ 10 ∷ 97 ∷ 32 ∷ 49 ∷ 32 ∷ 48 ∷ 10 ∷ []) 7 (block_refused 7) (pos 0 ∷ pos 0 ∷ pos 0 ∷ pos 0 ∷ pos 0 ∷ pos 0 ∷ pos 0 ∷ [])
    × Gives (112 ∷ 32 ∷ 99 ∷ 110 ∷ 102 ∷ 32 ∷ 49 ∷ 32 ∷ 49 ∷ 10 ∷ 50 ∷ 32 ∷ 48 ∷ 10 ∷ []) 9 (block_refused 9) (pos 0 ∷ pos 0 ∷ pos 0 ∷ pos 0 ∷ pos 0 ∷ pos 0 ∷ pos 0 ∷ pos 0 ∷ pos 0 ∷ [])
    × Gives (112 ∷ 32 ∷ 99 ∷ 110 ∷ 102 ∷ 32 ∷ 49 ∷ 32 ∷ 49 ∷ 10 ∷ 49 ∷ 32 ∷ 45 ∷ 49 ∷ 32 ∷ 48 ∷ 10 ∷ []) 10 (block_refused 10) (pos 0 ∷ pos 0 ∷ pos 0 ∷ pos 0 ∷ pos 0 ∷ pos 0 ∷ pos 0 ∷ pos 0 ∷ pos 0 ∷ pos 0 ∷ [])
    × Gives (112 ∷ 32 ∷ 99 ∷ 110 ∷ 102 ∷ 32 ∷ 49 ∷ 32 ∷ 49 ∷ 10 ∷ 49 ∷ 32 ∷ 49 ∷ 32 ∷ 48 ∷ 10 ∷ []) 10 (block_refused 23) (pos 0 ∷ pos 0 ∷ pos 0 ∷ pos 0 ∷ pos 0 ∷ pos 0 ∷ pos 0 ∷ pos 0 ∷ pos 0 ∷ pos 0 ∷ [])
unfolding Gives limits read_of answered text_of text_refusal row_of block_of laid completed those words_of literals_of ends_of numbers_of some_beyond beyond any twice both_signs repeats mem eq_z reads taken trace fresh heard hear alive move shift past parted between blank choose rows digit nonzero printable
rows_31 = (refl, refl, refl, refl, refl, refl)

-- of two that apply the first is answered: 27 and 28, 28 and 29, 29 and 30, 30 and 31, and the rows of 31
--     `p cnf 1 1`
--     `p cnf 99999 1\n`
--     `p cnf 99999 0\n`
--     `p cnf 1 0\na 1 0\n`
--     `p cnf 1 0\ne 1 1 2 0\n`
--     `p cnf 1 0\na 1 1 0\n`
--     `p cnf 1 1\na 1 0\n2 0\n`
--     `p cnf 1 1\n2 -2 0\n`
--     `p cnf 1 1\n1 1 -1 0\n`
neighbours : Gives (112 ∷ 32 ∷ 99 ∷ 110 ∷ 102 ∷ 32 ∷ 49 ∷ 32 ∷ 49 ∷ []) 1 (misfit_at 9) (pos 0 ∷ [])
    × Gives (112 ∷ 32 ∷ 99 ∷ 110 ∷ 102 ∷ 32 ∷ 57 ∷ 57 ∷ 57 ∷ 57 ∷ 57 ∷ 32 ∷ 49 ∷ 10 ∷ []) 1 (text_refused 28) (pos 0 ∷ [])
    × Gives (112 ∷ 32 ∷ 99 ∷ 110 ∷ 102 ∷ 32 ∷ 57 ∷ 57 ∷ 57 ∷ 57 ∷ 57 ∷ 32 ∷ 48 ∷ 10 ∷ []) 0 (text_refused 29) ([])
    × Gives (112 ∷ 32 ∷ 99 ∷ 110 ∷ 102 ∷ 32 ∷ 49 ∷ 32 ∷ 48 ∷ 10 ∷ 97 ∷ 32 ∷ 49 ∷ 32 ∷ 48 ∷ 10 ∷ []) 6 (text_refused 30) (pos 0 ∷ pos 0 ∷ pos 0 ∷ pos 0 ∷ pos 0 ∷ pos 0 ∷ [])
    × Gives (112 ∷ 32 ∷ 99 ∷ 110 ∷ 102 ∷ 32 ∷ 49 ∷ 32 ∷ 48 ∷ 10 ∷ 101 ∷ 32 ∷ 49 ∷ 32 ∷ 49 ∷ 32 ∷ 50 ∷ 32 ∷ 48 ∷ 10 ∷ []) 7 (block_refused 5) (pos 0 ∷ pos 0 ∷ pos 0 ∷ pos 0 ∷ pos 0 ∷ pos 0 ∷ pos 0 ∷ [])
    × Gives (112 ∷ 32 ∷ 99 ∷ 110 ∷ 102 ∷ 32 ∷ 49 ∷ 32 ∷ 48 ∷ 10 ∷ 97 ∷ 32 ∷ 49 ∷ 32 ∷ 49 ∷ 32 ∷ 48 ∷ 10 ∷ []) 7 (block_refused 6) (pos 0 ∷ pos 0 ∷ pos 0 ∷ pos 0 ∷ pos 0 ∷ pos 0 ∷ pos 0 ∷ [])
    × Gives (112 ∷ 32 ∷ 99 ∷ 110 ∷ 102 ∷ 32 ∷ 49 ∷ 32 ∷ 49 ∷ 10 ∷ 97 ∷ 32 ∷ 49 ∷ 32 ∷ 48 ∷ 10 ∷ 50 ∷ 32 ∷ 48 ∷ 10 ∷ []) 9 (block_refused 7) (pos 0 ∷ pos 0 ∷ pos 0 ∷ pos 0 ∷ pos 0 ∷ pos 0 ∷ pos 0 ∷ pos 0 ∷ pos 0 ∷ [])
    × Gives (112 ∷ 32 ∷ 99 ∷ 110 ∷ 102 ∷ 32 ∷ 49 ∷ 32 ∷ 49 ∷ 10 ∷ 50 ∷ 32 ∷ 45 ∷ 50 ∷ 32 ∷ 48 ∷ 10 ∷ []) 10 (block_refused 9) (pos 0 ∷ pos 0 ∷ pos 0 ∷ pos 0 ∷ pos 0 ∷ pos 0 ∷ pos 0 ∷ pos 0 ∷ pos 0 ∷ pos 0 ∷ [])
    × Gives (112 ∷ 32 ∷ 99 ∷ 110 ∷ 102 ∷ 32 ∷ 49 ∷ 32 ∷ 49 ∷ 10 ∷ 49 ∷ 32 ∷ 49 ∷ 32 ∷ 45 ∷ 49 ∷ 32 ∷ 48 ∷ 10 ∷ []) 11 (block_refused 10) (pos 0 ∷ pos 0 ∷ pos 0 ∷ pos 0 ∷ pos 0 ∷ pos 0 ∷ pos 0 ∷ pos 0 ∷ pos 0 ∷ pos 0 ∷ pos 0 ∷ [])
unfolding Gives limits read_of answered text_of text_refusal row_of block_of laid completed those words_of literals_of ends_of numbers_of some_beyond beyond any twice both_signs repeats mem eq_z reads taken trace fresh heard hear alive move shift past parted between blank choose rows digit nonzero printable
neighbours = (refl, refl, refl, refl, refl, refl, refl, refl, refl)
