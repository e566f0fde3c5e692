-- Reading a text from another language: a status, and one number in a lent array; and the reader between two pieces as an array of numbers. What is read,
-- and what is left in the output, is what the crate `text` says; which numbers a reader is, what the crate `saved` says.
use Rattle.std.specs.Prelude.{ℕ, List, ℤ}
use Rattle.words.specs.Outcomes.{Outcome}
use Rattle.formula.specs.Limits.{Limits}
use Rattle.text.specs.Tree.{read_of}
use Rattle.text.specs.Pieces.{piece_of, end_of}
use Rattle.saved.specs.Numbers.{reader_of, written}
use Rattle.answers.specs.Answers.{read_status, read_numbers}
use Rattle.mokihazureo.specs.Called.{Lent, lent, told}

-- ---- [calls.read] a text: status 0 and the block's length; 27 and the place; 28, 29 or 30, and 0; 31 and the row
abbrev pub read_call : Limits → List ℕ → List ℤ → List ℕ → Outcome (Lent (List ℤ)) ℕ
read_call L bs o a = told read_status read_numbers a (read_of L bs o)

-- ---- [calls.pieces] begin, a piece, and the end; s is the array of the reader's numbers
abbrev pub piece_call : List ℕ → List ℕ → List ℤ → Lent (List ℤ)
piece_call s bs o = let u = piece_of bs (reader_of s) o in lent u.memory (written u.answer s)

abbrev pub end_call : Limits → List ℕ → List ℤ → List ℕ → Outcome (Lent (List ℤ)) ℕ
end_call L s o a = told read_status read_numbers a (end_of L (reader_of s) o)
