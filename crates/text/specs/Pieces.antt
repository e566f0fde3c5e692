-- A text in pieces: the state before the first byte, what many bytes do to it and to the output, and what is answered at the end. For any state and output.
use Rattle.std.specs.Prelude.{ℕ, ◌+◌, min, false, cond, ◌||◌, List, [], ◌∷◌, ◌++◌, ltb, ℤ, length, take, drop, Ok}
use Rattle.words.specs.Lists.{any}
use Rattle.words.specs.Rows.{row, refusal_of}
use Rattle.words.specs.Outcomes.{Outcome, outcome, unless}
use Rattle.formula.specs.Limits.{Limits}
use Rattle.formula.specs.Block.{no_variable, twice, rows}
use Rattle.reader.specs.declared.Kept.{Kept}
use Rattle.reader.specs.declared.Reader.{Reader}
use Rattle.grammar.specs.Machine.{fresh, start}
use Rattle.reader.specs.Byte.{byte_of}
use Rattle.laid.specs.Block.{laid}
use Rattle.text.specs.Tree.{Reading, misfit_at, text_refused, block_refused, count_rows, zeros, filled}

-- ---- many bytes
unfoldable pub piece_of : List ℕ → Reader → List ℤ → Outcome (List ℤ) Reader
piece_of [] r o = outcome r o
piece_of (b ∷ bs) r o = piece_of bs (byte_of r o b).answer (byte_of r o b).memory

-- ---- begin and end
abbrev pub nothing_kept : Kept
nothing_kept = record { variables = 0; count = 0; universal = false; bound = 0; clauses = 0; literals = 0; large = false; over = false }

unfoldable pub begun : Reader
begun = record { state = start; number = 0; at = 0; kept = nothing_kept }

-- the words of the output that a block is made of
module _ (k : Kept) (o : List ℤ) where
  unfoldable pub kept_words : List ℤ
  kept_words = take (min k.bound k.variables) (drop 6 o)

  unfoldable pub kept_ends : List ℤ
  kept_ends = take k.clauses (drop (6 + k.variables) o)

  unfoldable pub kept_literals : List ℤ
  kept_literals = take k.literals (drop (6 + k.variables + k.clauses) o)

  unfoldable pub kept_block : List ℤ
  kept_block = laid k.variables kept_words kept_ends kept_literals

  -- [row.31] rows 5 and 6 of the bound words, and then those of the block
  unfoldable pub kept_row : Limits → ℕ
  kept_row L =
      refusal_of
      (row 5 (k.over || any (no_variable k.variables) kept_words)
      ∷ row 6 (ltb k.variables k.bound || twice kept_words)
      ∷ rows L kept_block)

  unfoldable pub settled : Limits → Outcome (List ℤ) Reading
  settled L =
      unless text_refused (refusal_of (count_rows L k.large k.variables k.count k.clauses k.literals (length o))) (zeros (length o))
      (unless block_refused (kept_row L) (zeros (length o))
      (outcome (Ok (6 + k.variables + k.clauses + k.literals)) (filled kept_block o)))

unfoldable pub end_of : Limits → Reader → List ℤ → Outcome (List ℤ) Reading
end_of L r o = cond (fresh r.state) (settled r.kept o L) (outcome (misfit_at r.at) (zeros (length o)))

-- ---- any number of pieces, one after the other
unfoldable pub in_pieces : List (List ℕ) → Reader → List ℤ → Outcome (List ℤ) Reader
in_pieces [] r o = outcome r o
in_pieces (p ∷ ps) r o = in_pieces ps (piece_of p r o).answer (piece_of p r o).memory

unfoldable pub whole : List (List ℕ) → List ℕ
whole [] = []
whole (p ∷ ps) = p ++ whole ps
