-- What each public function promises of everything at entry, r being its answer and o' the output that it leaves; and [only] that the promise fits one
-- answer and one content of the output. A promise is an equation with a definition.
use Rattle.std.specs.Prelude.{◌≡◌, List, ℕ, ℤ}
use Rattle.words.specs.Outcomes.{only_one, outcome, Same, same}
use Rattle.formula.specs.Limits.{limits}
use Rattle.reader.specs.declared.Reader.{Reader}
use Rattle.text.specs.Tree.{Reading, read_of}
use Rattle.text.specs.Pieces.{begun, piece_of, end_of}

-- [calls.read] a whole text
abbrev pub ReadPromise : List ℕ → List ℤ → Reading → List ℤ → Type 0
ReadPromise bs o r o' = outcome r o' ≡ read_of limits bs o

-- [calls.pieces] a text in pieces; any state may be handed in
abbrev pub BeginPromise : Reader → Type 0
BeginPromise r = r ≡ begun

abbrev pub PiecePromise : Reader → List ℕ → List ℤ → Reader → List ℤ → Type 0
PiecePromise s bs o r o' = outcome r o' ≡ piece_of bs s o

abbrev pub EndPromise : Reader → List ℤ → Reading → List ℤ → Type 0
EndPromise s o r o' = outcome r o' ≡ end_of limits s o

-- ---- each leaves one answer and one output
pub only_begin : {r r' : Reader} → BeginPromise r → BeginPromise r' → r ≡ r'
only_begin = only_one

module _ {o' o'' : List ℤ} (o : List ℤ) where
  pub only_read : {r r' : Reading} (bs : List ℕ) → ReadPromise bs o r o' → ReadPromise bs o r' o'' → Same r r' o' o''
  only_read bs = same

  pub only_piece : {r r' : Reader} (s : Reader) (bs : List ℕ) → PiecePromise s bs o r o' → PiecePromise s bs o r' o'' → Same r r' o' o''
  only_piece s bs = same

  pub only_end : {r r' : Reading} (s : Reader) → EndPromise s o r o' → EndPromise s o r' o'' → Same r r' o' o''
  only_end s = same
