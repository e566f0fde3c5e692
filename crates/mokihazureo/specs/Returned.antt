-- Begin, any pieces and end, called one after the other on one array of numbers, answer and leave what reading the whole text does: what goes out comes
-- back in.
use Rattle.std.specs.Prelude.{◌≡◌, refl, List, [], ◌∷◌, ℕ, ◌≤◌, ℤ, length}
use Rattle.std.proofs.Common.{sym, ◌∙◌, ap, subst}
use Rattle.std.proofs.Math.Seq.{length-sets}
use Rattle.words.specs.Outcomes.{outcome}
use Rattle.formula.specs.Limits.{limits}
use Rattle.reader.specs.declared.Reader.{Reader}
use Rattle.text.specs.Pieces.{piece_of, begun, in_pieces, whole}
use Rattle.text.proofs.Whole.{ended, pieces_read}
use Rattle.saved.specs.Numbers.{reader_numbers, reader_of, written}
use Rattle.saved.proofs.Back.{comes_back, piece_within, reader_within, begun_within}
use Rattle.mokihazureo.specs.Called.{Lent, lent, told}
use Rattle.answers.specs.Answers.{read_status, read_numbers}
use Rattle.mokihazureo.specs.Reading.{read_call, piece_call, end_call}

-- ---- [calls.pieces] any number of pieces, called one after the other
unfoldable pub pieces_called : List (List ℕ) → List ℕ → List ℤ → Lent (List ℤ)
pieces_called [] s o = lent o s
pieces_called (p ∷ ps) s o = pieces_called ps (piece_call s p o).answer (piece_call s p o).memory

agree : (ps : List (List ℕ)) (s : List ℕ) (o : List ℤ) → 12 ≤ length s → let v = pieces_called ps s o in outcome (reader_of v.answer) v.memory ≡ in_pieces ps (reader_of s) o
unfolding pieces_called in_pieces
agree [] s o h = refl
agree (p ∷ ps) s o h =
    let u = piece_of p (reader_of s) o in
    let n = length-sets s 0 (reader_numbers u.answer) in
    agree ps (written u.answer s) u.memory (subst (λ (m : ℕ). 12 ≤ m) (sym n) h)
    ∙ ap (λ (r : Reader). in_pieces ps r u.memory) (comes_back u.answer s (piece_within p (reader_of s) o (reader_within s)) h)

-- [text.pieces] begin, the pieces and end: the status, the answer and the output of the whole text
pub called_in_pieces : (ps : List (List ℕ)) (s : List ℕ) (o : List ℤ) (a : List ℕ) → 12 ≤ length s
    → let v = pieces_called ps (written begun s) o in end_call limits v.answer v.memory a ≡ read_call limits (whole ps) o a
called_in_pieces ps s o a h =
    let n = length-sets s 0 (reader_numbers begun) in
    let e = agree ps (written begun s) o (subst (λ (m : ℕ). 12 ≤ m) (sym n) h) ∙ ap (λ (r : Reader). in_pieces ps r o) (comes_back begun s begun_within h) in
    ap (told read_status read_numbers a) (ap (ended limits) e ∙ pieces_read ps o)
