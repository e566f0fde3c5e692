-- The theorem on pieces: begin, any pieces in turn and end answer what reading their concatenation answers, and leave the same output. [text.pieces]
use Rattle.std.specs.Prelude.{◌≡◌, refl, ◌⊎◌, true, false, List, [], ◌∷◌, ℕ, ◌+◌, ℤ, length}
use Rattle.std.proofs.Common.{sym, ◌∙◌, ap, inl, inr}
use native.Mathlib.Omega.{arith}
use Rattle.words.specs.Laws.Bools.{look}
use Rattle.words.specs.Outcomes.{Outcome, outcome}
use Rattle.formula.specs.Limits.{Limits, limits}
use Rattle.reader.specs.declared.Kept.{Kept}
use Rattle.reader.specs.declared.Reader.{Reader}
use Rattle.grammar.specs.Machine.{Event, fresh, start, trace}
use Rattle.grammar.specs.Events.{heard, hear_say}
use Rattle.grammar.specs.Reads.{taken, reads}
use Rattle.text.specs.Tree.{Reading, text_of, answered, read_of}
use Rattle.reader.specs.Keep.{capped, keeps}
use Rattle.text.specs.Pieces.{piece_of, nothing_kept, begun, settled, end_of, in_pieces, whole}
use Rattle.grammar.proofs.Laws.Left.{sound}
use Rattle.grammar.proofs.Laws.Viable.{fresh_state}
pub use Rattle.text.proofs.Laws.Turns.{cut}
use Rattle.text.proofs.Laws.Followed.{Followed, followed}
use Rattle.reader.proofs.Laws.Kept.{keeps_length}
use Rattle.text.proofs.Laws.Kept.{tree_kept_lem, tree_kept, tree_output}
use Rattle.text.proofs.Laws.Rows.{Hidden, limits_hidden}
use Rattle.text.proofs.Laws.Settled.{settled_is}

-- ---- however a text is cut
pub however_cut : (ps : List (List ℕ)) (r : Reader) (o : List ℤ) → in_pieces ps r o ≡ piece_of (whole ps) r o
unfolding in_pieces whole piece_of
however_cut [] r o = refl
however_cut (p ∷ ps) r o = however_cut ps (piece_of p r o).answer (piece_of p r o).memory ∙ sym (cut p (whole ps) r o)

-- ---- a whole text
abbrev pub ended : Limits → Outcome (List ℤ) Reader → Outcome (List ℤ) Reading
ended L r = end_of L r.answer r.memory

module _ (L : Limits) (hidden : Hidden L) (bs : List ℕ) (o : List ℤ) where
  abbrev said : List Event
  said = (trace start 0 bs).said

  -- a text's end
  module _ (r : Outcome (List ℤ) Reader) (f : Followed start 0 0 nothing_kept o bs r) where
    at_end : fresh (trace start 0 bs).last ≡ true → settled r.answer.kept r.memory L ≡ text_of L (heard said).text o
    at_end h =
        let (more, g) = fresh_state (trace start 0 bs).last h in
        let s = sound bs more g in
        let t = s.text in
        let k : outcome r.answer.kept r.memory ≡ outcome (tree_kept t) (tree_output t o) = f.keeping ∙ ap (keeps nothing_kept o) (sym s.said) ∙ tree_kept_lem t o in
        let z : (heard said).text ≡ t = sym (ap (λ es. (heard es).text) s.said) ∙ hear_say t in
        ap (λ (u : Outcome (List ℤ) Kept). settled u.answer u.memory L) k ∙ settled_is L hidden t o ∙ ap (λ u. text_of L u o) (sym z)

    kept_length : length r.memory ≡ length o
    kept_length = ap (λ (u : Outcome (List ℤ) Kept). length u.memory) f.keeping ∙ keeps_length nothing_kept o said

    ended_is : ended L r ≡ read_of L bs o
    unfolding end_of read_of answered reads
    ended_is = by (look (fresh (trace start 0 bs).last))
      where
        by : (fresh (trace start 0 bs).last ≡ true) ⊎ (fresh (trace start 0 bs).last ≡ false) → ended L r ≡ read_of L bs o
        by (inl h) = rw (f.state, h) (at_end h)
        by (inr h) = let z : 0 + taken start bs ≡ taken start bs = omega arith in rw (f.state, h, f.at, z, kept_length)

  pub read_is : ended L (piece_of bs begun o) ≡ read_of L bs o
  unfolding begun capped
  read_is = ended_is (piece_of bs begun o) (followed start 0 0 nothing_kept o bs)

-- ---- [text.pieces] begin, the pieces in turn, and end: what reading their concatenation answers and leaves
pub pieces_read : (ps : List (List ℕ)) (o : List ℤ) → ended limits (in_pieces ps begun o) ≡ read_of limits (whole ps) o
pieces_read ps o = ap (ended limits) (however_cut ps begun o) ∙ read_is limits limits_hidden (whole ps) o
