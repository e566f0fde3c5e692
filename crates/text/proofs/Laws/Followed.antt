-- The reader follows the machine: it comes to the machine's state, counts the bytes that it takes, and keeps of a text what the text's events make.
-- By induction on the bytes.
use Rattle.std.specs.Prelude.{◌≡◌, refl, ◌⊎◌, true, false, cond, List, [], ◌∷◌, ℕ, suc, ◌+◌, min, ℤ}
use Rattle.std.proofs.Common.{sym, ◌∙◌, ap, inl, inr, arith}
use Rattle.words.specs.Laws.Bools.{look}
use Rattle.words.specs.Outcomes.{Outcome, outcome}
use Rattle.grammar.specs.declared.State.{State}
use Rattle.grammar.specs.declared.State.TheVariants.{Dead}
use Rattle.reader.specs.declared.Kept.{Kept}
use Rattle.reader.specs.declared.Reader.{Reader}
use Rattle.grammar.specs.Machine.{alive, move, shift, events, trace}
use Rattle.grammar.specs.Reads.{taken}
use Rattle.reader.specs.Keep.{keeps}
use Rattle.reader.specs.Byte.{last_place}
use Rattle.text.specs.Pieces.{piece_of}
use Rattle.grammar.proofs.Laws.Viable.{dead_is}
use Rattle.reader.proofs.Laws.Kept.{keeps_append}
use Rattle.reader.proofs.Laws.Byte.{reader, byte_follows}

taken_dead : (bs : List ℕ) → taken Dead bs ≡ 0
unfolding taken move alive
taken_dead [] = refl
taken_dead (b ∷ bs) = refl

-- ---- a text, from any state on
pub record Followed (s : State) (n a : ℕ) (k : Kept) (o : List ℤ) (bs : List ℕ) (r : Outcome (List ℤ) Reader) : Type 0 where
  pub state : r.answer.state ≡ (trace s n bs).last
  pub at : r.answer.at ≡ min (a + taken s bs) last_place
  pub keeping : outcome r.answer.kept r.memory ≡ keeps k o (trace s n bs).said

taken_step : (s : State) (b a : ℕ) (bs : List ℕ) → cond (alive (move s b).to) (suc a) a + taken (move s b).to bs ≡ a + taken s (b ∷ bs)
unfolding taken
taken_step s b a bs = by (look (alive (move s b).to))
  where
    by : (alive (move s b).to ≡ true) ⊎ (alive (move s b).to ≡ false) → cond (alive (move s b).to) (suc a) a + taken (move s b).to bs ≡ a + cond (alive (move s b).to) (suc (taken (move s b).to bs)) 0
    by (inl e) = rw e (omega arith)
    by (inr e) = rw (e, dead_is (move s b).to e, taken_dead bs)

pub followed : (s : State) (n a : ℕ) (k : Kept) (o : List ℤ) (bs : List ℕ) → Followed s n a k o bs (piece_of bs (reader s n a k) o)
unfolding piece_of trace keeps taken
followed s n a k o [] = record { state = refl; at = omega arith; keeping = refl }
followed s n a k o (b ∷ bs) = rw (byte_follows s n a k o b) (further (followed (move s b).to (shift s b n) (cond (alive (move s b).to) (suc a) a) z.answer z.memory bs))
  where
    z : Outcome (List ℤ) Kept
    z = keeps k o (events (move s b).says n)

    further : {r : Outcome (List ℤ) Reader} → Followed (move s b).to (shift s b n) (cond (alive (move s b).to) (suc a) a) z.answer z.memory bs r → Followed s n a k o (b ∷ bs) r
    further f = record {
      state = f.state;
      at = f.at ∙ ap (λ m. min m last_place) (taken_step s b a bs);
      keeping = f.keeping ∙ sym (keeps_append k o (events (move s b).says n) (trace (move s b).to (shift s b n) bs).said);
    }
