-- A piece as its loop sees it: no byte, and one byte more. By induction on the bytes.
use Rattle.std.specs.Prelude.{◌≡◌, refl, List, [], ◌∷◌, ◌++◌, ℕ, ℤ}
use Rattle.std.proofs.Common.{sym, ◌∙◌, ap}
use Rattle.words.specs.Outcomes.{Outcome, outcome}
use Rattle.reader.specs.declared.Reader.{Reader}
use Rattle.reader.specs.Byte.{byte_of}
use Rattle.text.specs.Pieces.{piece_of}

pub cut : (xs ys : List ℕ) (r : Reader) (o : List ℤ) → piece_of (xs ++ ys) r o ≡ piece_of ys (piece_of xs r o).answer (piece_of xs r o).memory
unfolding piece_of
cut [] ys r o = refl
cut (x ∷ xs) ys r o = cut xs ys (byte_of r o x).answer (byte_of r o x).memory

pub piece_none : (r : Reader) (o : List ℤ) → outcome r o ≡ piece_of [] r o
unfolding piece_of
piece_none r o = refl

pub piece_more : (xs : List ℕ) (b : ℕ) (r r₁ r₂ : Reader) (o o₁ o₂ : List ℤ) → outcome r₁ o₁ ≡ piece_of xs r o → outcome r₂ o₂ ≡ byte_of r₁ o₁ b → outcome r₂ o₂ ≡ piece_of (xs ++ b ∷ []) r o
unfolding piece_of
piece_more xs b r r₁ r₂ o o₁ o₂ h e = e ∙ ap (λ (z : Outcome (List ℤ) Reader). byte_of z.answer z.memory b) h ∙ sym (cut xs (b ∷ []) r o)
