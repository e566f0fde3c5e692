-- The ways out of writing, each with what led there: a row of the block, too little room, or the text.
use Rattle.std.specs.Prelude.{◌≡◌, List, [], ◌∷◌, ℕ, ◌+◌, ◌≤◌, ◌<◌, ltb, ℤ, Ok, Err}
use Rattle.std.proofs.Math.Path.{refl}
use Rattle.std.proofs.Common.{◌∙◌}
use native.Mathlib.Omega.{arith}
use Rattle.std.proofs.Math.ListN.{length}
use Rattle.std.proofs.Math.Seq.{sets}
use Rattle.std.proofs.lemmas.List.Edits.{sets-eq}
use borrow.Author.Tests.{le-ltb, lt-ltb}
use Rattle.words.specs.Rows.{row, refusal_of}
use Rattle.words.specs.declared.Refusal.{Refusal}
use Rattle.words.specs.Laws.Rows.{goes_on}
use Rattle.words.specs.Outcomes.{outcome, refused, same_answer, same_memory}
use Rattle.formula.specs.Limits.{limits}
use Rattle.formula.specs.Block.{rows, refusal}
use Rattle.formula.specs.Check.{checked_of}
use Rattle.formula.specs.Laws.Check.{checked_stops, checked_leaves}
use Rattle.formula.specs.Laws.Limits.{variables_are, clauses_are, literals_are}
use Rattle.formula.specs.Laws.Accepted.{accepted}
use Rattle.writer.specs.Write.{written_of, write_refusal, before, write_of}
use Rattle.writer.proofs.WrittenBack.{written_length}
use Rattle.writer.specs.Inner.Writing.{wrote, Near}

-- every text ends near
pub text_near : (b : List ℤ) → refusal limits b ≡ 0 → Near 0 (written_of b)
unfolding Near
text_near b e =
    let a = accepted limits b e in
    let l = written_length limits b e (omega (arith, variables_are)) (omega (arith, clauses_are)) in
    omega (arith, l, a.counts.variables.most, a.counts.clauses.most, a.counts.literals.most, variables_are, clauses_are, literals_are)

module _ (b : List ℤ) (o : List ℕ) where
  pub write_refused : (e : Refusal) → Err e ≡ checked_of (refusal limits b) → outcome (Err e) o ≡ write_of limits b o
  unfolding write_of write_refusal refusal
  write_refused e h = checked_leaves _ o _ e (checked_stops (rows limits b) (row 30 (ltb (length o) (length (written_of b))) ∷ []) e h)

  module _ (e : refusal limits b ≡ 0) where
    by_room : write_refusal limits b (length o) ≡ refusal_of (row 30 (ltb (length o) (length (written_of b))) ∷ [])
    unfolding write_refusal refusal
    by_room = goes_on (rows limits b) (row 30 (ltb (length o) (length (written_of b))) ∷ []) refl e

    module _ {n : ℕ} {p' : List ℕ} (p : List ℕ) (t : outcome n p' ≡ wrote p 0 (written_of b)) where
      long : n ≡ length (written_of b)
      unfolding wrote
      long = same_answer t ∙ omega arith

      pub write_short : length o < n → outcome (refused 30) o ≡ write_of limits b o
      unfolding write_of
      write_short h = rw (by_room, lt-ltb (length o) (length (written_of b)) (omega (arith, long)))

      pub write_fits : {k : ℕ} {o' : List ℕ} → n ≤ length o → outcome k o' ≡ wrote o 0 (written_of b) → outcome (Ok k) o' ≡ write_of limits b o
      unfolding write_of wrote
      write_fits {k} {o'} h w =
          let z : 0 + length (written_of b) ≡ length (written_of b) = omega arith in
          let s : sets o 0 (written_of b) ≡ before (written_of b) o = rw z at (sets-eq (written_of b) o 0 (omega (arith, long))) in
          rw (by_room, le-ltb (length o) (length (written_of b)) (omega (arith, long)), same_answer w ∙ z, same_memory w ∙ s)
