-- A laid block has the parts that it was laid from, and laying it keeps the output's length.
use Rattle.std.specs.Prelude.{◌≡◌, ℕ, ◌+◌, ℤ, length, take, drop}
use Rattle.std.proofs.Math.Path.{refl, ap}
use Rattle.std.proofs.Common.{sym, ◌∙◌, arith, length-append, drop-drop}
use mathlib.Core.List.{List, ◌++◌, append_assoc}
use Rattle.std.proofs.lemmas.List.Edits.{sets}
use Rattle.std.proofs.Math.Seq.{length-sets, take_at, drop_at, take-length}
use Rattle.formula.specs.Formula.{prefix_of, ends_of, literals_of}
use Rattle.laid.specs.Block.{completed, header, laid, laid_in}

module _ (n : ℕ) (ws es ls : List ℤ) (long : length (completed n ws ls) ≡ n) where
  after_header : drop 6 (laid n ws es ls) ≡ completed n ws ls ++ (es ++ ls)
  unfolding laid
  after_header = append_assoc (completed n ws ls) es ls

  after_prefix : drop (6 + n) (laid n ws es ls) ≡ es ++ ls
  after_prefix = sym (drop-drop n 6 (laid n ws es ls)) ∙ ap (drop n) after_header ∙ drop_at (completed n ws ls) (es ++ ls) n long

  pub laid_prefix : prefix_of (laid n ws es ls) ≡ completed n ws ls
  unfolding laid
  laid_prefix = ap (take n) after_header ∙ take_at (completed n ws ls) (es ++ ls) n long

  pub laid_ends : ends_of (laid n ws es ls) ≡ es
  unfolding laid
  laid_ends = ap (take (length es)) after_prefix ∙ take_at es ls (length es) refl

  pub laid_literals : literals_of (laid n ws es ls) ≡ ls
  unfolding laid
  laid_literals = ap (take (length ls)) (sym (drop-drop (length es) (6 + n) (laid n ws es ls)) ∙ ap (drop (length es)) after_prefix ∙ drop_at es ls (length es) refl) ∙ take-length ls

  pub laid_length : length (laid n ws es ls) ≡ 6 + n + length es + length ls
  unfolding laid
  laid_length = simp (length-append) (omega arith)

pub laid_in_length : (o : List ℤ) (v bound c t : ℕ) → length (laid_in o v bound c t) ≡ length o
unfolding laid_in
laid_in_length o v bound c t =
    let p = completed v (take bound (drop 6 o)) (take t (drop (6 + v + c) o)) in
    length-sets (sets o 6 p) 0 (header v c t) ∙ length-sets o 6 p
