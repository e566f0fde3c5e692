-- Three runs, one after the other.
use Rattle.std.proofs.Common.{◌≡◌, ◌∙◌, ap, arith, List, ◌++◌, ℤ, ℕ, ◌+◌, ◌-◌, ◌≤◌, length}
use borrow.Rule.Slice.PartMut.{put_mid}
use Rattle.std.proofs.Math.Seq.{length-sets}
use Rattle.std.proofs.lemmas.List.Edits.{sets}
use Rattle.words.specs.Outcomes.{outcome, Outcome}
use Rattle.laid.specs.Laws.Stores.{three_runs, part_is_sets}
use Rattle.laid.proofs.prefix.write_prefix.Goals as goal

-- xs, then the words ys as a part of its own, then zs
runs : (xs ys zs ys' l o o' : List ℤ) (a b : ℕ) → outcome a o ≡ outcome (6 + length xs) (sets l 6 xs) → ys' ≡ ys → 6 + length xs + length ys ≤ length l
    → outcome b o' ≡ outcome (a + length ys + length zs) (sets (put_mid a (a + length ys - a) o ys') (a + length ys) zs) → o' ≡ sets l 6 (xs ++ ys ++ zs)
runs xs ys zs ys' l o o' a b first same room last =
    let n : a ≡ 6 + length xs = ap (λ (u : Outcome (List ℤ) ℕ). u.answer) first in
    let h : o ≡ sets l 6 xs = ap (λ (u : Outcome (List ℤ) ℕ). u.memory) first in
    let k : a + length ys - a ≡ length ys = omega arith in
    let fits : a + length ys ≤ length o = omega (arith, ap length h ∙ length-sets l 6 xs) in
    ap (λ (u : Outcome (List ℤ) ℕ). u.memory) last ∙ rw (part_is_sets ys' ys o a (a + length ys - a) k fits same, h, n) (three_runs xs ys zs l 6)

pub returns : goal.returns
returns c = runs _ c.args.lines.now _ _ c.args.output.now _ _ _ _ c.write_those-first.ensures (c.copy_from_slice.ensures.after) (omega (arith, c.requires.v_in_bounds)) c.write_those.ensures
