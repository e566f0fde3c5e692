-- Rows 6, 10 and 23 along a list, from its end to its start: what holds of a tail holds of the list.
use Rattle.std.specs.Prelude.{◌≡◌, true, ◌||◌, List, [], ◌∷◌, ℕ, zero, suc, ◌+◌, ◌<◌, ℤ, pos, neg_ℤ, nat_abs, length, drop, get_or}
use Rattle.words.specs.Laws.Bools.{or_r}
use Rattle.words.specs.Lists.{any}
use Rattle.words.specs.Laws.Lists.{next}
use Rattle.words.specs.Words.{mem}
use Rattle.formula.specs.Block.{names, twice, both_signs, repeats}

pub twice_drop : (i : ℕ) (ws : List ℤ) → twice (drop i ws) ≡ true → twice ws ≡ true
unfolding twice
twice_drop zero ws h = h
twice_drop (suc i) [] h = h
twice_drop (suc i) (w ∷ ws) h = or_r (any (names (nat_abs w)) ws) (twice_drop i ws h)

pub signs_drop : (i : ℕ) (ls : List ℤ) → both_signs (drop i ls) ≡ true → both_signs ls ≡ true
unfolding both_signs
signs_drop zero ls h = h
signs_drop (suc i) [] h = h
signs_drop (suc i) (l ∷ ls) h = or_r (mem (neg_ℤ l) ls) (signs_drop i ls h)

-- the words from the i-th on
module _ (ws : List ℤ) (i : ℕ) (h : i < length ws) where
  pub twice_at : twice (drop i ws) ≡ any (names (nat_abs (get_or ws i (pos 0)))) (drop (i + 1) ws) || twice (drop (i + 1) ws)
  unfolding twice
  twice_at = rw (next ws i (pos 0) h)

  pub signs_at : both_signs (drop i ws) ≡ mem (neg_ℤ (get_or ws i (pos 0))) (drop (i + 1) ws) || both_signs (drop (i + 1) ws)
  unfolding both_signs
  signs_at = rw (next ws i (pos 0) h)

  pub repeats_at : repeats (drop i ws) ≡ mem (get_or ws i (pos 0)) (drop (i + 1) ws) || repeats (drop (i + 1) ws)
  unfolding repeats
  repeats_at = rw (next ws i (pos 0) h)
