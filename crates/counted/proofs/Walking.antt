-- One turn of a walk over a part of the index.
use Rattle.std.specs.Prelude.{ℕ, ◌+◌, ◌-◌, ◌*◌, ◌≤◌, ◌<◌, ◌≡◌, refl, List, [], ◌∷◌, length, get_or, drop, set}
use Rattle.std.proofs.Common.{ap, arith}
use Rattle.words.specs.Laws.Lists.{next, ended}
use Rattle.formula.specs.Limits.{limits}
use Rattle.counted.specs.Inner.Walk.{Bounded, Lowered, Movable, Moved, Renumbered, added}
use Rattle.counted.proofs.Laws.Walk.{added_drop, added_own, lower, moves, sinks}
use Rattle.counted.specs.declared.numbers.Numbers.{Numbers}
use Rattle.counted.specs.declared.walk.Bounds.{Bounds}

bounded_begin : (L ts os : List ℕ) (b : Bounds) → Bounded L ts os b L ts os b
bounded_begin L ts os b = record {
  conflict_less = omega arith;
  conflict = λ n. n;
  unit_less = omega arith;
  unit = λ c h i z e. omega arith;
}

left_is : (L : List ℕ) (k c d : ℕ) → k < length L → c ≡ get_or L k d → drop k L ≡ c ∷ drop (k + 1) L
left_is L k c d h is = rw is (next L k d h)

pub walked : (L : List ℕ) (k c d : ℕ) → k < length L → c ≡ get_or L k d → 0 < added 1 c L
walked L k c d h is = omega (arith, ap (added 1 c) (left_is L k c d h is), added_own 1 c (drop (k + 1) L), added_drop 1 c k L)

-- ---- one list of numbers, at place k of the walk
module _ (a b : ℕ) (L xs₀ : List ℕ) (ok : Movable a b L xs₀) (xs : List ℕ) (k : ℕ) (w : Moved a b L xs₀ (drop k L) xs) (h : k < length L) where
  abbrev here : ℕ
  here = get_or L k 0

  on : 0 < added 1 here L
  on = walked L k here 0 h refl

  there : Moved a b L xs₀ (here ∷ drop (k + 1) L) xs
  there = rw (left_is L k here 0 h refl) at w

  most : (d : ℕ) → added d here (here ∷ drop (k + 1) L) ≤ added d here L
  most d = rw (left_is L k here 0 h refl) at (added_drop d here k L)

  pub move_inside : here < length xs
  move_inside = omega (arith, ok.inside here on, w.kept)

  pub move_small : get_or xs here 0 + a ≤ limits.literals
  move_small = omega (arith, ok.small here on, there.said here, added_own a here (drop (k + 1) L), most b)

  pub move_enough : b ≤ get_or xs here 0 + a
  move_enough = sinks a b L xs₀ here (drop (k + 1) L) xs move_inside there most (ok.enough here on)

  pub move_turn : Moved a b L xs₀ (drop (k + 1) L) (set xs here (get_or xs here 0 + a - b))
  move_turn = moves a b L xs₀ here (drop (k + 1) L) xs move_inside there most (ok.enough here on)

-- ---- the two lists and the bounds
module _ (more less : Numbers) (L ts₀ os₀ : List ℕ) (b₀ : Bounds) where
  pub walk_begin : Renumbered more less L ts₀ os₀ b₀ L ts₀ os₀ b₀
  walk_begin = record {
    trues = record { kept = refl; said = λ c. refl };
    opens = record { kept = refl; said = λ c. refl };
    bounds = bounded_begin L ts₀ os₀ b₀;
  }

  pub walk_end : (ts os : List ℕ) (b : Bounds) (k : ℕ) → length L ≤ k → Renumbered more less L ts₀ os₀ b₀ (drop k L) ts os b → Renumbered more less L ts₀ os₀ b₀ [] ts os b
  walk_end ts os b k h w = rw (ended L k h) at w

  pub walk_turn : (t : Movable more.trues less.trues L ts₀) (o : Movable more.opens less.opens L os₀) (ts os : List ℕ) (b : Bounds) (k : ℕ) → Renumbered more less L ts₀ os₀ b₀ (drop k L) ts os b → k < length L
      → (n : ℕ) → n ≡ 2 * (get_or ts (get_or L k 0) 0 + more.trues - less.trues) + (get_or os (get_or L k 0) 0 + more.opens - less.opens) → (r : Bounds) → Lowered b (get_or L k 0) n r
      → Renumbered more less L ts₀ os₀ b₀ (drop (k + 1) L) (set ts (get_or L k 0) (get_or ts (get_or L k 0) 0 + more.trues - less.trues)) (set os (get_or L k 0) (get_or os (get_or L k 0) 0 + more.opens - less.opens)) r
  walk_turn t o ts os b k w h n is r l = record {
    trues = move_turn _ _ L ts₀ t ts k w.trues h;
    opens = move_turn _ _ L os₀ o os k w.opens h;
    bounds = lower L ts₀ os₀ b₀ (get_or L k 0) (drop (k + 1) L) ts os b at_c _ _ (move_inside _ _ L ts₀ t ts k w.trues h) (move_inside _ _ L os₀ o os k w.opens h) r (rw is at l);
  }
    where
      at_c : Bounded L ts₀ os₀ b₀ (get_or L k 0 ∷ drop (k + 1) L) ts os b
      at_c = rw (left_is L k (get_or L k 0) 0 h refl) at w.bounds
