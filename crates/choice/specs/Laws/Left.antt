-- A loop that looks for the first word that a test picks: what is left from i on picks what the whole list does.
use Rattle.std.specs.Prelude.{ℕ, ◌+◌, ◌≤◌, ◌<◌, ◌≡◌, refl, List, ℤ, pos, length, get_or, drop, Option, Some, None}
use Rattle.std.proofs.Common.{arith}
use Rattle.words.specs.declared.Literal.{Literal}
use Rattle.words.specs.Laws.Lists.{next, ended}
use Rattle.choice.specs.First.{first_of}

pub record Left (f : ℤ → Option Literal) (xs : List ℤ) (i : ℕ) : Type 0 where
  pub at : i ≤ length xs
  pub same : first_of f (drop i xs) ≡ first_of f xs

module _ {f : ℤ → Option Literal} {xs : List ℤ} where
  pub left_begin : Left f xs 0
  left_begin = record { at = omega arith; same = refl }

  module _ {i : ℕ} (left : Left f xs i) where
    pub left_end : length xs ≤ i → None ≡ first_of f xs
    unfolding first_of
    left_end h = rw (ended xs i h) at left.same

    module _ (h : i < length xs) where
      pub left_here : {l : Literal} → f (get_or xs i (pos 0)) ≡ Some l → Some l ≡ first_of f xs
      unfolding first_of
      left_here e = rw (next xs i (pos 0) h, e) at left.same

      pub left_past : f (get_or xs i (pos 0)) ≡ None → Left f xs (i + 1)
      unfolding first_of
      left_past e = record { at = omega arith; same = rw (next xs i (pos 0) h, e) at left.same }
