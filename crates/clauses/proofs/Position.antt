-- The lowest clause of a kind is the one that `position` finds, which says how many are before it. By induction on the list.
use Rattle.std.specs.Prelude.{◌≡◌, ℕ, suc, ◌+◌, Bool, true, false, not, cond, ltb, List, [], ◌∷◌, length, Option, Some, None}
use Rattle.std.specs.List.{position_or_len}
use Rattle.std.specs.Option.{option_map}
use Rattle.std.proofs.Common.{refl, ◌∙◌, ap, arith}
use Rattle.clauses.specs.Lowest.{lowest}

module _ {A : Type 0} (f : A → Bool) where
  lowest_position : (n : ℕ) (xs : List A) → lowest f n xs ≡ cond (ltb (position_or_len f xs) (length xs)) (Some (n + position_or_len f xs)) None
  unfolding lowest
  lowest_position n [] = refl
  lowest_position n (x ∷ xs) = go (f x) (lowest_position (suc n) xs)
    where
      p : ℕ
      p = position_or_len f xs

      shift : (q i : ℕ) → q ≡ suc p → i ≡ suc n + p → cond (ltb p (length xs)) (Some (suc n + p)) None ≡ cond (ltb q (suc (length xs))) (Some i) None
      shift q i e h =
          let same : ltb p (length xs) ≡ ltb (suc p) (suc (length xs)) = grind arith in
          rw (e, h) (ap (λ b. cond b (Some (suc n + p)) None) same)

      go : (b : Bool) → lowest f (suc n) xs ≡ cond (ltb p (length xs)) (Some (suc n + p)) None
          → cond b (Some n) (lowest f (suc n) xs) ≡ cond (ltb (cond (not b) (1 + p) 0) (length (x ∷ xs))) (Some (n + cond (not b) (1 + p) 0)) None
      go true ih =
          let some : ltb 0 (suc (length xs)) ≡ true = grind arith in
          let at : n ≡ n + 0 = omega arith in
          rw (some, ← at) refl
      go false ih = ih ∙ shift (1 + p) (n + (1 + p)) (omega arith) (omega arith)

  pub lowest_after : (n : ℕ) (xs : List A) (r : Option ℕ) → r ≡ cond (ltb (position_or_len f xs) (length xs)) (Some (position_or_len f xs)) None → lowest f n xs ≡ option_map (λ at. n + at) r
  lowest_after n xs r e = lowest_position n xs ∙ go (ltb (position_or_len f xs) (length xs)) e
    where
      go : (b : Bool) → r ≡ cond b (Some (position_or_len f xs)) None → cond b (Some (n + position_or_len f xs)) None ≡ option_map (λ at. n + at) r
      go true e = rw e refl
      go false e = rw e refl
