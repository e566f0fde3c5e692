-- The first that a test picks, by index: what a look at a list from its front finds. By induction on the list.
use Rattle.std.specs.Prelude.{ℕ, zero, suc, ◌<◌, ◌≡◌, refl, List, [], ◌∷◌, ℤ, pos, length, get_or, drop, Option, Some, None, MatchOption}
use Rattle.std.proofs.Common.{arith}
use Rattle.words.specs.declared.Literal.{Literal}
use Rattle.choice.specs.First.{first_of}

module _ (f : ℤ → Option Literal) where
  pub first_past : (xs : List ℤ) → ((j : ℕ) → j < length xs → f (get_or xs j (pos 0)) ≡ None) → None ≡ first_of f xs
  unfolding first_of
  first_past [] h = refl
  first_past (x ∷ xs) h = rw (h 0 (omega arith)) (first_past xs (λ j l. h (suc j) (omega arith)))

  pub first_here : (xs : List ℤ) (i : ℕ) → i < length xs → ((j : ℕ) → j < i → f (get_or xs j (pos 0)) ≡ None) → {l : Literal} → f (get_or xs i (pos 0)) ≡ Some l → Some l ≡ first_of f xs
  unfolding first_of
  first_here [] i k h e = absurd (omega arith)
  first_here (x ∷ xs) zero k h e = rw e
  first_here (x ∷ xs) (suc i) k h e = rw (h 0 (omega arith)) (first_here xs i (omega arith) (λ j l. h (suc j) (omega arith)) e)

  -- the words before the i-th pick nothing, so those from it on pick the same
  pub first_later : (xs : List ℤ) (i : ℕ) → ((j : ℕ) → j < i → f (get_or xs j (pos 0)) ≡ None) → first_of f (drop i xs) ≡ first_of f xs
  unfolding first_of
  first_later xs zero h = refl
  first_later [] (suc i) h = refl
  first_later (x ∷ xs) (suc i) h = rw (h 0 (omega arith)) (first_later xs i (λ j l. h (suc j) (omega arith)))

  -- as `find_map` says it
  pub first_is : (xs : List ℤ) (r : Option Literal)
      → MatchOption r ((j : ℕ) → j < length xs → f (get_or xs j (pos 0)) ≡ None) (λ l. (i : ℕ) × (i < length xs) × (f (get_or xs i (pos 0)) ≡ Some l) × ((j : ℕ) → j < i → f (get_or xs j (pos 0)) ≡ None))
      → r ≡ first_of f xs
  first_is xs None h = first_past xs h
  first_is xs (Some l) h = first_here xs h.0 h.1 h.3 h.2
