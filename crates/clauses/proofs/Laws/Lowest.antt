-- What the search for the lowest finds, and what it means that it finds nothing. By induction on the list that is searched.
use Prim.Native.Nat.{ℕ, suc, ◌+◌, ◌<◌}
use Rattle.std.proofs.Math.Path.{◌≡◌, refl}
use Rattle.std.specs.Prelude.{Bool, ◌||◌, length, get_or, Some, None}
use Rattle.std.proofs.Math.Bool.{true, false, cond}
use mathlib.Core.List.{List, [], ◌∷◌}
use native.Mathlib.Omega.{arith}
use Rattle.words.specs.Lists.{In, here, there, any}
use Rattle.clauses.specs.Lowest.{lowest}

-- none passes
module _ {A : Type 0} (f : A → Bool) where
  pub lowest_none : (n : ℕ) (xs : List A) → lowest f n xs ≡ None → any f xs ≡ false
  unfolding lowest any
  lowest_none n [] e = refl
  lowest_none n (x ∷ xs) e = go (f x) (lowest_none (suc n) xs) e
    where
      go : (b : Bool) → (lowest f (suc n) xs ≡ None → any f xs ≡ false) → cond b (Some n) (lowest f (suc n) xs) ≡ None → (b || any f xs) ≡ false
      go true ih e = let z : ◌≡◌ {A = ℕ} 0 1 = cc in absurd (omega arith)
      go false ih e = ih e

  -- it passes and stands in the list
  pub lowest_at : (d : A) (n : ℕ) (xs : List A) (i : ℕ) → lowest f n xs ≡ Some i → (j : ℕ) × (i ≡ n + j) × In (get_or xs j d) xs × (f (get_or xs j d) ≡ true)
  unfolding lowest
  lowest_at d n [] i e = let z : ◌≡◌ {A = ℕ} 0 1 = cc in absurd (omega arith)
  lowest_at d n (x ∷ xs) i e = go (f x) refl (lowest_at d (suc n) xs i) e
    where
      go : (b : Bool) → f x ≡ b → (lowest f (suc n) xs ≡ Some i → (j : ℕ) × (i ≡ suc n + j) × In (get_or xs j d) xs × (f (get_or xs j d) ≡ true))
          → cond b (Some n) (lowest f (suc n) xs) ≡ Some i → (j : ℕ) × (i ≡ n + j) × In (get_or (x ∷ xs) j d) (x ∷ xs) × (f (get_or (x ∷ xs) j d) ≡ true)
      go true p ih e = let z : n ≡ i = cc in (0, omega arith, here refl, p)
      go false p ih e = let r = ih e in (suc r.0, omega (arith, r.1), there r.2, r.3)

-- and its number is one of theirs
pub lowest_below : {A : Type 0} (f : A → Bool) (n : ℕ) (xs : List A) (i : ℕ) → lowest f n xs ≡ Some i → i < n + length xs
unfolding lowest
lowest_below f n [] i e = let z : ◌≡◌ {A = ℕ} 0 1 = cc in absurd (omega arith)
lowest_below f n (x ∷ xs) i e = go (f x) (lowest_below f (suc n) xs i) e
  where
    go : (b : Bool) → (lowest f (suc n) xs ≡ Some i → i < suc n + length xs) → cond b (Some n) (lowest f (suc n) xs) ≡ Some i → i < n + length (x ∷ xs)
    go true ih e = let z : n ≡ i = cc in omega arith
    go false ih e = let h = ih e in omega arith
