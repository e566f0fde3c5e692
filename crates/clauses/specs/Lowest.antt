-- The search for the lowest clause of a kind.
use Rattle.std.specs.Prelude.{ℕ, suc, Bool, cond, List, [], ◌∷◌, Option, Some, None}

-- the lowest clause that passes, the first of them being number n
unfoldable pub lowest : {A : Type 0} → (A → Bool) → ℕ → List A → Option ℕ
lowest f n [] = None
lowest f n (x ∷ xs) = cond (f x) (Some n) (lowest f (suc n) xs)
