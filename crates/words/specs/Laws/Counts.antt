-- How many of the numbers 1 to n pass a test. A test that one more of them passes counts one more, and if n do, each does: pigeons and holes.
use Rattle.std.specs.Prelude.{◌≡◌, Bool, true, false, ◌||◌, ◌⊎◌, eqb}
use Rattle.std.proofs.Math.Path.{refl}
use Rattle.std.proofs.Math.Bool.{cond}
use Rattle.std.proofs.Common.{inl, inr}
use Prim.Native.Nat.{ℕ, zero, suc, ◌≤◌, ◌<◌}
use Rattle.std.proofs.Math.Decide.{ℕ_discrete}
use native.Mathlib.Omega.{arith}
use borrow.Author.Tests.{eq-eqb, ne_eqb}
use Rattle.words.specs.Laws.Bools.{look}

unfoldable pub count : (ℕ → Bool) → ℕ → ℕ
count f zero = 0
count f (suc n) = cond (f (suc n)) (suc (count f n)) (count f n)

pub count_most : (f : ℕ → Bool) (n : ℕ) → count f n ≤ n
unfolding count
count_most f zero = omega arith
count_most f (suc n) = by (f (suc n)) (count_most f n)
  where
    by : (t : Bool) → count f n ≤ n → cond t (suc (count f n)) (count f n) ≤ suc n
    by true h = omega arith
    by false h = omega arith

pub count_none : (f : ℕ → Bool) → ((v : ℕ) → f v ≡ false) → (n : ℕ) → count f n ≡ 0
unfolding count
count_none f h zero = refl
count_none f h (suc n) = rw (h (suc n)) (count_none f h n)

-- if n of the numbers 1 to n pass, each of them does
pub count_all : (f : ℕ → Bool) (n : ℕ) → count f n ≡ n → (v : ℕ) → 0 < v → v ≤ n → f v ≡ true
unfolding count
count_all f zero e v p q = absurd (omega arith)
count_all f (suc n) e v p q = by (look (f (suc n))) (ℕ_discrete v (suc n)) (count_all f n)
  where
    by : (f (suc n) ≡ true) ⊎ (f (suc n) ≡ false) → Dec (v ≡ suc n) → (count f n ≡ n → (v : ℕ) → 0 < v → v ≤ n → f v ≡ true) → f v ≡ true
    by (inl t) (yes s) ih = rw s t
    by (inl t) (no k) ih = let e' : suc (count f n) ≡ suc n = rw t at e in ih (omega arith) v p (omega arith)
    by (inr t) d ih = let e' : count f n ≡ suc n = rw t at e in absurd (omega (arith, count_most f n))

-- g passes what f passes, and s besides
module _ (f g : ℕ → Bool) (s : ℕ) (also : (v : ℕ) → g v ≡ (eqb v s || f v)) where
  count_before : (n : ℕ) → n < s → count g n ≡ count f n
  unfolding count
  count_before zero h = refl
  count_before (suc n) h =
      let k : suc n ≡ s → ⊥ = λ e. omega arith in
      rw (also (suc n), ne_eqb (suc n) s k, count_before n (omega arith))

  pub count_more : f s ≡ false → 0 < s → (n : ℕ) → s ≤ n → count g n ≡ suc (count f n)
  unfolding count
  count_more no-s some zero h = absurd (omega arith)
  count_more no-s some (suc n) h = by (ℕ_discrete (suc n) s) (look (f (suc n))) (count_more no-s some n)
    where
      by : Dec (suc n ≡ s) → (f (suc n) ≡ true) ⊎ (f (suc n) ≡ false) → (s ≤ n → count g n ≡ suc (count f n)) → cond (g (suc n)) (suc (count g n)) (count g n) ≡ suc (cond (f (suc n)) (suc (count f n)) (count f n))
      by (yes e) t ih = rw (also (suc n), eq-eqb (suc n) s e, e, no-s, count_before n (omega arith))
      by (no k) (inl t) ih = rw (also (suc n), ne_eqb (suc n) s k, t, ih (omega arith))
      by (no k) (inr t) ih = rw (also (suc n), ne_eqb (suc n) s k, t, ih (omega arith))
