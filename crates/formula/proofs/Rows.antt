-- A row's test of one word, from what the code found of its size and sign.
use mathlib.Core.Path.{◌≡◌, refl, sym, ◌∙◌, ap}
use mathlib.Core.Bool.{Bool, true, false, not, ◌||◌}
use Prim.Native.Nat.{ℕ}
use lib.Dec.{eqb, ltb}
use lib.IntN.{ℤ, pos, negsuc, nat_abs}
use Rattle.words.specs.Laws.Bools.{or_l, or_r}
use Rattle.words.specs.Words.{negative, eq_z}
use Rattle.formula.specs.Block.{is_not}
use Rattle.formula.specs.Laws.Ends.{bad_end}

-- 3: a word that is not the number n is negative or of another size
pub not_number : (n : ℕ) (w : ℤ) → is_not n w ≡ negative w || not (eqb (nat_abs w) n)
unfolding eq_z
not_number n (pos m) = refl
not_number n (negsuc m) = refl

-- 8
module _ (total from : ℕ) (e : ℤ) (s : ℕ) (is : s ≡ nat_abs e) where
  pub end_negative : (g : Bool) → g ≡ negative e → g ≡ true → bad_end total from e ≡ true
  unfolding bad_end
  end_negative g sign t = rw (← sign, t)

  pub end_falls : ltb s from ≡ true → bad_end total from e ≡ true
  unfolding bad_end
  end_falls f = or_l (ltb total (nat_abs e)) (or_r (negative e) (ap (λ n. ltb n from) (sym is) ∙ f))

  pub end_over : ltb total s ≡ true → bad_end total from e ≡ true
  unfolding bad_end
  end_over o = or_r (negative e || ltb (nat_abs e) from) (ap (ltb total) (sym is) ∙ o)

  pub end_fine : (g : Bool) → g ≡ negative e → g ≡ false → ltb s from ≡ false → ltb total s ≡ false → bad_end total from e ≡ false
  unfolding bad_end
  end_fine g sign p q r = rw (← is, ← sign, p, q, r)
