-- Laws of an opening's values: there is one for each word of the group, of the same variable, in the same order, and any values are those of some
-- number below 2^k; and the first group is the start of the prefix. By induction on the group.
use Prim.Native.Nat.{ℕ, suc, ◌+◌, ◌*◌, ◌-◌, ◌^◌, ◌/◌, ◌%◌, ◌≤◌, ◌<◌}
use Rattle.std.specs.Prelude.{◌≡◌, Bool, false, ◌&&◌, eqb, ltb, ℤ, pos, neg_ℤ, nat_abs}
use Rattle.std.proofs.Math.Path.{refl, ap}
use Rattle.std.proofs.Common.{◌∙◌, inl, inr, pow-suc, add_comm, pow-add, pow_pos, length-take-le, lt-ltb}
use Rattle.std.specs.Bool.{beq}
use mathlib.Core.List.{List, [], ◌∷◌}
use Rattle.std.proofs.Math.Nat.{add-mul-div_right, add-mul-mod_self_right, div-eq_of_lt}
use native.Mathlib.Omega.{arith}
use Rattle.std.proofs.Math.Arith.{digits_div}
use Rattle.std.proofs.Math.ListN.{length}
use Rattle.words.specs.Laws.Bools.{look}
use Rattle.words.specs.Words.{negative}
use Rattle.words.specs.Laws.Words.{nat_abs_neg}
use Rattle.formula.specs.Formula.{Formula, word, run, first_group}
use Rattle.formula.specs.Block.{twice}
use Rattle.formula.specs.Laws.Prefix.{stands, stands_step, twice_head, twice_tail, twice_cons}
use Rattle.theory.specs.Witness.{group_of, signed}
use Rattle.listing.specs.Opening.{values_of, value_at}

-- ---- one value
value_variable : (n j : ℕ) (q : ℤ) → nat_abs (value_at n j q) ≡ nat_abs q
value_variable n j q = elim (look (eqb (n / 2 ^ j % 2) 1)) [ inl e ↦ rw e | inr e ↦ rw e (nat_abs_neg (pos (nat_abs q))) ]

stands_var : (ws : List ℤ) (x y : ℤ) → nat_abs x ≡ nat_abs y → stands ws x ≡ stands ws y
unfolding stands
stands_var ws x y e = rw e

-- ---- all of them
module _ (n : ℕ) where
  pub values_length : (g : List ℤ) → length (values_of n g) ≡ length g
  unfolding values_of
  values_length [] = refl
  values_length (q ∷ g) = ap suc (values_length g)

  -- their variables are the group's
  pub values_stand : (g : List ℤ) (x : ℤ) → stands (values_of n g) x ≡ stands g x
  unfolding values_of
  values_stand [] x = refl
  values_stand (q ∷ g) x = rw (stands_step (value_at n (length g) q) (values_of n g) x, stands_step q g x, value_variable n (length g) q, values_stand g x)

  pub values_twice : (g : List ℤ) → twice g ≡ false → twice (values_of n g) ≡ false
  unfolding values_of
  values_twice [] h = h
  values_twice (q ∷ g) h =
      let v = value_at n (length g) q in
      twice_cons v (values_of n g) (values_stand g v ∙ stands_var g v q (value_variable n (length g) q) ∙ twice_head q g h) (values_twice g (twice_tail q g h))

-- ---- the numbers of values
-- a bit above leaves the bits below
bit_high : (r t d : ℕ) → (2 ^ (suc d + t) + r) / 2 ^ t % 2 ≡ r / 2 ^ t % 2
bit_high r t d =
    rw (pow-add 2 (suc d) t, pow-suc 2 d, add_comm (2 ^ d * 2 * 2 ^ t) r, add-mul-div_right r (2 ^ d * 2) {z = 2 ^ t} (pow_pos t)) (add-mul-mod_self_right (r / 2 ^ t) (2 ^ d) 2)

values_high : (i r : ℕ) (g : List ℤ) → length g ≤ i → values_of (2 ^ i + r) g ≡ values_of r g
unfolding values_of
values_high i r [] h = refl
values_high i r (q ∷ g) h =
    let e : suc (i - suc (length g)) + length g ≡ i = omega arith in
    rw (rw e at (bit_high r (length g) (i - suc (length g))), values_high i r g (omega arith))

-- with the bit of the first word, and without it
module _ (r : ℕ) (q : ℤ) (g : List ℤ) (l : r < 2 ^ length g) where
  pub values_one : values_of (2 ^ length g + r) (q ∷ g) ≡ pos (nat_abs q) ∷ values_of r g
  unfolding values_of
  values_one =
      let x : 2 ^ length g + r ≡ 1 * 2 ^ length g + r = omega arith in
      let b : (2 ^ length g + r) / 2 ^ length g ≡ 1 = rw x (digits_div 1 l) in
      rw (values_high (length g) r g (omega arith), b)

  pub values_zero : values_of r (q ∷ g) ≡ neg_ℤ (pos (nat_abs q)) ∷ values_of r g
  unfolding values_of
  values_zero = let b : r / 2 ^ length g ≡ 0 = div-eq_of_lt l in rw b

  pub below_both : (2 ^ length g + r < 2 ^ suc (length g)) × (r < 2 ^ suc (length g))
  below_both = let z = pow-suc 2 (length g) in (omega arith, omega arith)

-- whatever the signs, some number has these values
pub number_of : (s : ℤ → Bool) (g : List ℤ) → (n : ℕ) × (n < 2 ^ length g) × (values_of n g ≡ signed s g)
unfolding values_of signed
number_of s [] = (0, omega arith, refl)
number_of s (q ∷ g) =
    let (r, l, e) = number_of s g in
    let (x, y) = below_both r q g l in
    elim (look (s q)) [ inl z ↦ (2 ^ length g + r, x, rw z (values_one r q g l ∙ rw e)) | inr z ↦ (r, y, rw z (values_zero r q g l ∙ rw e)) ]

-- ---- the first group and the rest of the prefix
run_few : (s : Bool) (p : List ℤ) → run s p ≤ length p
unfolding run
run_few s [] = omega arith
run_few s (q ∷ p) = let k = run_few s p in elim (look (beq s (negative q))) [ inl e ↦ rw e (omega arith) | inr e ↦ rw e (omega arith) ]

pub group_few : (p : List ℤ) → first_group p ≤ length p
unfolding first_group
group_few [] = omega arith
group_few (q ∷ p) = run_few (negative q) (q ∷ p)

pub group_length : (F : Formula) → length (group_of F) ≡ first_group F.prefix
group_length F = length-take-le (first_group F.prefix) F.prefix (group_few F.prefix)

-- [row.18] an empty prefix has no first word, and the word past its end is not negative
pub first_word : (p : List ℤ) → (ltb 0 (length p) && negative (word p 0)) ≡ negative (word p 0)
first_word [] = refl
first_word (q ∷ p) = let h : 0 < length (q ∷ p) = omega arith in rw (lt-ltb 0 (length (q ∷ p)) h)
