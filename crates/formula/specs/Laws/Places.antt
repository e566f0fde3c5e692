-- A place has one word, a literal one place, and opposites are as far from one end of the table as from the other. By the cases of a word.
use Rattle.std.specs.Prelude.{◌≡◌, refl, ◌⊎◌, true, false, ℕ, zero, suc, ◌+◌, ◌-◌, ◌*◌, ◌≤◌, ◌<◌, ltb, ℤ, pos, negsuc, neg_ℤ, nat_abs, ◌+ℤ◌}
use Rattle.std.proofs.Common.{inl, inr, arith, lt-ltb, le-ltb, ltb-true, ltb-false}
use Rattle.std.proofs.Math.IntN.{sub_ℕ}
use Rattle.words.specs.Laws.Bools.{look}
use Rattle.formula.specs.Limits.{limits}
use Rattle.formula.specs.Inner.Places.{place_of, word_at}

pub place_word : (at : ℕ) → place_of (word_at at) ≡ at
unfolding place_of word_at
place_word at = go (look (ltb at limits.variables))
  where
    go : (ltb at limits.variables ≡ true) ⊎ (ltb at limits.variables ≡ false) → place_of (sub_ℕ at limits.variables) ≡ at
    go (inl h) = let l = ltb-true at limits.variables h in rw h (omega arith)
    go (inr h) = let l = ltb-false at limits.variables h in rw h (omega arith)

pub word_place : (x : ℤ) → nat_abs x ≤ limits.variables → word_at (place_of x) ≡ x
unfolding place_of word_at
word_place (pos n) h =
    let l : limits.variables ≤ limits.variables + n = omega arith in
    let e : limits.variables + n - limits.variables ≡ n = omega arith in
    rw (le-ltb (limits.variables + n) limits.variables l, e)
word_place (negsuc n) h =
    let l : limits.variables - suc n < limits.variables = omega arith in
    let e : limits.variables - suc (limits.variables - suc n) ≡ n = omega arith in
    rw (lt-ltb (limits.variables - suc n) limits.variables l, e)

pub raised : (x : ℤ) → nat_abs x ≤ limits.variables → x +ℤ pos limits.variables ≡ pos (place_of x)
unfolding place_of
raised (pos n) h = let e : n + limits.variables ≡ limits.variables + n = omega arith in rw e
raised (negsuc n) h = rw (le-ltb limits.variables (suc n) h)

pub place_within : (x : ℤ) → nat_abs x ≤ limits.variables → place_of x ≤ 2 * limits.variables
unfolding place_of
place_within (pos n) h = omega arith
place_within (negsuc n) h = omega arith

-- a variable's two places
pub place_plus : (v : ℕ) → place_of (pos v) ≡ limits.variables + v
unfolding place_of
place_plus v = refl

pub place_minus : (v : ℕ) → place_of (neg_ℤ (pos v)) ≡ limits.variables - v
unfolding place_of
place_minus zero = omega arith
place_minus (suc n) = refl

-- opposites are as far from one end of the table as from the other
pub place_opposite : (x : ℤ) → nat_abs x ≤ limits.variables → place_of (neg_ℤ x) ≡ 2 * limits.variables - place_of x
unfolding place_of
place_opposite (pos zero) h = omega arith
place_opposite (pos (suc n)) h = omega arith
place_opposite (negsuc n) h = omega arith
