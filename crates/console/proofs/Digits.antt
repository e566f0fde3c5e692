-- The value of a word's digits, one byte at a time: a byte that is no digit, or one digit too many, ends it, and any other goes on.
use Rattle.std.proofs.Common.{◌≡◌, refl, cond, ◌&&◌, leb, Bool, true, false, List, [], ◌∷◌, ℕ, ◌+◌, ◌<◌, ◌≤◌, length, take, get_or, drop, arith, Option, Some, None, eqb}
use lib.Pointwise.{pointwise}
use Rattle.words.specs.Laws.Lists.{next, ended}
use Rattle.console.specs.Room.{long_most}
use Rattle.console.specs.Numbers.{digit, grown, one_more, value_of, natural_of, signed, number_of}

-- a test beside no other
first : (s : Bool) → (s && true) ≡ true → s ≡ true
first true e = refl
first false e = cc

alone : (s : Bool) → (s && true) ≡ false → s ≡ false
alone true e = cc
alone false e = refl

-- what a test that ends the digits ends, and what one that goes on goes on with
stopped : (t : Bool) (k : ℕ) (y : Option ℕ) → None ≡ cond t (Some k) None → None ≡ cond t y None
stopped true k y e = cc
stopped false k y e = refl

gone_on : (t : Bool) (k m : ℕ) (y : ℕ → Option ℕ) → Some m ≡ cond t (Some k) None → cond t (y k) None ≡ y m
gone_on true k m y e = cc
gone_on false k m y e = cc

module _ (n : ℕ) (w : List ℕ) (i : ℕ) (h : i < length w) where
  pub stops : None ≡ one_more n (get_or w i 0) → None ≡ value_of n (drop i w)
  unfolding value_of
  stops e = rw (next w i 0 h) (stopped (digit (get_or w i 0) && leb (grown n (get_or w i 0)) long_most) _ _ e)

  pub goes : (m : ℕ) → Some m ≡ one_more n (get_or w i 0) → value_of n (drop i w) ≡ value_of m (drop (i + 1) w)
  unfolding value_of
  goes m e = rw (next w i 0 h) (gone_on (digit (get_or w i 0) && leb (grown n (get_or w i 0)) long_most) _ m (λ k. value_of k (drop (i + 1) w)) e)

pub begins : (w : List ℕ) → (length w ≡ 0 → ⊥) → value_of 0 w ≡ natural_of w
unfolding natural_of
begins [] f = absurd (f refl)
begins (b ∷ bs) f = refl

pub empty : (w : List ℕ) → length w ≡ 0 → None ≡ natural_of w
unfolding natural_of
empty [] e = refl
empty (b ∷ bs) e = absurd (omega arith)

pub ends : (n : ℕ) (w : List ℕ) (i : ℕ) → length w ≤ i → value_of n (drop i w) ≡ Some n
unfolding value_of
ends n w i h = rw (ended w i h)

-- the number of a word, by whether it begins with a minus
pub minus : (w : List ℕ) → pointwise eqb (take 1 w) (45 ∷ []) ≡ true → signed true (natural_of (drop 1 w)) ≡ number_of w
unfolding number_of
minus [] e = cc
minus (b ∷ bs) e = let m : eqb b 45 ≡ true = first _ e in rw m refl

pub plain : (w : List ℕ) → pointwise eqb (take 1 w) (45 ∷ []) ≡ false → signed false (natural_of w) ≡ number_of w
unfolding natural_of number_of
plain [] e = refl
plain (b ∷ bs) e = let m : eqb b 45 ≡ false = alone _ e in rw m refl
