-- The question that a variable asks of the answers for its two literals: `asked`, one of its two values or both. By cases.
use Rattle.std.specs.Prelude.{◌≡◌, refl, ◌⊎◌, Bool, true, false}
use Rattle.std.proofs.Common.{sym, inl, inr}
use Rattle.std.proofs.Math.Bool.{and_comm, or_comm}
use Rattle.words.specs.Laws.Bools.{and_l, and_r, and_i, or_r}
use Rattle.formula.specs.Truth.{asked}

-- either literal may come first
pub asked_comm : (b x y : Bool) → asked b x y ≡ asked b y x
unfolding asked
asked_comm false x y = or_comm x y
asked_comm true x y = and_comm x y

-- two questions of one kind may change places
pub asked_exchange : (b x y z w : Bool) → asked b (asked b x y) (asked b z w) ≡ asked b (asked b x z) (asked b y w)
unfolding asked
asked_exchange false true y z w = refl
asked_exchange false false true true w = refl
asked_exchange false false true false w = refl
asked_exchange false false false z w = refl
asked_exchange true true true z w = refl
asked_exchange true true false true w = refl
asked_exchange true true false false w = refl
asked_exchange true false y z w = refl

-- the second answer adds nothing
pub asked_first : (b x y : Bool) → (b ≡ false → y ≡ true → x ≡ true) → (b ≡ true → x ≡ true → y ≡ true) → asked b x y ≡ x
unfolding asked
asked_first false true y f g = refl
asked_first false false true f g = sym (f refl refl)
asked_first false false false f g = refl
asked_first true true y f g = g refl refl
asked_first true false y f g = refl

-- to ask for both fails if one fails; either question fails if both fail
pub asked_false : (x y : Bool) → (x ≡ false) ⊎ (y ≡ false) → asked true x y ≡ false
unfolding asked
asked_false x y (inl h) = rw h
asked_false true y (inr h) = h
asked_false false y (inr h) = refl

pub asked_both_false : (b x y : Bool) → x ≡ false → y ≡ false → asked b x y ≡ false
unfolding asked
asked_both_false false x y h k = rw (h, k)
asked_both_false true x y h k = rw h

-- better answers, better result
pub asked_more : (b x y z w : Bool) → (x ≡ true → z ≡ true) → (y ≡ true → w ≡ true) → asked b x y ≡ true → asked b z w ≡ true
unfolding asked
asked_more false true y z w f g h = rw (f refl)
asked_more false false y z w f g h = or_r z (g h)
asked_more true x y z w f g h = and_i (f (and_l x y h)) (g (and_r x y h))
