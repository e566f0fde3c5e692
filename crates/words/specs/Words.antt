-- [literal] A signed word as a literal. Its variable is its size, `nat_abs`; its opposite is its negation, `neg_ℤ`.
use Rattle.std.specs.Prelude.{Bool, true, false, cond, ◌||◌, List, [], ◌∷◌, leb, eqb, ℤ, pos, negsuc, neg_ℤ, nat_abs}

-- a word is below zero
abbrev pub negative : ℤ → Bool
negative (pos n) = false
negative (negsuc n) = true

-- [literal.least] the least 32-bit word has no opposite: for it stands 0, which is no literal
unfoldable pub opposite : ℤ → ℤ
opposite x = cond (leb (nat_abs x) 2147483647) (neg_ℤ x) (pos 0)

-- two words are the same
unfoldable pub eq_z : ℤ → ℤ → Bool
eq_z (pos m) (pos n) = eqb m n
eq_z (pos m) (negsuc n) = false
eq_z (negsuc m) (pos n) = false
eq_z (negsuc m) (negsuc n) = eqb m n

-- a word is one of the list's
unfoldable pub mem : ℤ → List ℤ → Bool
mem x [] = false
mem x (y ∷ ys) = eq_z x y || mem x ys
