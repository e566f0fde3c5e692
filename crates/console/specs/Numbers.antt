-- The number that a word stands for: "numbers are decimal with an optional `-`".
use Rattle.std.specs.Prelude.{Bool, true, false, cond, ◌&&◌, List, [], ◌∷◌, ℕ, ◌+◌, ◌-◌, ◌*◌, leb, eqb, ℤ, pos, neg_ℤ, Option, Some, None, IfSome, ◌≡◌}
use Rattle.console.specs.declared.numbers.Number.{Number}
use Rattle.console.specs.Room.{long_most}

-- a byte is one of the digits, from `0`, 48, to `9`, 57
abbrev pub digit : ℕ → Bool
digit b = leb 48 b && leb b 57

-- the value so far, with one more digit, and that if it is one and it stays within 64 bits
abbrev pub grown : ℕ → ℕ → ℕ
grown n b = n * 10 + (b - 48)

abbrev pub one_more : ℕ → ℕ → Option ℕ
one_more n b = cond (digit b && leb (grown n b) long_most) (Some (grown n b)) None

-- the value of digits, read on from the value so far, if they are digits and it stays within 64 bits
unfoldable pub value_of : ℕ → List ℕ → Option ℕ
value_of n [] = Some n
value_of n (b ∷ bs) = cond (digit b && leb (grown n b) long_most) (value_of (grown n b) bs) None

-- at least one digit
unfoldable pub natural_of : List ℕ → Option ℕ
natural_of [] = None
natural_of (b ∷ bs) = value_of 0 (b ∷ bs)

abbrev pub signed : Bool → Option ℕ → Option Number
signed negative None = None
signed negative (Some size) = Some (record { negative = negative; size = size })

-- a `-`, 45, may stand before the digits
unfoldable pub number_of : List ℕ → Option Number
number_of [] = None
number_of (b ∷ bs) = cond (eqb b 45) (signed true (natural_of bs)) (signed false (natural_of (b ∷ bs)))

-- the word of a sign and a size
abbrev pub word_of : Bool → ℕ → ℤ
word_of true size = neg_ℤ (pos size)
word_of false size = pos size

-- a word stands for a number
abbrev pub StandsFor : List ℕ → ℤ → Type 0
StandsFor word q = IfSome (number_of word) (λ number. q ≡ word_of number.negative number.size)
