-- What is written from a place on. Bytes past the output's end are stored nowhere, but counted.
use Rattle.std.specs.Prelude.{Bool, true, false, List, [], ◌∷◌, ◌++◌, ℕ, ◌+◌, ◌≤◌, ℤ, nat_abs, length}
use Rattle.std.proofs.lemmas.List.Edits.{sets}
use Rattle.words.specs.Outcomes.{Outcome, outcome}
use Rattle.words.specs.Words.{negative}
use Rattle.grammar.specs.Grammar.{feed, space, '-', '0', 'a', 'e'}
use Rattle.grammar.specs.Written.{numeral}
use Rattle.writer.specs.Write.{last_of_group}

-- the place after the bytes, and the output with them
unfoldable pub wrote : List ℕ → ℕ → List ℕ → Outcome (List ℕ) ℕ
wrote o at bs = outcome (at + length bs) (sets o at bs)

-- the bytes end at a place that 32 bits hold
unfoldable pub Near : ℕ → List ℕ → Type 0
Near at bs = at + length bs ≤ 4294967295

-- a number and a space; a sign
abbrev pub spaced : ℕ → List ℕ
spaced n = numeral n ++ (space ∷ [])

abbrev pub sign_of : Bool → List ℕ
sign_of true = '-' ∷ []
sign_of false = []

-- what a quantifier's line begins with, for one that is universal or not, and what a line ends with
abbrev pub letter_of : Bool → ℕ
letter_of true = 'a'
letter_of false = 'e'

abbrev pub line_start : Bool → Bool → List ℕ
line_start true universal = letter_of universal ∷ space ∷ []
line_start false universal = []

abbrev pub line_end : Bool → List ℕ
line_end true = '0' ∷ feed ∷ []
line_end false = []

-- a word of the prefix, as the first of a line or not, as the last of one or not
unfoldable pub group_word : Bool → Bool → Bool → ℕ → List ℕ
group_word new universal last n = line_start new universal ++ (spaced n ++ line_end last)

-- the words from one on, which begins a line or not
unfoldable pub group_words : Bool → List ℤ → List ℕ
group_words new [] = []
group_words new (w ∷ ws) = group_word new (negative w) (last_of_group w ws) (nat_abs w) ++ group_words (last_of_group w ws) ws
