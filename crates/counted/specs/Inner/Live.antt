-- A literal is live if some clause that holds it has no true literal.
use Rattle.std.specs.Prelude.{ℕ, ◌<◌, Bool, List, eqb, length, get_or}
use Rattle.words.specs.Lists.{any}
use Rattle.counted.specs.Inner.Walk.{added}

-- a number of the list stands at 0
unfoldable pub some_zero : List ℕ → List ℕ → Bool
some_zero ts L = any (λ c. eqb (get_or ts c 0) 0) L

-- every number of the list has its place
abbrev pub Within : List ℕ → List ℕ → Type 0
Within L ts = (c : ℕ) → 0 < added 1 c L → c < length ts
