-- A block laid out from its parts: the header, the prefix with what the lines leave free and idle, the clause ends and the literals.
use Rattle.std.specs.Prelude.{ℕ, zero, suc, ◌+◌, Bool, not, cond, ◌&&◌, List, [], ◌∷◌, ◌++◌, ℤ, pos, length, take, drop}
use Rattle.std.proofs.lemmas.List.Edits.{sets}
use Rattle.words.specs.Lists.{any}
use Rattle.formula.specs.Block.{names}

-- those of the n numbers from v on that pass a test, ascending, as existential words
unfoldable pub those : (ℕ → Bool) → ℕ → ℕ → List ℤ
those f v zero = []
those f v (suc n) = cond (f v) (pos v ∷ those f (suc v) n) (those f (suc v) n)

-- [text.free] a clause names the variable, and no quantifier line does. [text.idle] neither does
abbrev pub free : List ℤ → List ℤ → ℕ → Bool
free ws ls v = not (any (names v) ws) && any (names v) ls

abbrev pub idle : List ℤ → List ℤ → ℕ → Bool
idle ws ls v = not (any (names v) ws) && not (any (names v) ls)

unfoldable pub completed : ℕ → List ℤ → List ℤ → List ℤ
completed n ws ls = those (free ws ls) 1 n ++ ws ++ those (idle ws ls) 1 n

-- [block.header] [block.offsets]
abbrev pub header : ℕ → ℕ → ℕ → List ℤ
header v c t = pos v ∷ pos c ∷ pos t ∷ pos 6 ∷ pos (6 + v) ∷ pos (6 + v + c) ∷ []

-- the block of n variables, the prefix words ws, the clause ends es and the literals ls
unfoldable pub laid : ℕ → List ℤ → List ℤ → List ℤ → List ℤ
laid n ws es ls = header n (length es) (length ls) ++ completed n ws ls ++ es ++ ls

-- the completed prefix and the header, written over what stands in the output
unfoldable pub laid_in : List ℤ → ℕ → ℕ → ℕ → ℕ → List ℤ
laid_in o v bound c t = sets (sets o 6 (completed v (take bound (drop 6 o)) (take t (drop (6 + v + c) o)))) 0 (header v c t)
