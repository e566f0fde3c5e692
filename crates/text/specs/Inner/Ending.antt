-- What the functions at a text's end say to each other.
use Rattle.std.specs.Prelude.{Bool, ◌||◌, List, [], ◌∷◌, ℕ, ltb, ℤ}
use Rattle.words.specs.Lists.{any}
use Rattle.words.specs.Rows.{Row, row}
use Rattle.formula.specs.Limits.{Limits}
use Rattle.formula.specs.Block.{no_variable, twice}
use Rattle.reader.specs.declared.Kept.{Kept}

abbrev pub over_limit : Limits → ℕ → ℕ → ℕ → Bool
over_limit L v c t = ltb L.variables v || ltb L.clauses c || ltb L.literals t

-- rows 5 and 6 of the bound words
abbrev pub bound_rows : Kept → List ℤ → List Row
bound_rows k ws = row 5 (k.over || any (no_variable k.variables) ws) ∷ row 6 (ltb k.variables k.bound || twice ws) ∷ []
