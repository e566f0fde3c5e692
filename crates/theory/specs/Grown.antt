-- Assignments that grow: by one more literal, and by the entries of a record.
use Rattle.std.specs.Prelude.{◌||◌, List, [], ◌∷◌, ℤ}
use Rattle.words.specs.Words.{eq_z}
use Rattle.theory.specs.Record.{entry, Record, Assignment}

-- l becomes true
unfoldable pub put : ℤ → Assignment → Assignment
put l ρ x = eq_z x l || ρ x

-- the literals of the entries become true
unfoldable pub after : Assignment → Record → Assignment
after ρ [] = ρ
after ρ (e ∷ s) = after (put e.literal ρ) s

-- a record of forced literals
unfoldable pub given : List ℤ → Record
given [] = []
given (l ∷ ls) = entry 0 l ∷ given ls
