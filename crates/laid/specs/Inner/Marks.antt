-- Tables by variable: which of them some words name, and which of them are picked.
use Rattle.std.specs.Prelude.{Bool, true, false, not, cond, ◌&&◌, List, [], ◌∷◌, ℕ, ℤ, nat_abs, get_or, set}

-- a word past the table's end marks nothing
unfoldable pub marked : List Bool → List ℤ → List Bool
marked t [] = t
marked t (w ∷ ws) = marked (set t (nat_abs w) true) ws

unfoldable pub picked : List Bool → List Bool → Bool → ℕ → Bool
picked bound named wanted v = not (get_or bound v false) && cond wanted (get_or named v false) (not (get_or named v false))
