-- Values put before values, innermost first.
use Rattle.std.specs.Prelude.{ℤ}
use mathlib.Core.List.{List, [], ◌∷◌}

-- literals made true one after the other, so the newest stands first
unfoldable pub onto : List ℤ → List ℤ → List ℤ
onto [] σ = σ
onto (v ∷ vs) σ = onto vs (v ∷ σ)
