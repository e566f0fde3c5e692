-- A clause with a true literal, σ holding the literals made true.
use Rattle.std.specs.Prelude.{Bool, List, ℤ}
use Rattle.words.specs.Lists.{any}
use Rattle.words.specs.Words.{mem}

abbrev pub met : List ℤ → List ℤ → Bool
met σ = any (λ (l : ℤ). mem l σ)
