-- [record] [reasons] The memory that is lent beside the block: the record's two buffers, and the reasons.
use Rattle.std.specs.Prelude.{ℕ, min, List, ℤ, length}
use Rattle.record.specs.Trail.{Trail, trail}
use Rattle.record.specs.Search.{Search}

pub record Memory : Type 0 where
  pub trail : Trail
  pub reasons : List ℕ

abbrev pub memory : List ℤ → List ℕ → List ℕ → Memory
memory ls ks ws = record { trail = trail ls ks; reasons = ws }

-- what a search leaves in it, and the reasons beside it
abbrev pub memory_of : Search → List ℕ → Memory
memory_of t ws = record { trail = t.trail; reasons = ws }

-- [row.11] as many places as each buffer has: the record's two, and all three
abbrev pub record_places : Trail → ℕ
record_places t = min (length t.lits) (length t.kinds)

abbrev pub places : Memory → ℕ
places m = min (record_places m.trail) (length m.reasons)
