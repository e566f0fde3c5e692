-- Readers whose numbers fit their buffers.
use Rattle.std.specs.Prelude.{◌≡◌}
use Rattle.reader.specs.declared.Kept.{Kept}
use Rattle.reader.specs.declared.Reader.{Reader}
use Rattle.reader.specs.Keep.{capped}

-- ---- a reader whose numbers are within the cap, as all are that the calls give
pub record KeptWithin (k : Kept) : Type 0 where
  pub variables : capped k.variables ≡ k.variables
  pub count : capped k.count ≡ k.count
  pub bound : capped k.bound ≡ k.bound
  pub clauses : capped k.clauses ≡ k.clauses
  pub literals : capped k.literals ≡ k.literals

pub record Within (r : Reader) : Type 0 where
  pub number : capped r.number ≡ r.number
  pub kept : KeptWithin r.kept
