-- An accepted block's prefix is bound.
use Rattle.record.proofs.Laws.Accepted.{accepted_bound}
use Rattle.tables.proofs.by_variable.levels.Goals as goal

pub levels_of-requires : goal.levels_of-requires
levels_of-requires c = rw c.prefix.ensures (accepted_bound _ c.requires)
