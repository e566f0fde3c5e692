-- The block is an accepted one, the levels are told so, and a fresh table is blank.
use Rattle.std.proofs.Common.{rules}
use Rattle.tables.specs.Laws.Blanks.{new_blank}
use Rattle.tables.proofs.lent.Tables.of.Goals as goal

pub invariant_of-result : goal.invariant_of-result
invariant_of-result c = record { accepted = c.requires; told = search rules; blank = search (rules, new_blank) }
