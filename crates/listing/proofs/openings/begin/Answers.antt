-- The first V places are wiped, and the words that are lent are the first group.
use Rattle.listing.proofs.Groups.{writable, begun}
use Rattle.listing.proofs.openings.begin.Goals as goal

pub write_values-requires : goal.write_values-requires
write_values-requires c = writable c.requires c.prefix.ensures c.take.ensures c.clear.auto.lits

pub returns : goal.returns
returns c = begun c.requires c.prefix.ensures c.take.ensures c.args.n c.size_at.ensures c.clear.ensures c.write_values.ensures
