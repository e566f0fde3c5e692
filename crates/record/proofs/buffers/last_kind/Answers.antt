-- The search from the back answers at the last place that has the kind; below it none is looked at.
use Rattle.std.proofs.Common.{rules}
use Rattle.record.proofs.Laws.Last.{last_kind_is}
use Rattle.record.proofs.buffers.last_kind.Goals as goal

pub returns : goal.returns
returns c = last_kind_is c.args.kinds.now c.args.kind c.args.count c.requires c.rposition.result (search rules)
