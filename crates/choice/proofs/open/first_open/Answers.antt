-- The tables are those of the record and of the prefix, and mean what the definitions say.
use Rattle.std.proofs.Common.{◌∙◌, ap}
use Rattle.record.specs.Found.{literal}
use Rattle.record.specs.Inner.Ready.{Bound}
use Rattle.record.proofs.Laws.Accepted.{accepted_bound}
use Rattle.choice.specs.Laws.VariablesMean.{lowest_means, preferred_means}
use Rattle.choice.proofs.open.first_open.Goals as goal

pub lowest_level-lowest-requires : goal.lowest_level-lowest-requires
lowest_level-lowest-requires c = rw c.prefix-prefix.ensures (accepted_bound _ c.requires.held_on.block)

pub first_in-requires : goal.first_in-requires
first_in-requires c = let b : Bound c.prefix-prefix.result.now = rw c.prefix-prefix.ensures (accepted_bound _ c.requires.held_on.block) in b.room

pub returns : goal.returns
returns c =
    let b : Bound c.prefix-prefix.result.now = rw c.prefix-prefix.ensures (accepted_bound _ c.requires.held_on.block) in
    let low = lowest_means _ b _ _ c.values_of-values.ensures c.args.levels.now (rw c.prefix-prefix.ensures c.requires.levels) in
    rw (← c.prefix-prefix.ensures)
    (c.first_in.ensures ∙ ap literal (preferred_means _ b _ _ c.values_of-values.ensures c.args.levels.now (rw c.prefix-prefix.ensures c.requires.levels) _ (rw c.lowest_level-lowest.ensures low) _))
