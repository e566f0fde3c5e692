-- A literal is open by its variable; the tables are those of the record and of the prefix, and mean what the definitions say.
use Rattle.std.proofs.Common.{◌≡◌, ◌∙◌, nat_abs, rules}
use Rattle.record.specs.Inner.Ready.{Bound}
use Rattle.record.proofs.Laws.Accepted.{accepted_bound}
use Rattle.choice.specs.Laws.VariablesMean.{lowest_means, open_means}
use Rattle.choice.proofs.open.is_open.Goals as goal

pub lowest_level-lowest-requires : goal.lowest_level-lowest-requires
lowest_level-lowest-requires c = rw c.prefix-prefix.ensures (accepted_bound _ c.requires.held_on.block)

pub open_variable-requires : goal.open_variable-requires
open_variable-requires c = let b : Bound c.prefix-prefix.result.now = rw c.prefix-prefix.ensures (accepted_bound _ c.requires.held_on.block) in b.room

pub returns : goal.returns
returns c =
    let b : Bound c.prefix-prefix.result.now = rw c.prefix-prefix.ensures (accepted_bound _ c.requires.held_on.block) in
    let low = lowest_means _ b _ _ c.values_of-values.ensures c.args.levels.now (rw c.prefix-prefix.ensures c.requires.levels) in
    let v : c.size-v.result ≡ nat_abs c.args.literal.0 = search rules in
    rw (← c.prefix-prefix.ensures)
    (c.open_variable.ensures ∙ rw v (open_means _ b _ _ c.values_of-values.ensures c.args.levels.now (rw c.prefix-prefix.ensures c.requires.levels) _ (rw c.lowest_level-lowest.ensures low) c.args.literal.0))
