-- The tables are those of a checked record, and what was written of them is wiped.
use Rattle.words.specs.Outcomes.{both_same}
use Rattle.record.specs.Trail.{trail, record_of}
use Rattle.record.specs.Inner.Ready.{Bound}
use Rattle.record.proofs.Laws.Records.{kept_room}
use Rattle.record.proofs.Laws.Accepted.{held_on, accepted_bound}
use Rattle.tables.specs.Laws.Blanks.{same_blank}
use Rattle.rules.proofs.Laws.ClausesReady.{sorts, kept_tabled}
use Rattle.rules.proofs.ordered.due.Goals as goal

pub values_of-values-requires : goal.values_of-values-requires
values_of-values-requires c = (held_on _ _ _ c.requires).written

pub fill-requires-clause-bound : goal.fill-requires-clause-bound
fill-requires-clause-bound c = rw c.prefix-prefix.ensures (accepted_bound _ c.requires.block)

pub due_by-rule-requires-clause-count_in_bounds : goal.due_by-rule-requires-clause-count_in_bounds
due_by-rule-requires-clause-count_in_bounds c = (kept_room c.requires.kept).kinds

pub wipe-requires-clause-n_le_variables : goal.wipe-requires-clause-n_le_variables
wipe-requires-clause-n_le_variables c = let b : Bound c.prefix-prefix.result.now = rw c.prefix-prefix.ensures (accepted_bound _ c.requires.block) in b.room

pub returns-clause-rule : goal.returns-clause-rule
returns-clause-rule c =
    let told = kept_tabled _ _ _ c.requires.kept _ c.values_of-values.ensures in
    let b : Bound c.prefix-prefix.result.now = rw c.prefix-prefix.ensures (accepted_bound _ c.requires.block) in
    let sorting = sorts _ b _ _ told.values told.consistent _ c.fill.ensures in
    both_same (c.due_by-rule.ensures (record_of (trail c.args.lits.now c.args.kinds.now) c.args.count) told (rw (← c.prefix-prefix.ensures) sorting)) (same_blank c.wipe.ensures c.args.tables.now.blank)
