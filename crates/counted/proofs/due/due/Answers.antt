-- Each look finds what the rules' search finds, and leaves its bound.
use Rattle.record.proofs.Laws.Records.{kept_room}
use Rattle.counted.proofs.Laws.Due.{look_room, unit_room, free_room, finds_conflict, finds_unit, finds_free}
use Rattle.counted.proofs.due.due.Goals as goal

pub lowest-requires-clause-most_in_bounds : goal.lowest-requires-clause-most_in_bounds
lowest-requires-clause-most_in_bounds c = (look_room _ _ _ _ _ _ _ _ _ _ c.requires c.ends-ends.ensures).0

pub lowest-requires-clause-most_in_bounds_2 : goal.lowest-requires-clause-most_in_bounds_2
lowest-requires-clause-most_in_bounds_2 c = (look_room _ _ _ _ _ _ _ _ _ _ c.requires c.ends-ends.ensures).1

pub due_conflict-requires : goal.due_conflict-requires
due_conflict-requires c = (kept_room c.requires.on.kept).kinds

pub returns-in-Some : goal.returns-in-Some
returns-in-Some c x = finds_conflict _ _ _ _ _ _ _ _ _ _ x c.ends-ends.ensures c.in-Some.ensures c.due_conflict.ensures

pub lowest_unit-requires : goal.lowest_unit-requires
lowest_unit-requires c = unit_room _ _ _ _ _ _ _ _ _ _ c.requires c.ends-ends.ensures c.literals-words.ensures

pub due_free-requires-clause-walkable : goal.due_free-requires-clause-walkable
due_free-requires-clause-walkable c = free_room _ _ _ _ _ _ _ _ _ _ c.requires c.prefix-prefix.ensures

pub due_free-requires-clause-count_in_bounds : goal.due_free-requires-clause-count_in_bounds
due_free-requires-clause-count_in_bounds c = (kept_room c.requires.on.kept).kinds

pub returns-in-Some-lowest_unit : goal.returns-in-Some-lowest_unit
returns-in-Some-lowest_unit c x = finds_unit _ _ _ _ _ _ _ _ _ _ x c.ends-ends.ensures c.in_default.ensures c.literals-words.ensures c.lowest_unit.ensures _ _ c.in-Some-lowest_unit.is

pub returns-in-None : goal.returns-in-None
returns-in-None c x = finds_free _ _ _ _ _ _ _ _ _ _ x c.ends-ends.ensures c.in_default.ensures c.literals-words.ensures c.lowest_unit.ensures c.in-None.is c.prefix-prefix.ensures c.due_free.ensures
