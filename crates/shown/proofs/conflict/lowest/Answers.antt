-- The due rule of a checked record, by tables of its own.
use Rattle.std.proofs.Common.{◌∙◌, ap}
use Rattle.words.specs.Outcomes.{same_answer}
use Rattle.shown.specs.Inner.Conflict.{conflict_of}
use Rattle.shown.proofs.conflict.lowest.Goals as goal

pub of-tables-requires : goal.of-tables-requires
of-tables-requires c = c.requires.block

pub due-requires : goal.due-requires
due-requires c = rw c.of-tables.ensures c.requires

pub returns : goal.returns
returns c =
    let due = rw c.of-tables.ensures at c.due.ensures.rule in
    c.of_rule.ensures ∙ ap conflict_of (same_answer due)
