-- The start is the opening's, and a record that passes row 12; a table of reasons has a place for each variable.
use Rattle.std.proofs.Common.{arith}
use Rattle.words.specs.Outcomes.{same_answer}
use Rattle.listing.proofs.Groups.{in_table, searchable, searched}
use Rattle.listing.proofs.openings.try_opening.Goals as goal

pub search-found-requires : goal.search-found-requires
search-found-requires c =
    record { on = searchable c.requires.on_group c.args.n c.begin.ensures; places = omega (arith, c.requires.reasons_len, in_table c.requires.on_group) }

pub returns-clause-search : goal.returns-clause-search
returns-clause-search c =
    searched c.requires.on_group c.args.n c.begin.ensures c.args.preferred.now c.args.budget (same_answer c.search-found.ensures.search.0)
