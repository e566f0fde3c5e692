-- The tables are filled from the block and the record; from there on the search goes.
use Rattle.record.proofs.Laws.Accepted.{held_on}
use Rattle.tables.specs.Laws.Blanks.{new_blank}
use Rattle.counted.proofs.Laws.Start.{prefix_bound, prefix_written, clauses_few, index_long, numbers_lent, begins, ends_so, index_so}
use Rattle.counted.proofs.searches.search.Goals as goal

pub values_of-quantifiers-requires : goal.values_of-quantifiers-requires
values_of-quantifiers-requires c = prefix_written _ c.requires.on.on.block c.prefix-prefix.ensures

pub values_of-values-requires : goal.values_of-values-requires
values_of-values-requires c = (held_on _ _ _ c.requires.on.on).written

pub fill-requires-clause-bound : goal.fill-requires-clause-bound
fill-requires-clause-bound c = prefix_bound _ c.requires.on.on.block c.prefix-prefix.ensures

pub fill-requires-clause-blank : goal.fill-requires-clause-blank
fill-requires-clause-blank c = new_blank

pub enter_clauses-stops-requires-clause-few : goal.enter_clauses-stops-requires-clause-few
enter_clauses-stops-requires-clause-few c = clauses_few _ c.requires.on.on.block c.ends-ends.ensures c.literals-literals.ensures

pub enter_clauses-stops-requires-clause-words_in_bounds : goal.enter_clauses-stops-requires-clause-words_in_bounds
enter_clauses-stops-requires-clause-words_in_bounds c = index_long _ _ _ _ _ _ c.requires c.literals-literals.ensures

pub fill_numbers-requires : goal.fill_numbers-requires
fill_numbers-requires c = numbers_lent _ _ _ _ _ _ c.requires c.ends-ends.ensures c.literals-literals.ensures

pub go_on-requires : goal.go_on-requires
go_on-requires c =
    begins _ _ _ _ _ _ c.requires c.prefix-prefix.ensures c.ends-ends.ensures c.literals-literals.ensures c.levels-levels.result c.values_of-quantifiers.result c.values_of-values.result c.levels-levels.ensures c.values_of-quantifiers.ensures c.values_of-values.ensures c.fill.ensures c.enter_clauses-stops.ensures c.fill_numbers.ensures

pub returns : goal.returns
returns c = (
  ends_so _ _ _ _ _ _ c.requires c.prefix-prefix.ensures c.ends-ends.ensures c.literals-literals.ensures c.levels-levels.result c.values_of-quantifiers.result c.values_of-values.result c.levels-levels.ensures c.values_of-quantifiers.ensures c.values_of-values.ensures c.fill.ensures c.enter_clauses-stops.ensures c.fill_numbers.ensures c.go_on.ensures,
  index_so _ _ _ _ _ _ c.requires c.prefix-prefix.ensures c.ends-ends.ensures c.literals-literals.ensures c.levels-levels.result c.values_of-quantifiers.result c.values_of-values.result c.levels-levels.ensures c.values_of-quantifiers.ensures c.values_of-values.ensures c.fill.ensures c.enter_clauses-stops.ensures c.fill_numbers.ensures,
)
