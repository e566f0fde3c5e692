-- The memory is checked still, and the run from here is the run from the start; the tables are as they were.
use Rattle.std.proofs.Common.{◌≡◌}
use Rattle.memory.specs.Memory.{memory}
use Rattle.search.proofs.Laws.Rounds.{Round}
use Rattle.search.proofs.searches.search.Given as goal

abbrev pub invariant-loop-steps : goal.invariant-loop-steps
invariant-loop-steps l = record {
  round : Round l.fn.tables.block.now (memory l.fn.lits l.fn.kinds l.fn.reasons) l.fn.count l.budget l.preferred (memory l.lits l.kinds l.reasons) l.reached l.steps l.reason;
  block : l.tables.block.now ≡ l.fn.tables.block.now;
  levels : l.tables.levels ≡ l.fn.tables.levels;
  statuses : l.tables.statuses ≡ l.fn.tables.statuses;
}
