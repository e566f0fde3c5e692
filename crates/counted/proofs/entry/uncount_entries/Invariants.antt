-- Of the record the first i entries are left.
use Rattle.std.specs.Prelude.{◌≤◌, take}
use Rattle.theory.specs.Record.{among}
use Rattle.counted.specs.Inner.Entry.{Taking}
use Rattle.counted.specs.Inner.State.{SetFrom}
use Rattle.counted.proofs.entry.uncount_entries.Given as goal

abbrev pub invariant-loop-i : goal.invariant-loop-i
invariant-loop-i l =
    (l.at ≤ l.i)
    × ((x : Taking l.lits l.count l.fixed.stops.now l.fixed.index.now l.fixed.quantifiers.now l.fn.statuses l.fn.trues l.fn.opens l.fn.was) → SetFrom x.p x.m (among (take l.i l.lits)) l.fn.trues l.fn.opens l.statuses l.trues l.opens l.bounds)
