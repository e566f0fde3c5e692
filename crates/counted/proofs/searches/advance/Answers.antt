-- The due rule, the entries that go, the rule applied, and its entry counted.
use Rattle.std.specs.Prelude.{◌≡◌, take}
use Rattle.formula.specs.Formula.{prefix_of, formula_of}
use Rattle.theory.specs.Record.{among}
use Rattle.rules.specs.Due.{due}
use Rattle.record.specs.Trail.{trail, record_of}
use Rattle.counted.specs.Inner.State.{Counted}
use Rattle.counted.specs.Inner.Standing.{clauses_of}
use Rattle.counted.proofs.Laws.Advance.{sought, step_tells, step_within, taking, enacting, recounting, step_done}
use Rattle.counted.proofs.searches.advance.Goals as goal
use Rattle.counted.proofs.searches.advance.Goals.{After-due-found}

-- the due rule, and the bounds that its looks leave
module _ (c : After-due-found) where
  found : (c.due-found.result.rule ≡ due (formula_of c.args.block.now) (record_of (trail c.args.lits.now c.args.kinds.now) c.args.count))
      × Counted (prefix_of c.args.block.now) (clauses_of c.args.block.now) (among (take c.args.count c.args.lits.now)) c.args.trues.now c.args.opens.now c.due-found.result.bounds
  found = c.due-found.ensures (sought _ _ _ _ _ _ _ _ _ _ _ _ _ c.requires)

pub due-found-requires : goal.due-found-requires
due-found-requires c = sought _ _ _ _ _ _ _ _ _ _ _ _ _ c.requires

pub tell-reason-requires : goal.tell-reason-requires
tell-reason-requires c = step_tells _ _ _ _ _ _ _ _ _ _ _ _ _ c.requires (found (goal.at.tell-reason-requires c).After-due-found)

pub uncount_entries-cut-requires-clause-at_le_count : goal.uncount_entries-cut-requires-clause-at_le_count
uncount_entries-cut-requires-clause-at_le_count c =
    step_within _ _ _ _ _ _ _ _ _ _ _ _ _ c.requires (found (goal.at.uncount_entries-cut-requires-clause-at_le_count c).After-due-found) c.kept_by-at.ensures

pub uncount_entries-cut-requires-clause-taking : goal.uncount_entries-cut-requires-clause-taking
uncount_entries-cut-requires-clause-taking c = taking _ _ _ _ _ _ _ _ _ _ _ _ _ c.requires (found (goal.at.uncount_entries-cut-requires-clause-taking c).After-due-found)

pub enact-reached-requires : goal.enact-reached-requires
enact-reached-requires c =
    let rule = found (goal.at.enact-reached-requires c).After-due-found in
    let cut = c.uncount_entries-cut.ensures (taking _ _ _ _ _ _ _ _ _ _ _ _ _ c.requires rule) in
    enacting _ _ _ _ _ _ _ _ _ _ _ _ _ c.requires rule c.kept_by-at.ensures cut

pub recount-bounds-requires : goal.recount-bounds-requires
recount-bounds-requires c =
    let rule = found (goal.at.recount-bounds-requires c).After-due-found in
    let cut = c.uncount_entries-cut.ensures (taking _ _ _ _ _ _ _ _ _ _ _ _ _ c.requires rule) in
    recounting _ _ _ _ _ _ _ _ _ _ _ _ _ c.requires rule c.kept_by-at.ensures cut _ c.enact-reached.ensures

pub returns : goal.returns
returns c =
    let rule = found (goal.at.returns c).After-due-found in
    let cut = c.uncount_entries-cut.ensures (taking _ _ _ _ _ _ _ _ _ _ _ _ _ c.requires rule) in
    step_done _ _ _ _ _ _ _ _ _ _ _ _ _ c.requires rule c.kept_by-at.ensures cut _ c.enact-reached.ensures c.tell-reason.ensures
    (c.recount-bounds.ensures (recounting _ _ _ _ _ _ _ _ _ _ _ _ _ c.requires rule c.kept_by-at.ensures cut _ c.enact-reached.ensures))
