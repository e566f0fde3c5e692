-- The due rule, with the proposal that the preferences give it, and what it leaves beside the record.
use Rattle.std.proofs.Common.{sym}
use Rattle.words.specs.Outcomes.{same_answer, same_memory, both_same}
use Rattle.record.proofs.Laws.Accepted.{held_on}
use Rattle.search.proofs.Laws.Named.{fitting, tellable}
use Rattle.search.proofs.Laws.Rounds.{advanced}
use Rattle.search.proofs.searches.advance.Goals as goal

pub due-rule-requires : goal.due-rule-requires
due-rule-requires c = c.requires.on

pub proposal-literal-requires : goal.proposal-literal-requires
proposal-literal-requires c = rw c.due-rule.ensures.block (held_on _ _ _ c.requires.on)

pub tell-reason-requires : goal.tell-reason-requires
tell-reason-requires c = rw (same_answer c.due-rule.ensures.rule) (tellable c.requires)

pub apply-reached-requires-clause-on_block : goal.apply-reached-requires-clause-on_block
apply-reached-requires-clause-on_block c = rw c.due-rule.ensures.block c.requires.on

pub apply-reached-requires-clause-fitting : goal.apply-reached-requires-clause-fitting
apply-reached-requires-clause-fitting c = rw (c.due-rule.ensures.block, same_answer c.due-rule.ensures.rule) (fitting c.requires.on)

pub returns-clause-search : goal.returns-clause-search
returns-clause-search c =
    both_same
    (advanced c.requires.on _ (same_answer c.due-rule.ensures.rule) (rw c.due-rule.ensures.block at c.proposal-literal.ensures) (rw c.due-rule.ensures.block at c.apply-reached.ensures))
    (same_memory c.due-rule.ensures.rule)

pub returns-clause-reasons : goal.returns-clause-reasons
returns-clause-reasons c = rw (sym (same_answer c.due-rule.ensures.rule)) c.tell-reason.ensures
