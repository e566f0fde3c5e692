-- A clause, and then those that are left.
use Rattle.std.specs.Prelude.{map}
use Rattle.grammar.specs.Written.{literal, line}
use Rattle.writer.proofs.Laws.Writing.{turn_near, turn_on, turns_over, clause_next, clauses_none}
use Rattle.writer.proofs.writing.clause_lines.Goals as goal

pub clause_line-at-requires : goal.clause_line-at-requires
clause_line-at-requires c = turn_near c.loop-clause.invariant (line (map literal c.in-Some.clause.now)) _ (clause_next c.in-Some.clause.now c.in-Some.ensures.steps) c.requires

pub loop-clause-preserved : goal.loop-clause-preserved
loop-clause-preserved c = turn_on c.loop-clause.invariant (line (map literal c.in-Some.clause.now)) _ (clause_next c.in-Some.clause.now c.in-Some.ensures.steps) c.clause_line-at.ensures

pub returns : goal.returns
returns c = turns_over c.loop-clause.invariant (clauses_none c.in-None.ensures.steps.0)
