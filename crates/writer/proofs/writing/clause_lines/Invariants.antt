-- What the clauses that are left give is what all of them give.
use Rattle.formula.specs.Formula.{clauses_from}
use Rattle.grammar.specs.Written.{clause_lines}
use Rattle.writer.proofs.Laws.Writing.{Owed}
use Rattle.writer.proofs.writing.clause_lines.Given as goal

abbrev pub invariant-loop-clause : goal.invariant-loop-clause
invariant-loop-clause l = let s = l.clause-iterator in Owed l.output l.at (clause_lines (clauses_from s.literals.now s.from s.ends.now)) l.fn.output l.from (clause_lines (clauses_from l.literals 0 l.ends))
