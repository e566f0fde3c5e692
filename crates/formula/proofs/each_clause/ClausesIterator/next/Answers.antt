-- The list of the clauses left is made from the end that comes next and the ends after it.
use Rattle.std.proofs.Common.{rules, arith}
use Rattle.formula.proofs.EachClause.{none_left, one_left, as_many}
use Rattle.formula.proofs.each_clause.ClausesIterator.next.Goals as goal

pub returns-in_err-last-clause-steps : goal.returns-in_err-last-clause-steps
returns-in_err-last-clause-steps c =
    let s = c.args.self.now in
    let e = none_left s.literals.now s.from s.ends.now c.in_err-last.ensures.cases in
    rw c.from_residual.ensures (e, e)

pub returns-clause-steps : goal.returns-clause-steps
returns-clause-steps c =
    let s = c.args.self.now in
    one_left s.literals.now s.from s.ends.now c.in_ok-last.last.now c.in_ok-last.others.now c.in_ok-last.ensures.cases.0 (search rules) c.saturating_sub-length.ensures c.drop.ensures c.take-clause.ensures

pub returns-clause-goes : goal.returns-clause-goes
returns-clause-goes c =
    let s = c.args.self.now in
    let old = as_many s.literals.now s.from s.ends.now in
    let new = as_many s.literals.now c.size-end.result c.in_ok-last.others.now in
    let less = c.in_ok-last.ensures.cases.1 in
    record { on = λ f. (tt, tt, omega arith); keeps = tt; rests = λ f. tt }
