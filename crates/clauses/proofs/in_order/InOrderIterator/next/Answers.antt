-- The list of the clauses left is made from the end that comes next and the ends after it; the ends being in order, that clause lies within the words.
use Rattle.std.proofs.Common.{rules, arith, ◌≡◌, nat_abs, length, refl}
use Rattle.formula.proofs.EachClause.{none_left, one_left, as_many}
use Rattle.clauses.proofs.Cutting.{Cut, cut}
use Rattle.clauses.proofs.in_order.InOrderIterator.next.Goals as goal
use Rattle.clauses.proofs.in_order.InOrderIterator.next.Goals.{After-size-end}

pub returns-in_err-last-clause-steps : goal.returns-in_err-last-clause-steps
returns-in_err-last-clause-steps c =
    let s = c.args.self.now in
    let e = none_left s.literals.now s.from s.ends.now c.in_err-last.ensures.cases in
    rw c.from_residual.ensures (e, e)

at_end : (c : After-size-end) → c.size-end.result ≡ nat_abs c.in_ok-last.last.now
at_end c = search rules

here : (c : After-size-end) → Cut (length c.args.self.now.literals.now) c.args.self.now.from c.size-end.result c.in_ok-last.others.now
here c = cut c.args.self.now.ordered c.in_ok-last.ensures.cases.0 (at_end c)

pub offset_bounds-self-self : goal.offset_bounds-self-self
offset_bounds-self-self c = let h = here (goal.at.offset_bounds-self-self c).After-size-end in search rules

pub slice_bounds-clause-count : goal.slice_bounds-clause-count
slice_bounds-clause-count c = let h = here (goal.at.slice_bounds-clause-count c).After-size-end in h.rises

pub slice_bounds-clause-start : goal.slice_bounds-clause-start
slice_bounds-clause-start c = let h = here (goal.at.slice_bounds-clause-start c).After-size-end in search rules

pub slice_bounds-clause-end : goal.slice_bounds-clause-end
slice_bounds-clause-end c = let h = here (goal.at.slice_bounds-clause-end c).After-size-end in search rules

pub invariant_of-self : goal.invariant_of-self
invariant_of-self c = let h = here (goal.at.invariant_of-self c).After-size-end in record { ordered = h.rest }

pub returns-clause-steps : goal.returns-clause-steps
returns-clause-steps c =
    let s = c.args.self.now in
    one_left s.literals.now s.from s.ends.now c.in_ok-last.last.now c.in_ok-last.others.now c.in_ok-last.ensures.cases.0 (at_end (goal.at.returns-clause-steps c).After-size-end) refl refl refl

pub returns-clause-goes : goal.returns-clause-goes
returns-clause-goes c =
    let s = c.args.self.now in
    let old = as_many s.literals.now s.from s.ends.now in
    let new = as_many s.literals.now c.size-end.result c.in_ok-last.others.now in
    let less = c.in_ok-last.ensures.cases.1 in
    record { on = λ f. (tt, tt, omega arith); keeps = tt; rests = λ f. tt }
