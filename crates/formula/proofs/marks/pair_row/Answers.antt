-- Each clause is looked at once; the first with both signs is answered at once, and at the end what was seen is.
use Rattle.std.proofs.Common.{arith, inl}
use Rattle.std.proofs.lemmas.Result.{err_from_is_err_and}
use Rattle.std.proofs.Math.Bool.{or-true, or-false}
use Rattle.formula.specs.Laws.Clauses.{clauses_length}
use Rattle.formula.proofs.Looked.{begin, asked, hit, more, end}
use Rattle.formula.proofs.marks.pair_row.Goals as goal

pub loop-i-init-derived : goal.loop-i-init-derived
loop-i-init-derived c =
    ((tt, tt, inl (rw (c.into_iter-i-iterator.ensures.into_iter_gives, c.enumerate-i-items.ensures.count, c.enumerate-i-items.ensures.source, c.of.ensures) (omega (arith, clauses_length c.args.literals.now 0 c.args.ends.now)))), tt)

pub loop-i-init : goal.loop-i-init
loop-i-init c =
    rw (c.into_iter-i-iterator.ensures.into_iter_gives, c.enumerate-i-items.ensures.count, c.enumerate-i-items.ensures.source)
    (begin c.args.literals.now c.args.ends.now c.requires c.of.ensures)

pub pair_in-requires-clause-all_named : goal.pair_in-requires-clause-all_named
pair_in-requires-clause-all_named c = asked c.loop-i.invariant c.in-Some.ensures.steps.0

pub returns-in_err-pair_in : goal.returns-in_err-pair_in
returns-in_err-pair_in c =
    let p = err_from_is_err_and c.from_residual.result c.from_residual.ensures.1 in
    rw (p.1, p.2) (hit c.loop-i.invariant c.in-Some.ensures.steps.0 _ c.in_err-pair_in.ensures.value)

pub loop-i-preserved-then-branch : goal.loop-i-preserved-then-branch
loop-i-preserved-then-branch c =
    let s = c.in-Some.ensures.steps in
    let m = more c.loop-i.invariant s.0 _ (rw c.if-branch.true at c.in_ok-pair_in.ensures.value) (rw s.1 at c.in_ok-pair_in.ensures.fresh_2) in
    rw s.2 (rw (or-true c.loop-i.repeated) at m)

pub loop-i-preserved : goal.loop-i-preserved
loop-i-preserved c =
    let s = c.in-Some.ensures.steps in
    let m = more c.loop-i.invariant s.0 _ (rw c.if-branch.false at c.in_ok-pair_in.ensures.value) (rw s.1 at c.in_ok-pair_in.ensures.fresh_2) in
    rw s.2 (rw (or-false c.loop-i.repeated) at m)

pub returns-then-repeated : goal.returns-then-repeated
returns-then-repeated c = (end c.loop-i.invariant c.in-None.ensures.steps.0.0).0 c.if-repeated.true

pub returns-else-repeated : goal.returns-else-repeated
returns-else-repeated c = (end c.loop-i.invariant c.in-None.ensures.steps.0.0).1 c.if-repeated.false
