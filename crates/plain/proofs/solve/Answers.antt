-- The block's number, or row 22 where it is accepted; and with few variables the truth.
use Rattle.std.proofs.lemmas.Result.{err_from_is_err_and}
use Rattle.plain.proofs.Guards.{block_refused, over, ready, tells}
use Rattle.plain.proofs.solve.Goals as goal

pub returns-in_err-check : goal.returns-in_err-check
returns-in_err-check c =
    let p = err_from_is_err_and c.from_residual.result c.from_residual.ensures.1 in
    rw (p.1, p.2) (block_refused _ _ c.in_err-check.ensures)

pub returns-then-too_many : goal.returns-then-too_many
returns-then-too_many c = over _ _ c.in_ok-check.ensures c.too_many.ensures c.if-too_many.true

pub holds-requires : goal.holds-requires
holds-requires c = ready _ _ c.in_ok-check.ensures c.too_many.ensures c.if-too_many.false

pub returns : goal.returns
returns c = tells _ _ c.in_ok-check.ensures c.too_many.ensures c.if-too_many.false c.holds.ensures
