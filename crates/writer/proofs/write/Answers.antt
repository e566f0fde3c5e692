-- By what the check says of the block, and by the room.
use Rattle.std.proofs.lemmas.Result.{err_from_is_err_and}
use Rattle.formula.specs.Laws.Check.{checked_accepted}
use Rattle.writer.proofs.Laws.WriteExits.{write_refused, write_short, write_fits}
use Rattle.writer.proofs.write.Goals as goal

pub returns-in_err-check : goal.returns-in_err-check
returns-in_err-check c =
    let p = err_from_is_err_and c.from_residual.result c.from_residual.ensures.1 in
    rw (p.1, p.2) (write_refused c.args.block.now c.args.output.now _ c.in_err-check.ensures)

pub text-length-requires : goal.text-length-requires
text-length-requires c = checked_accepted _ _ c.in_ok-check.ensures

pub returns-then-output-length : goal.returns-then-output-length
returns-then-output-length c = write_short _ _ (checked_accepted _ _ c.in_ok-check.ensures) _ c.text-length.ensures c.if-output-length.true

pub text-requires : goal.text-requires
text-requires c = checked_accepted _ _ c.in_ok-check.ensures

pub returns : goal.returns
returns c = write_fits _ _ (checked_accepted _ _ c.in_ok-check.ensures) _ c.text-length.ensures c.if-output-length.false c.text.ensures
