-- By the two answers of the check: none is 0, and a refusal has the table's number.
use Rattle.std.proofs.Common.{sym}
use Rattle.formula.specs.Laws.Check.{checked_accepted, checked_refused}
use Rattle.mokihazureo.proofs.moki_check.Goals as goal

pub returns-in-Ok : goal.returns-in-Ok
returns-in-Ok c = sym (checked_accepted _ _ c.in-Ok.ensures)

pub returns-in-Err : goal.returns-in-Err
returns-in-Err c = sym (checked_refused _ _ c.in-Err.ensures)
