-- A refused call returns before anything is written; else the values are written by the record's table and the clause in conflict.
use Rattle.std.proofs.lemmas.Result.{err_from_is_err_and}
use Rattle.record.proofs.Laws.Accepted.{held_on}
use Rattle.shown.proofs.Exits.{refuses, on_record, writable, writes}
use Rattle.shown.proofs.shown.Goals as goal

pub returns-in_err-shown_refusal : goal.returns-in_err-shown_refusal
returns-in_err-shown_refusal c =
    let p = err_from_is_err_and c.from_residual.result c.from_residual.ensures.1 in
    rw (p.1, p.2) (refuses _ _ _ _ _ c.in_err-shown_refusal.ensures)

pub lowest-requires : goal.lowest-requires
lowest-requires c = on_record _ _ _ c.args.output.now _ c.in_ok-shown_refusal.ensures

pub values_of-values-requires : goal.values_of-values-requires
values_of-values-requires c = (held_on _ _ _ (on_record _ _ _ c.args.output.now _ c.in_ok-shown_refusal.ensures)).written

pub write-requires : goal.write-requires
write-requires c = writable _ _ _ _ _ c.in_ok-shown_refusal.ensures c.prefix-prefix.ensures c.first_group-k.ensures c.take.ensures

pub returns : goal.returns
returns c =
    writes _ _ _ _ _ c.in_ok-shown_refusal.ensures c.prefix-prefix.ensures c.first_group-k.ensures c.take.ensures
    c.lowest.ensures c.clause-clause.ensures c.values_of-values.result c.values_of-values.ensures c.write.ensures
