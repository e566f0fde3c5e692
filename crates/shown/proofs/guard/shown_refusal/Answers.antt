-- The rows in the table's order; each is asked where those before it have passed.
use Rattle.std.proofs.Common.{arith}
use Rattle.std.proofs.lemmas.Result.{err_from_is_err_and}
use Rattle.shown.proofs.Guards.{shown_buffers, record_asked, shown_record, shown_nothing, shown_short, shown_passes}
use Rattle.shown.proofs.guard.shown_refusal.Goals as goal

pub returns-in_err-open_refusal : goal.returns-in_err-open_refusal
returns-in_err-open_refusal c =
    let p = err_from_is_err_and c.from_residual.result c.from_residual.ensures.1 in
    rw (p.1, p.2) (shown_buffers _ _ _ _ c.record_places.ensures _ c.in_err-open_refusal.ensures)

pub bad_record-requires : goal.bad_record-requires
bad_record-requires c = record_asked c.args.session _ _ c.args.room c.record_places.ensures _ c.in_ok-open_refusal.ensures

pub returns-then-bad_record : goal.returns-then-bad_record
returns-then-bad_record c = shown_record _ _ _ _ c.record_places.ensures _ c.in_ok-open_refusal.ensures c.bad_record.ensures c.if-bad_record.true

pub returns-then-shows_nothing : goal.returns-then-shows_nothing
returns-then-shows_nothing c =
    shown_nothing _ _ _ _ c.record_places.ensures _ c.in_ok-open_refusal.ensures c.bad_record.ensures c.if-bad_record.false
    c.prefix-prefix.ensures c.negative_at.ensures c.shows_nothing.ensures c.if-shows_nothing.true

pub returns-then-room-size_at : goal.returns-then-room-size_at
returns-then-room-size_at c =
    shown_short _ _ _ _ c.record_places.ensures _ c.in_ok-open_refusal.ensures c.bad_record.ensures c.if-bad_record.false
    c.prefix-prefix.ensures c.negative_at.ensures c.shows_nothing.ensures c.if-shows_nothing.false c.size_at.ensures (omega arith)

pub returns : goal.returns
returns c =
    shown_passes _ _ _ _ c.record_places.ensures _ c.in_ok-open_refusal.ensures c.bad_record.ensures c.if-bad_record.false
    c.prefix-prefix.ensures c.negative_at.ensures c.shows_nothing.ensures c.if-shows_nothing.false c.size_at.ensures (omega arith)
