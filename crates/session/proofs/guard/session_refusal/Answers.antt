-- The rows in the table's order; each is asked where those before it have passed.
use Rattle.std.proofs.Common.{arith}
use Rattle.std.proofs.lemmas.Result.{err_from_is_err_and}
use Rattle.session.proofs.Guards.{session_buffers, record_asked, reasons_asked, session_record, session_reasons, session_over, session_stale, session_passes}
use Rattle.session.proofs.guard.session_refusal.Goals as goal
use Rattle.session.proofs.guard.session_refusal.Goals.{then-bad_record-via-then-bad_record, then-bad_record-via-else-bad_record+then-bad_reasons}

pub returns-in_err-open_refusal : goal.returns-in_err-open_refusal
returns-in_err-open_refusal c =
    let p = err_from_is_err_and c.from_residual.result c.from_residual.ensures.1 in
    rw (p.1, p.2) (session_buffers _ _ _ _ c.places.ensures _ c.in_err-open_refusal.ensures)

pub bad_record-requires : goal.bad_record-requires
bad_record-requires c = record_asked c.args.session _ _ c.args.seen c.places.ensures _ c.in_ok-open_refusal.ensures

pub bad_reasons-requires : goal.bad_reasons-requires
bad_reasons-requires c =
    reasons_asked c.args.session _ _ c.args.seen c.places.ensures _ c.in_ok-open_refusal.ensures c.bad_record.ensures c.if-bad_record.false

pub returns-then-bad_record : goal.returns-then-bad_record
returns-then-bad_record c =
    elim c.then-bad_record.branch [
      | then-bad_record-via-then-bad_record w ↦ session_record _ _ _ _ c.places.ensures _ c.in_ok-open_refusal.ensures c.bad_record.ensures w.if-bad_record.true
      | then-bad_record-via-else-bad_record+then-bad_reasons w ↦ session_reasons _ _ _ _ c.places.ensures _ c.in_ok-open_refusal.ensures c.bad_record.ensures w.if-bad_record.false w.bad_reasons.ensures w.if-bad_reasons.true
    ]

pub returns-then-is_over : goal.returns-then-is_over
returns-then-is_over c =
    session_over _ _ _ _ c.places.ensures _ c.in_ok-open_refusal.ensures c.bad_record.ensures c.if-bad_record.false c.bad_reasons.ensures c.if-bad_reasons.false c.is_over.ensures c.if-is_over.true

pub returns-then-seen-session : goal.returns-then-seen-session
returns-then-seen-session c =
    session_stale _ _ _ _ c.places.ensures _ c.in_ok-open_refusal.ensures c.bad_record.ensures c.if-bad_record.false c.bad_reasons.ensures c.if-bad_reasons.false
    c.is_over.ensures c.if-is_over.false (λ e. omega arith)

pub returns : goal.returns
returns c =
    session_passes _ _ _ _ c.places.ensures _ c.in_ok-open_refusal.ensures c.bad_record.ensures c.if-bad_record.false c.bad_reasons.ensures c.if-bad_reasons.false
    c.is_over.ensures c.if-is_over.false (omega arith)
