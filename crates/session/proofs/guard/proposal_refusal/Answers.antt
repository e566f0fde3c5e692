-- The proposal 0 breaks neither row; any other is asked row by row.
use Rattle.std.proofs.Common.{arith}
use Rattle.std.proofs.lemmas.Int.{ints}
use Rattle.session.proofs.Guards.{proposal_none, proposal_undue, proposal_closed, proposal_passes}
use Rattle.session.proofs.guard.proposal_refusal.Goals as goal

pub returns-then-proposal-eq0 : goal.returns-then-proposal-eq0
returns-then-proposal-eq0 c = proposal_none _ _ _ _ (omega (arith, ints))

pub returns-then-not-is_decide : goal.returns-then-not-is_decide
returns-then-not-is_decide c = proposal_undue _ _ _ _ (λ e. c.if-proposal-eq0.false (omega (arith, ints))) c.is_decide.ensures c.if-not-is_decide.true

pub returns-then-not-is_open : goal.returns-then-not-is_open
returns-then-not-is_open c =
    proposal_closed _ _ _ _ (λ e. c.if-proposal-eq0.false (omega (arith, ints))) c.is_decide.ensures c.if-not-is_decide.false c.is_open.ensures c.if-not-is_open.true

pub returns : goal.returns
returns c = proposal_passes _ _ _ _ (λ e. c.if-proposal-eq0.false (omega (arith, ints))) c.is_decide.ensures c.if-not-is_decide.false c.is_open.ensures c.if-not-is_open.false
