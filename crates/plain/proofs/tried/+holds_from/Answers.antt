-- What the first answer leaves open the second decides, and the table is as before.
use Rattle.std.proofs.Common.{arith, sym, ◌∙◌}
use Rattle.plain.proofs.Given.{holds_end, sign_read, back, by_first, back_again, by_second}
use Rattle.plain.proofs.tried.+holds_from.Goals as goal

pub returns-then-size_at-i-clause-value : goal.returns-then-size_at-i-clause-value
returns-then-size_at-i-clause-value t c = c.met_so_far.ensures ∙ sym (holds_end _ _ c.requires.ready _ (omega arith))

pub returns-then-first-negative_at-clause-value : goal.returns-then-first-negative_at-clause-value
returns-then-first-negative_at-clause-value t c =
    let first = c.holds_from-first.ensures in
    by_first _ _ c.requires.ready (omega arith) _ _ _ c.give.ensures first.table first.value (sign_read c.args.block.now c.args.i c.negative_at.ensures c.prefix.ensures) c.if-first-negative_at.true

pub returns-then-first-negative_at-clause-table : goal.returns-then-first-negative_at-clause-table
returns-then-first-negative_at-clause-table t c = back _ _ c.requires.ready (omega arith) _ _ _ c.give.ensures c.holds_from-first.ensures.table

pub returns-clause-value : goal.returns-clause-value
returns-clause-value t c =
    let first = c.holds_from-first.ensures in
    let second = c.holds_from.ensures in
    by_second _ _ c.requires.ready (omega arith) _ _ _ c.give.ensures first.table first.value (sign_read c.args.block.now c.args.i c.negative_at.ensures c.prefix.ensures) _ _ c.give-2.ensures second.table second.value c.if-first-negative_at.false

pub returns-clause-table : goal.returns-clause-table
returns-clause-table t c =
    let first = c.holds_from-first.ensures in
    back_again _ _ c.requires.ready (omega arith) _ _ _ c.give.ensures first.table first.value (sign_read c.args.block.now c.args.i c.negative_at.ensures c.prefix.ensures) _ _ c.give-2.ensures c.holds_from.ensures.table
