-- The value so far and the bytes behind stand for the same natural as the whole word: what the next byte, or the word's end, makes of it.
use Rattle.std.proofs.Common.{rules, sym, ◌∙◌}
use Rattle.console.proofs.Digits.{begins, empty, ends, stops, goes}
use Rattle.console.proofs.numbers.natural_of.Goals as goal

pub returns-then-is_empty : goal.returns-then-is_empty
returns-then-is_empty c = search (rules, empty)

pub loop-byte-init : goal.loop-byte-init
loop-byte-init c = search (rules, begins)

pub returns-in_err-value : goal.returns-in_err-value
returns-in_err-value c =
    let none = sym c.in_err-value.was ∙ c.one_more.ensures in
    c.from_residual.ensures ∙ stops c.loop-byte.value c.args.digits.now c.loop-byte.byte-index c.loop-byte-test.true none ∙ c.loop-byte.invariant

pub loop-byte-preserved : goal.loop-byte-preserved
loop-byte-preserved c =
    let some = sym c.in_ok-value.was ∙ c.one_more.ensures in
    sym (goes c.loop-byte.value c.args.digits.now c.loop-byte.byte-index c.loop-byte-test.true c.in_ok-value.value some) ∙ c.loop-byte.invariant

pub returns : goal.returns
returns c = sym (ends c.loop-byte.value c.args.digits.now c.loop-byte.byte-index c.loop-byte-test.false) ∙ c.loop-byte.invariant
