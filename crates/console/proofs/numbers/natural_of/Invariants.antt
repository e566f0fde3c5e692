-- The value so far and the bytes behind stand for the same natural as the whole word.
use Rattle.std.proofs.Common.{◌≡◌, drop}
use Rattle.console.specs.Numbers.{value_of, natural_of}
use Rattle.console.proofs.numbers.natural_of.Given as goal

abbrev pub invariant-loop-byte : goal.invariant-loop-byte
invariant-loop-byte l = value_of l.value (drop l.byte-index l.digits) ≡ natural_of l.digits
