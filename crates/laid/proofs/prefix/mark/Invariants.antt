-- What is left to mark from each word on gives what the whole gives.
use Rattle.std.proofs.Common.{◌≡◌, drop}
use Rattle.laid.specs.Inner.Marks.{marked}
use Rattle.laid.proofs.prefix.mark.Given as goal

abbrev pub invariant-loop-w : goal.invariant-loop-w
invariant-loop-w l = marked l.table (drop l.w-index l.ws) ≡ marked l.fn.table l.ws
