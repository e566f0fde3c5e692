-- Row 8 asks of the ends that are left, after the one at `from`, what it asks of all.
use Rattle.std.specs.Prelude.{◌≡◌, drop}
use Rattle.formula.specs.Block.{bad_ends}
use Rattle.formula.proofs.parts.bad_ends.Given as goal

abbrev pub invariant-loop-word : goal.invariant-loop-word
invariant-loop-word l = bad_ends l.total l.from (drop l.word-index l.ends) ≡ bad_ends l.total 0 l.ends
