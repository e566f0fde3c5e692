-- The values up to i are written: those that are left, put from i on, make the whole.
use Rattle.std.proofs.Common.{◌≡◌, drop}
use Rattle.std.proofs.lemmas.List.Edits.{sets}
use Rattle.listing.specs.Opening.{values_of}
use Rattle.listing.proofs.openings.write_values.Given as goal

abbrev pub invariant-loop-i : goal.invariant-loop-i
invariant-loop-i l =
    sets l.lits l.i (values_of l.n (drop l.i l.group)) ≡ sets l.initial.lits 0 (values_of l.n l.group)
