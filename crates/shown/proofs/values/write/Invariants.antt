-- The values up to i are written: those that are left, put from i on, make the whole.
use Rattle.std.proofs.Common.{◌≡◌, drop}
use Rattle.std.proofs.lemmas.List.Edits.{sets}
use Rattle.theory.specs.Record.{Assignment}
use Rattle.theory.specs.Witness.{shown_true, signed}
use Rattle.record.specs.Inner.Tables.{Values}
use Rattle.shown.proofs.values.write.Given as goal

abbrev pub invariant-loop-i : goal.invariant-loop-i
invariant-loop-i l =
    (ρ : Assignment) → Values ρ l.values → sets l.output l.i (signed (shown_true ρ l.clause) (drop l.i l.group)) ≡ sets l.initial.output 0 (signed (shown_true ρ l.clause) l.group)
