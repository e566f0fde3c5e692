-- Each row that does not hold leaves the rows after it; the first that holds is answered.
use Rattle.std.specs.Prelude.{◌≡◌, false, List, ℤ, ◌≤◌, length}
use Rattle.std.proofs.Common.{sym}
use Rattle.words.specs.Lists.{any}
use Rattle.formula.specs.Limits.{limits}
use Rattle.formula.specs.Block.{no_variable, twice}
use Rattle.formula.specs.Check.{checked_of}
use Rattle.formula.specs.Laws.Named.{all_named, named_up, known_up, repeated_is}
use Rattle.formula.specs.Inner.Tables.{repeated}
use Rattle.formula.proofs.parts.check_parts.Goals as goal

-- the prefix's words have a place each, so that the door's answer is row 6's
twice_is : (p : List ℤ) → length p ≤ limits.variables → false ≡ any (no_variable (length p)) p → repeated limits.variables p ≡ twice p
twice_is p most known = repeated_is limits.variables p (known_up (length p) p limits.variables most (sym known))

pub returns-then-some_stranger : goal.returns-then-some_stranger
unfolding checked_of
returns-then-some_stranger c = rw (← c.if-some_stranger.ensures)

pub returns-then-variable_twice : goal.returns-then-variable_twice
unfolding checked_of
returns-then-variable_twice c =
    let k = c.if-some_stranger.ensures in
    rw (← k, ← twice_is _ c.requires k, ← c.if-variable_twice.ensures)

pub returns-then-last_negative : goal.returns-then-last_negative
unfolding checked_of
returns-then-last_negative c =
    let k = c.if-some_stranger.ensures in
    rw (← k, ← twice_is _ c.requires k, ← c.if-variable_twice.ensures, ← c.if-last_negative.ensures)

pub returns-then-bad_ends : goal.returns-then-bad_ends
unfolding checked_of
returns-then-bad_ends c =
    let k = c.if-some_stranger.ensures in
    rw (← k, ← twice_is _ c.requires k, ← c.if-variable_twice.ensures, ← c.if-last_negative.ensures, ← c.if-bad_ends.ensures)

pub returns-then-some_stranger-2 : goal.returns-then-some_stranger-2
unfolding checked_of
returns-then-some_stranger-2 c =
    let k = c.if-some_stranger.ensures in
    rw (← k, ← twice_is _ c.requires k, ← c.if-variable_twice.ensures, ← c.if-last_negative.ensures, ← c.if-bad_ends.ensures, ← c.if-some_stranger-2.ensures)

pub pair_row-requires : goal.pair_row-requires
pair_row-requires c = named_up _ _ limits.variables c.requires (all_named _ _ (sym c.if-some_stranger-2.ensures))

pub returns : goal.returns
returns c =
    let k = c.if-some_stranger.ensures in
    rw (← k, ← twice_is _ c.requires k, ← c.if-variable_twice.ensures, ← c.if-last_negative.ensures, ← c.if-bad_ends.ensures, ← c.if-some_stranger-2.ensures)
    c.pair_row.ensures
