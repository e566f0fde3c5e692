-- The tests in the table's order; each is made where those before it have failed.
use Rattle.std.proofs.Common.{◌≡◌, ◌∙◌, sym, length, take, false}
use Rattle.words.specs.Lists.{any}
use Rattle.formula.specs.Limits.{limits}
use Rattle.formula.specs.Block.{no_variable, twice}
use Rattle.formula.specs.Laws.Named.{known_up, repeated_is}
use Rattle.record.specs.Trail.{trail}
use Rattle.record.specs.Inner.Ready.{Bound, Room}
use Rattle.record.proofs.Laws.Records.{room_less}
use Rattle.record.proofs.Laws.Accepted.{accepted_bound, buffers_room}
use Rattle.record.proofs.Row12.{row_over, row_unnamed, row_twice, row_kinds}
use Rattle.record.proofs.check.bad_record.Goals as goal
use Rattle.record.proofs.check.bad_record.Goals.{After-prefix-prefix, After-some_stranger, After-variable_twice}

-- the prefix, and room for its variables
module _ (c : After-prefix-prefix) where
  bound : Bound c.prefix-prefix.result.now
  bound = rw c.prefix-prefix.ensures (accepted_bound _ c.requires.block)

  room : Room (length c.prefix-prefix.result.now) (trail c.args.lits.now c.args.kinds.now)
  room = buffers_room _ _ c.requires c.prefix-prefix.ensures

-- what the two doors say of the record's words
unnamed : (c : After-some_stranger) → any (no_variable (length c.prefix-prefix.result.now)) (take c.args.count c.args.lits.now) ≡ c.some_stranger.result
unnamed c = sym (rw (← c.take-written.ensures) c.some_stranger.ensures)

repeats : (c : After-variable_twice) → Bound c.prefix-prefix.result.now → c.some_stranger.result ≡ false → twice (take c.args.count c.args.lits.now) ≡ c.variable_twice.result
repeats c b known = sym (rw (← c.take-written.ensures) (c.variable_twice.ensures ∙ repeated_is _ _ (known_up _ _ limits.variables b.room (sym c.some_stranger.ensures ∙ known))))

pub returns-then-n-count : goal.returns-then-n-count
returns-then-n-count c = rw (← c.prefix-prefix.ensures) (row_over _ _ _ c.if-n-count.true)

pub returns-then-some_stranger : goal.returns-then-some_stranger
returns-then-some_stranger c =
    let at = goal.at.returns-then-some_stranger c in
    rw (← c.prefix-prefix.ensures) (row_unnamed _ _ _ c.if-n-count.false (room at.After-prefix-prefix) (unnamed at.After-some_stranger ∙ c.if-some_stranger.true))

pub returns-then-variable_twice : goal.returns-then-variable_twice
returns-then-variable_twice c =
    let at = goal.at.returns-then-variable_twice c in
    rw (← c.prefix-prefix.ensures)
    (row_twice _ _ _ c.if-n-count.false (room at.After-prefix-prefix) (unnamed at.After-some_stranger ∙ c.if-some_stranger.false)
    (repeats at.After-variable_twice (bound at.After-prefix-prefix) c.if-some_stranger.false ∙ c.if-variable_twice.true))

pub bad_kinds-requires : goal.bad_kinds-requires
bad_kinds-requires c =
    let at = goal.at.bad_kinds-requires c in
    record { prefix = bound at.After-prefix-prefix; room = room_less c.if-n-count.false (room at.After-prefix-prefix); named = unnamed at.After-some_stranger ∙ c.if-some_stranger.false }

pub returns : goal.returns
returns c =
    let at = goal.at.returns c in
    rw (← c.prefix-prefix.ensures)
    (row_kinds _ _ _ c.if-n-count.false (room at.After-prefix-prefix) (unnamed at.After-some_stranger ∙ c.if-some_stranger.false)
    (repeats at.After-variable_twice (bound at.After-prefix-prefix) c.if-some_stranger.false ∙ c.if-variable_twice.false) _ c.bad_kinds.ensures)
