-- Each turn puts one digit before those that stand; the last one is the number's first.
use Rattle.std.specs.Prelude.{◌≡◌, refl, ◌+◌, ◌-◌, ◌<◌, length, take, drop, set}
use Rattle.std.proofs.Common.{◌∙◌, ap, arith, length-set}
use Rattle.grammar.specs.Written.{numeral}
use Rattle.writer.specs.Inner.Writing.{wrote}
use Rattle.writer.proofs.Laws.Writing.{behind_more, behind_all}
use Rattle.writer.proofs.writing.number.Goals as goal
use Rattle.writer.proofs.writing.number.Goals.{After-loop-rest}

pub loop-rest-preserved : goal.loop-rest-preserved
loop-rest-preserved c =
    let i = c.loop-rest.invariant in
    let within : c.loop-rest.first < length c.loop-rest.digits = omega arith in
    record { long = simp length-set i.long; place = omega arith; behind = behind_more i.behind within c.loop-rest-test.true refl }

-- the digits that are written are the number's
written : (c : After-loop-rest) → take (20 - c.loop-rest.first) (drop c.loop-rest.first (set c.loop-rest.digits c.loop-rest.first (48 + c.loop-rest.rest))) ≡ numeral c.args.n
written c =
    let i = c.loop-rest.invariant in
    let within : c.loop-rest.first < length c.loop-rest.digits = omega arith in
    rw i.long at (behind_all i.behind within c.loop-rest-test.false)

pub put-requires : goal.put-requires
put-requires c = rw (written (goal.at.put-requires c).After-loop-rest) c.requires

pub returns : goal.returns
returns c = c.put.ensures ∙ ap (wrote c.args.output.now c.args.at) (written (goal.at.returns c).After-loop-rest)
