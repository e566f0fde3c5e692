-- The rows in the table's order; each is asked where those before it have passed.
use Rattle.std.proofs.Common.{arith}
use Rattle.formula.specs.Laws.Limits.{group_is}
use Rattle.listing.proofs.Guards.{openings_universal, openings_wide, openings_over, openings_short, openings_pass}
use Rattle.listing.proofs.guard.openings_refusal.Goals as goal

pub returns-then-negative_at : goal.returns-then-negative_at
returns-then-negative_at c = openings_universal c.args.prefix.now c.args.start c.args.output.now c.negative_at.ensures c.if-negative_at.true

pub returns-then-k-gt-MAX_GROUP : goal.returns-then-k-gt-MAX_GROUP
returns-then-k-gt-MAX_GROUP c =
    openings_wide c.args.prefix.now c.args.start c.args.output.now c.negative_at.ensures c.if-negative_at.false c.first_group-k.ensures (omega (arith, group_is))

pub count-requires : goal.count-requires
count-requires c = omega (arith, group_is)

pub returns-then-count-start : goal.returns-then-count-start
returns-then-count-start c =
    openings_over c.args.prefix.now c.args.start c.args.output.now c.negative_at.ensures c.if-negative_at.false c.first_group-k.ensures (omega (arith, group_is)) c.count.ensures (omega arith)

pub returns-then-output-lt2 : goal.returns-then-output-lt2
returns-then-output-lt2 c =
    openings_short c.args.prefix.now c.args.start c.args.output.now c.negative_at.ensures c.if-negative_at.false c.first_group-k.ensures (omega (arith, group_is)) c.count.ensures (omega arith) (omega arith)

pub returns : goal.returns
returns c =
    openings_pass c.args.prefix.now c.args.start c.args.output.now c.negative_at.ensures c.if-negative_at.false c.first_group-k.ensures (omega (arith, group_is)) c.count.ensures (omega arith) (omega arith)
