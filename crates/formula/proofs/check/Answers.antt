-- Each row that does not hold leaves the rows after it. After row 4 the parts lie within the block, and their rows are the rest.
use Rattle.std.specs.Prelude.{◌≡◌, ◌+◌}
use Rattle.std.proofs.Common.{sym, ◌∙◌, arith}
use borrow.Author.Tests.{lt-ltb, le-ltb}
use Rattle.formula.specs.Limits.{limits}
use Rattle.formula.specs.Laws.Limits.{variables_are, clauses_are, literals_are}
use Rattle.formula.specs.Formula.{variables_of, clause_count_of, literal_count_of}
use Rattle.formula.specs.Block.{refusal}
use Rattle.formula.specs.Laws.Layout.{Counts, good_counts}
use Rattle.formula.specs.Check.{checked_of}
use Rattle.formula.proofs.Whole.{wrong_length, right_length}
use Rattle.formula.proofs.check.Goals as goal
use Rattle.formula.proofs.check.Goals.{Else-bad_counts, After-size_at-2}

-- the counts are within their limits, and their sum is the block's
counts : (c : Else-bad_counts) → Counts limits c.args.block.now
counts c = good_counts limits c.args.block.now (sym c.if-bad_counts.ensures)

total : (c : After-size_at-2) → let b = c.args.block.now in
    6 + c.size_at-ends_from.result + c.size_at.result + c.size_at-2.result ≡ 6 + variables_of b + clause_count_of b + literal_count_of b
total c = rw (c.size_at-ends_from.ensures, c.size_at.ensures, c.size_at-2.ensures)

pub returns-then-block-lt-HEADER : goal.returns-then-block-lt-HEADER
unfolding refusal checked_of
returns-then-block-lt-HEADER c = rw (lt-ltb _ _ c.if-block-lt-HEADER.true)

pub returns-then-bad_counts : goal.returns-then-bad_counts
unfolding refusal checked_of
returns-then-bad_counts c = rw (le-ltb _ _ c.if-block-lt-HEADER.false, ← c.if-bad_counts.ensures)

pub overflow_add-ends_from : goal.overflow_add-ends_from
overflow_add-ends_from c =
    let k = counts (goal.at.overflow_add-ends_from c).Else-bad_counts in
    omega (arith, variables_are, k.variables.most)

pub overflow_add-literals_from : goal.overflow_add-literals_from
overflow_add-literals_from c =
    let k = counts (goal.at.overflow_add-literals_from c).Else-bad_counts in
    omega (arith, variables_are, clauses_are, k.variables.most, k.clauses.most)

pub returns-then-bad_offsets : goal.returns-then-bad_offsets
unfolding refusal checked_of
returns-then-bad_offsets c = rw (le-ltb _ _ c.if-block-lt-HEADER.false, ← c.if-bad_counts.ensures, ← c.if-bad_offsets.ensures)

pub overflow_add-literals_from-2 : goal.overflow_add-literals_from-2
overflow_add-literals_from-2 c =
    let k = counts (goal.at.overflow_add-literals_from-2 c).Else-bad_counts in
    omega (arith, variables_are, clauses_are, literals_are, k.variables.most, k.clauses.most, k.literals.most)

pub returns-then-block-literals_from : goal.returns-then-block-literals_from
unfolding refusal checked_of
returns-then-block-literals_from c =
    rw (
      le-ltb _ _ c.if-block-lt-HEADER.false,
      ← c.if-bad_counts.ensures,
      ← c.if-bad_offsets.ensures,
      wrong_length c.args.block.now limits (λ e. c.if-block-literals_from.true (e ∙ sym (total (goal.at.returns-then-block-literals_from c).After-size_at-2))),
    )

pub returns : goal.returns
unfolding refusal
returns c =
    let whole = c.if-block-literals_from.false ∙ total (goal.at.returns c).After-size_at-2 in
    rw (le-ltb _ _ c.if-block-lt-HEADER.false, ← c.if-bad_counts.ensures, ← c.if-bad_offsets.ensures, right_length c.args.block.now limits whole, ← c.prefix.ensures, ← c.ends.ensures, ← c.literals.ensures)
    c.check_parts.ensures
