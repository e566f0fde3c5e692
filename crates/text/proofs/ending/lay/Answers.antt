-- Each row with the tests that led there.
use Rattle.std.proofs.Common.{rules, ◌≡◌, sym, ◌∙◌, ap, take, drop, ℕ, List, ℤ, Ok, Err, Result, ◌+◌, min}
use Rattle.words.specs.Rows.{refusal_of}
use Rattle.words.specs.declared.Refusal.{Refusal}
use Rattle.text.specs.declared.Unread.{Unread}
use Rattle.text.specs.declared.Unread.TheVariants.{Refused, Row}
use Rattle.formula.specs.Block.{refusal}
use Rattle.formula.specs.Check.{checked_of}
use Rattle.formula.specs.Laws.Check.{checked_accepted}
use Rattle.formula.specs.Limits.{limits}
use Rattle.reader.specs.declared.Kept.{Kept}
use Rattle.laid.specs.Block.{laid_in}
use Rattle.laid.specs.Inner.Ready.{Ready}
use Rattle.text.specs.Pieces.{kept_block, kept_words}
use Rattle.text.specs.Inner.Ending.{bound_rows}
use Rattle.text.proofs.Laws.Passed.{Said, passed_on, gone_on}
use Rattle.text.proofs.Laws.Exits.{count_row, word_rows, count_stops, word_stops, ready, block_here, block_stops, block_passes}
use Rattle.text.proofs.ending.lay.Goals as goal
use Rattle.text.proofs.ending.lay.Goals.{After-check}

-- no row of a table that its check lets pass
none_of : (say : Refusal → Unread) (n : ℕ) (r : Result (Unit {0}) Refusal) (m : Result (Unit {0}) Unread) (u : Unit {0}) → r ≡ checked_of n → Said say r m → m ≡ Ok u → n ≡ 0
none_of say n r m u is said was = checked_accepted n u (sym (gone_on say r m u said was) ∙ is)

-- the row of a table that its check does not let pass
some_of : (n : ℕ) (r : Result (Unit {0}) Refusal) (e : Refusal) → r ≡ checked_of n → r ≡ Err e → Err e ≡ checked_of n
some_of n r e is was = sym was ∙ is

module _ (k : Kept) (o ws d : List ℤ) (b : ℕ) (cut : ws ≡ take b d) (rest : d ≡ drop 6 o) (few : b ≡ min k.bound k.variables) where
  rows_here : refusal_of (bound_rows k ws) ≡ refusal_of (word_rows k o)
  unfolding kept_words
  rows_here = rw (cut, rest, few)

  ready_here : count_row k o ≡ 0 → refusal_of (bound_rows k ws) ≡ 0 → Ready o k.variables b (6 + k.variables + k.clauses) k.literals
  ready_here z e = rw few (ready k o z (sym rows_here ∙ e))

  module _ (n : ℕ) (l : List ℤ) (total : n ≡ 6 + k.variables + k.clauses + k.literals) (laid : l ≡ laid_in o k.variables b k.clauses k.literals) where
    here : count_row k o ≡ 0 → refusal_of (bound_rows k ws) ≡ 0 → take n l ≡ kept_block k o
    here z e = rw (total, laid, few) (block_here k o z (sym rows_here ∙ e))

pub returns-in_err-map_err-clause-answer : goal.returns-in_err-map_err-clause-answer
returns-in_err-map_err-clause-answer c =
    let p = passed_on Refused c.check_counts.result c.map_err.result c.from_residual.result c.in_err-map_err.field-0.0 (search rules) (search rules) (search rules) in
    p.2 ∙ count_stops c.args.kept c.args.output.now p.0 (some_of _ _ _ c.check_counts.ensures p.1)

pub returns-in_err-map_err-2-clause-answer : goal.returns-in_err-map_err-2-clause-answer
returns-in_err-map_err-2-clause-answer c =
    let z = none_of Refused _ c.check_counts.result c.map_err.result _ c.check_counts.ensures (search rules) c.in_ok-map_err.was in
    let p = passed_on Row c.check_bound.result c.map_err-2.result c.from_residual-in_err-map_err-2.result c.in_err-map_err-2.field-0.0 (search rules) (search rules) (search rules) in
    let r = rows_here c.args.kept c.args.output.now c.take.result.now c.drop.result.now c.min-bound.result c.take.ensures c.drop.ensures c.min-bound.ensures in
    p.2 ∙ word_stops c.args.kept c.args.output.now z p.0 (some_of _ _ _ c.check_bound.ensures p.1 ∙ ap checked_of r)

pub lay-requires-clause-ready : goal.lay-requires-clause-ready
lay-requires-clause-ready c =
    let z = none_of Refused _ c.check_counts.result c.map_err.result _ c.check_counts.ensures (search rules) c.in_ok-map_err.was in
    let e = none_of Row _ c.check_bound.result c.map_err-2.result _ c.check_bound.ensures (search rules) c.in_ok-map_err-2.was in
    ready_here c.args.kept c.args.output.now c.take.result.now c.drop.result.now c.min-bound.result c.take.ensures c.drop.ensures c.min-bound.ensures z e

-- neither table has a row where the block is checked, and the block is the one that is kept
module _ (c : After-check) where
  no_count : count_row c.args.kept c.args.output.now ≡ 0
  no_count = none_of Refused _ c.check_counts.result c.map_err.result _ c.check_counts.ensures (search rules) c.in_ok-map_err.was

  no_word : refusal_of (bound_rows c.args.kept c.take.result.now) ≡ 0
  no_word = none_of Row _ c.check_bound.result c.map_err-2.result _ c.check_bound.ensures (search rules) c.in_ok-map_err-2.was

  no_row : refusal_of (word_rows c.args.kept c.args.output.now) ≡ 0
  no_row = sym (rows_here c.args.kept c.args.output.now c.take.result.now c.drop.result.now c.min-bound.result c.take.ensures c.drop.ensures c.min-bound.ensures) ∙ no_word

  laid_here : take c.block_length-n.result c.lay.new.output ≡ kept_block c.args.kept c.args.output.now
  laid_here = here c.args.kept c.args.output.now c.take.result.now c.drop.result.now c.min-bound.result c.take.ensures c.drop.ensures c.min-bound.ensures c.block_length-n.result c.lay.new.output c.block_length-n.ensures c.lay.ensures no_count no_word

  checked : c.check.result ≡ checked_of (refusal limits (kept_block c.args.kept c.args.output.now))
  checked = c.check.ensures ∙ ap (λ (b : List ℤ). checked_of (refusal limits b)) laid_here

pub returns-in_err-map_err-3-clause-answer : goal.returns-in_err-map_err-3-clause-answer
returns-in_err-map_err-3-clause-answer c =
    let a = (goal.at.returns-in_err-map_err-3-clause-answer c).After-check in
    let p = passed_on Row c.check.result c.map_err-3.result c.from_residual-in_err-map_err-3.result c.in_err-map_err-3.field-0.0 (search rules) (search rules) (search rules) in
    p.2 ∙ block_stops c.args.kept c.args.output.now (no_count a) (no_row a) p.0 (some_of _ _ _ (checked a) p.1)

pub returns-clause-answer : goal.returns-clause-answer
returns-clause-answer c =
    let a = (goal.at.returns-clause-answer c).After-check in
    let p = gone_on Row c.check.result c.map_err-3.result _ (search rules) c.in_ok-map_err-3.was in
    ap Ok c.block_length-n.ensures ∙ block_passes c.args.kept c.args.output.now (no_count a) (no_row a) _ (sym p ∙ checked a)

pub returns-clause-block : goal.returns-clause-block
returns-clause-block c = laid_here (goal.at.returns-clause-block c).After-check
