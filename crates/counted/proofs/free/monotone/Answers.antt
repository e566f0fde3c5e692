-- An assigned variable takes nothing; of an unassigned one the looks at both literals decide.
use Rattle.std.specs.Prelude.{◌≡◌, true, false, nat_abs, neg_ℤ}
use Rattle.std.proofs.Common.{sym, ◌∙◌, ap, arith, rules, w32, FitsSigned}
use mir.ValLaws.{to_z-of_z}
use Rattle.words.specs.Words.{opposite}
use Rattle.words.specs.Laws.Words.{opposite_is}
use Rattle.formula.specs.Laws.Limits.{variables_are}
use Rattle.counted.specs.Inner.Free.{free_at}
use Rattle.counted.proofs.Laws.Free.{monotone_free, monotone_held}
use Rattle.counted.proofs.free.monotone.Goals as goal
use Rattle.counted.proofs.free.monotone.Goals.{After-size-v}

free : (c : After-size-v) → free_at c.args.statuses.now (nat_abs c.args.word) ≡ true
free c = search rules

v_is : (c : After-size-v) → c.size-v.result ≡ nat_abs c.args.word
v_is c = c.size-v.ensures ∙ ap nat_abs (to_z-of_z w32 _ c.ranges.word)

pub returns-then-not-is_free : goal.returns-then-not-is_free
returns-then-not-is_free c =
    let held : free_at c.args.statuses.now (nat_abs c.args.word) ≡ false = search rules in
    sym (monotone_held _ _ _ _ _ held)

pub returns-in-true-false : goal.returns-in-true-false
returns-in-true-false c =
    let at = (goal.at.returns-in-true-false c).After-size-v in
    rw (to_z-of_z w32 _ c.ranges.word)
    (monotone_free _ _ _ _ _ (free at) (v_is at) c.part.ensures c.part-2.ensures true false c.in-true-false.ensures c.in-true-false.ensures')

pub returns-in-false-true : goal.returns-in-false-true
returns-in-false-true c =
    let at = (goal.at.returns-in-false-true c).After-size-v in
    let word : FitsSigned w32 c.opposite.result = search rules in
    let is : c.opposite.result ≡ neg_ℤ c.args.word = c.opposite.ensures ∙ ap opposite (to_z-of_z w32 _ c.ranges.word) ∙ opposite_is _ (omega (arith, variables_are, c.requires.small)) in
    rw (to_z-of_z w32 _ word, is)
    (monotone_free _ _ _ _ _ (free at) (v_is at) c.part.ensures c.part-2.ensures false true c.in-false-true.ensures c.in-false-true.ensures')

pub returns-in_default : goal.returns-in_default
returns-in_default c =
    let at = (goal.at.returns-in_default c).After-size-v in
    monotone_free _ _ _ _ _ (free at) (v_is at) c.part.ensures c.part-2.ensures true true c.in_default.ensures c.in_default.ensures'

pub returns-in_default-2 : goal.returns-in_default-2
returns-in_default-2 c =
    let at = (goal.at.returns-in_default-2 c).After-size-v in
    monotone_free _ _ _ _ _ (free at) (v_is at) c.part.ensures c.part-2.ensures false false c.in_default.ensures c.in_default.ensures'
