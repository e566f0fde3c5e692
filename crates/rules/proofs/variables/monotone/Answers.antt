-- A variable that is assigned takes none; by its signs another one takes its word, the opposite, or none.
use Rattle.std.proofs.Common.{◌≡◌, ◌∙◌, ap, sym, inl, inr, le_trans, nat_abs, rules, arith}
use mir.Syntax.{w32}
use mir.Val.{SFits}
use mir.ValLaws.{to_z-of_z}
use Rattle.words.specs.Words.{opposite}
use Rattle.words.specs.Laws.Words.{opposite_is}
use Rattle.formula.specs.Laws.Limits.{variables_are, variables_small}
use Rattle.record.proofs.Laws.Filled.{size_read}
use Rattle.rules.proofs.Monotone.{monotone_set, monotone_free}
use Rattle.rules.proofs.variables.monotone.Goals as goal
use Rattle.rules.proofs.variables.monotone.Goals.{After-size-v}

size_is : (c : After-size-v) → c.size-v.result ≡ nat_abs c.args.word
size_is c = size_read c.args.word c.ranges.word c.size-v.ensures

pub bounds-values-v : goal.bounds-values-v
bounds-values-v c = omega (arith, size_is (goal.at.bounds-values-v c).After-size-v, variables_are)

pub returns-then-values-v-ne0 : goal.returns-then-values-v-ne0
returns-then-values-v-ne0 c = monotone_set _ _ _ _ (size_is (goal.at.returns-then-values-v-ne0 c).After-size-v) c.if-values-v-ne0.true

pub returns-in-Positive : goal.returns-in-Positive
returns-in-Positive c =
    rw (to_z-of_z w32 c.args.word c.ranges.word)
    (monotone_free _ _ _ _ (size_is (goal.at.returns-in-Positive c).After-size-v) c.if-values-v-ne0.false (sym c.in-Positive.is ∙ c.signs_at.ensures))

pub returns-in-Negative : goal.returns-in-Negative
returns-in-Negative c =
    let turned : SFits w32 c.opposite.result = search rules in
    let minus = to_z-of_z w32 c.opposite.result turned ∙ c.opposite.ensures ∙ ap opposite (to_z-of_z w32 c.args.word c.ranges.word) ∙ opposite_is c.args.word (le_trans c.requires variables_small) in
    rw minus (monotone_free _ _ _ _ (size_is (goal.at.returns-in-Negative c).After-size-v) c.if-values-v-ne0.false (sym c.in-Negative.is ∙ c.signs_at.ensures))

pub returns-in-Neither : goal.returns-in-Neither
returns-in-Neither c =
    let at = size_is (goal.at.returns-in-Neither c).After-size-v in
    elim c.in-Neither.is [ inl e ↦ monotone_free _ _ _ _ at c.if-values-v-ne0.false (sym e ∙ c.signs_at.ensures) | inr e ↦ monotone_free _ _ _ _ at c.if-values-v-ne0.false (sym e ∙ c.signs_at.ensures) ]
