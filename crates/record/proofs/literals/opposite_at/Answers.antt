-- The opposite of the literal at the index: a variable is far from the least word.
use Rattle.std.proofs.Common.{◌∙◌, ap, rules, le_trans}
use mir.Syntax.{w32}
use mir.Val.{SFits}
use mir.ValLaws.{to_z-of_z}
use Rattle.words.specs.declared.Literal.{Literal}
use Rattle.words.specs.Words.{opposite}
use Rattle.words.specs.Laws.Words.{opposite_is}
use Rattle.formula.specs.Laws.Limits.{variables_small}
use Rattle.record.specs.Found.{literal}
use Rattle.record.proofs.literals.opposite_at.Goals as goal

pub returns : goal.returns
returns c =
    let turned : SFits w32 c.opposite.result = search rules in
    let word : SFits w32 c.literal_at.result.0 = search rules in
    ap literal
    (to_z-of_z w32 c.opposite.result turned
    ∙ c.opposite.ensures
    ∙ ap opposite (to_z-of_z w32 c.literal_at.result.0 word ∙ ap (λ (l : Literal). l.0) c.literal_at.ensures)
    ∙ opposite_is _ (le_trans c.requires variables_small))
