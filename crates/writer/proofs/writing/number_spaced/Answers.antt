-- The number, then the space.
use Rattle.std.specs.Prelude.{[], ◌∷◌}
use Rattle.std.proofs.Common.{◌∙◌}
use Rattle.grammar.specs.Grammar.{space}
use Rattle.grammar.specs.Written.{numeral}
use Rattle.writer.proofs.Laws.Writing.{wrote_on, near_on, near_first}
use Rattle.writer.proofs.writing.number_spaced.Goals as goal

pub number-end-requires : goal.number-end-requires
number-end-requires c = near_first _ (numeral c.args.n) (space ∷ []) c.requires

pub put-requires : goal.put-requires
put-requires c = near_on _ _ (numeral c.args.n) (space ∷ []) c.number-end.ensures c.requires

pub returns : goal.returns
returns c = c.put.ensures ∙ wrote_on _ _ (numeral c.args.n) (space ∷ []) c.number-end.ensures
