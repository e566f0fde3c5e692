-- The rest is set to 0 by `wipe`; the literal at the place is small, so its opposite is its negation.
use Rattle.std.proofs.Common.{◌∙◌, ap, get_or, pos, rules}
use mir.Syntax.{w32}
use mir.Val.{SFits}
use mir.ValLaws.{to_z-of_z}
use Rattle.words.specs.Words.{opposite}
use Rattle.applied.proofs.Applying.{flipped}
use Rattle.applied.proofs.buffers.flip.Goals as goal

pub returns : goal.returns
returns c =
    let word : SFits w32 (get_or c.args.lits.now c.args.at (pos 0)) = search rules in
    let turned : SFits w32 c.opposite-opposite.result = search rules in
    flipped c.requires c.wipe.ensures (to_z-of_z w32 _ turned ∙ c.opposite-opposite.ensures ∙ ap opposite (to_z-of_z w32 _ word))
