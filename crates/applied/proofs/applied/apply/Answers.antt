-- Each move is done by its function; a cut's literal is small, since row 12 has passed.
use Rattle.std.proofs.Common.{◌≡◌, ◌∙◌, sym}
use Rattle.formula.specs.Formula.{prefix_of}
use Rattle.record.proofs.Laws.Accepted.{prefix_few, accepted_bound}
use Rattle.record.proofs.Laws.Records.{kept_more}
use Rattle.applied.specs.Apply.{move_of, apply}
use Rattle.applied.specs.Inner.Fits.{MoveFits}
use Rattle.applied.proofs.Applying.{cuttable, fitting}
use Rattle.applied.proofs.applied.apply.Goals as goal
use Rattle.applied.proofs.applied.apply.Goals.{After-move_of}

-- the move is that of the block's prefix, and fits
module _ (c : After-move_of) where
  made : move_of (prefix_of c.args.block.now) c.args.rule c.args.proposal.0 ≡ c.move_of.result
  made = sym (rw (← c.prefix.ensures) c.move_of.ensures)

  fits : MoveFits (prefix_of c.args.block.now) c.args.count c.move_of.result
  fits = rw made at (fitting _ _ c.args.rule c.args.proposal.0 c.requires.fitting)

pub move_of-requires : goal.move_of-requires
move_of-requires c = rw c.prefix.ensures (accepted_bound _ c.requires.on_block.block)

pub append-requires : goal.append-requires
append-requires c = kept_more c.requires.on_block.kept (rw c.in-Append.is at (fits (goal.at.append-requires c).After-move_of))

pub flip-requires : goal.flip-requires
flip-requires c = cuttable c.requires.on_block.kept (prefix_few _ _ c.requires.on_block.block) (rw c.in-Flip.is at (fits (goal.at.flip-requires c).After-move_of))

pub returns-in-Append : goal.returns-in-Append
unfolding apply
returns-in-Append c = rw (made (goal.at.returns-in-Append c).After-move_of ∙ c.in-Append.is) c.append.ensures

pub returns-in-Flip : goal.returns-in-Flip
unfolding apply
returns-in-Flip c = rw (made (goal.at.returns-in-Flip c).After-move_of ∙ c.in-Flip.is) c.flip.ensures

pub returns-in-End : goal.returns-in-End
unfolding apply
returns-in-End c = rw (made (goal.at.returns-in-End c).After-move_of ∙ c.in-End.is)
