-- A word gives its variable a value, and no other one: no later word has the variable of an earlier one.
use Rattle.std.proofs.Common.{◌≡◌, take, get_or, pos, nat_abs, rules}
use mir.Syntax.{w32}
use mir.Val.{SFits}
use Rattle.record.specs.Inner.Tables.{places}
use Rattle.record.proofs.Laws.Filled.{size_read, sign_read, placed, end}
use Rattle.record.proofs.Values.{valued, values_begin, values_turn}
use Rattle.record.proofs.tables.values_of.Goals as goal

pub loop-word-init : goal.loop-word-init
loop-word-init c = values_begin _

-- the word of this turn
module _ (c : goal.After-size) where
  word : SFits w32 (get_or (take c.args.count c.args.lits.now) c.loop-word.word-index (pos 0))
  word = search rules

  size_is : c.size.result ≡ nat_abs (get_or (take c.args.count c.args.lits.now) c.loop-word.word-index (pos 0))
  size_is = size_read _ word c.size.ensures

pub bounds-values-size : goal.bounds-values-size
bounds-values-size c = placed _ _ _ c.requires.named c.loop-word-test.true (size_is c)

pub loop-word-preserved : goal.loop-word-preserved
loop-word-preserved c = values_turn _ c.requires.named c.requires.once _ _ c.loop-word.invariant c.loop-word-test.true _ _ (size_is c) (sign_read _ (word c) c.sign.ensures)

pub returns : goal.returns
returns c = end valued places _ _ _ c.loop-word.invariant c.loop-word-test.false
