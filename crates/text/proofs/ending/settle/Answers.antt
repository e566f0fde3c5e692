-- Behind the words that stay all is wiped.
use Rattle.std.proofs.Common.{rules}
use Rattle.text.proofs.Laws.Exits.{left}
use Rattle.text.proofs.ending.settle.Goals as goal

pub returns : goal.returns
returns c = left c.args.kept c.args.output.now c.lay-answer.result c.lay-answer.new.output _ c.unwrap_or-stays.result c.lay-answer.ensures.answer c.unwrap_or-stays.ensures c.lay-answer.auto.output c.lay-answer.ensures.fits c.lay-answer.ensures.block (search rules)
