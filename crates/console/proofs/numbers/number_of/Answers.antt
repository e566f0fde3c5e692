-- The first byte says whether the rest or the whole is read as digits.
use Rattle.console.proofs.Digits.{minus, plain}
use Rattle.console.proofs.numbers.number_of.Goals as goal

pub returns-in-Some : goal.returns-in-Some
returns-in-Some c = let e = c.in-Some.ensures.cases.1 in cc (minus c.args.word.now c.in-Some.ensures.cases.0)

pub returns-in-None : goal.returns-in-None
returns-in-None c = cc (plain c.args.word.now c.in-None.ensures.cases)
