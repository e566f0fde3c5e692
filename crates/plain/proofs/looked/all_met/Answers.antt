-- The iterator gives the clauses of the ends, and the closure asks of each whether it is met.
use Rattle.std.proofs.Common.{◌∙◌, rules}
use borrow.Author.Tests.{tests}
use Rattle.std.proofs.lemmas.Iterator.Search.{all_from_yields_List}
use Rattle.words.specs.Laws.Listed.{all_listed}
use Rattle.formula.specs.Formula.{clauses_from}
use Rattle.plain.specs.Inner.Met.{met}
use Rattle.plain.proofs.Bits.{each_in_order}
use Rattle.plain.proofs.looked.all_met.Goals as goal

pub returns : goal.returns
returns c =
    let all = clauses_from c.args.literals.now 0 c.args.ends.now in
    all_from_yields_List (met c.args.values.now) c.all.new.self _ _ c.all.ensures.ran (each_in_order c.of.result all c.of.ensures) (λ x b q k. search (rules, tests))
    ∙ all_listed (met c.args.values.now) all
