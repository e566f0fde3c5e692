-- Each clause of the list has its number of true literals, and the iterator asks each in turn.
use Rattle.std.proofs.Common.{◌∙◌, rules, nat_eq}
use borrow.Author.Tests.{tests}
use Rattle.std.proofs.lemmas.Iterator.{YieldsList-from_slice}
use Rattle.std.proofs.lemmas.Iterator.Adapters.{serves_from_places}
use Rattle.std.proofs.lemmas.Iterator.Search.{any_from_yields_List}
use Rattle.std.specs.Prelude.{◌<◌, length, get_or}
use Rattle.words.specs.Laws.Listed.{any_listed}
use Rattle.counted.specs.Inner.Live.{some_zero}
use Rattle.counted.proofs.Walking.{walked}
use Rattle.counted.proofs.live.is_live.Goals as goal

pub any-requires-clause-callable : goal.any-requires-clause-callable
any-requires-clause-callable c =
    serves_from_places (YieldsList-from_slice c.args.list.now cc) (λ x q r. search rules)
    (λ x k h e. let inside : x.now < length c.args.trues.now = c.requires x.now (walked c.args.list.now k x.now x.now h e) in search rules)

pub returns : goal.returns
unfolding some_zero
returns c =
    any_from_yields_List (λ k. nat_eq (get_or c.args.trues.now k 0) 0) _ _ _ c.any.ensures.ran (YieldsList-from_slice c.args.list.now cc) (λ x b q k. search (rules, tests))
    ∙ any_listed (λ k. nat_eq (get_or c.args.trues.now k 0) 0) c.args.list.now
