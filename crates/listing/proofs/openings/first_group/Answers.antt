-- The words that are counted are the longest start of the prefix whose words have the first one's sign.
use Rattle.std.proofs.Common.{◌∙◌, rules}
use Rattle.std.specs.Bool.{beq}
use borrow.Author.Tests.{tests}
use Rattle.std.proofs.lemmas.Iterator.{YieldsList-from_slice}
use Rattle.std.proofs.lemmas.Iterator.Consumers.{count_from_yields_List}
use Rattle.std.proofs.lemmas.Iterator.Search.{YieldsList-from_take_while}
use Rattle.words.specs.Words.{negative}
use Rattle.listing.proofs.Groups.{group_counted}
use Rattle.listing.proofs.openings.first_group.Goals as goal

pub returns : goal.returns
returns c =
    count_from_yields_List c.take_while.result _ c.count.ensures.ran (YieldsList-from_take_while _ (λ q. beq (negative q) c.negative_at-universal.result) (YieldsList-from_slice c.args.prefix.now cc) c.take_while.ensures.closure c.take_while.ensures.done (λ x b q k. search (rules, tests)))
    ∙ group_counted c.args.prefix.now c.negative_at-universal.ensures
