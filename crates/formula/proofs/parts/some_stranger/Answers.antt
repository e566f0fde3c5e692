-- The closure tests as the definition does, and the iterator answers whether some word passes.
use Rattle.std.proofs.Common.{◌∙◌, rules}
use borrow.Author.Tests.{tests}
use Rattle.std.proofs.lemmas.Iterator.{YieldsList-from_slice}
use Rattle.std.proofs.lemmas.Iterator.Search.{any_from_yields_List}
use Rattle.words.specs.Laws.Listed.{any_listed}
use Rattle.formula.specs.Block.{no_variable}
use Rattle.formula.proofs.parts.some_stranger.Goals as goal

pub returns : goal.returns
returns c =
    any_from_yields_List (no_variable c.args.n) _ _ _ c.any.ensures.ran (YieldsList-from_slice c.args.ws.now cc) (λ x b q k. search (rules, tests))
    ∙ any_listed (no_variable c.args.n) c.args.ws.now
