-- Some literal of the clause was made true.
use Rattle.std.proofs.Common.{◌∙◌, rules, ℤ}
use borrow.Author.Tests.{tests}
use Rattle.std.proofs.lemmas.Iterator.{YieldsList-from_slice}
use Rattle.std.proofs.lemmas.Iterator.Search.{any_from_yields_List}
use Rattle.words.specs.Words.{mem}
use Rattle.words.specs.Laws.Listed.{any_listed}
use Rattle.plain.proofs.looked.clause_met.Goals as goal

pub returns : goal.returns
returns c =
    any_from_yields_List (λ (l : ℤ). mem l c.args.values.now) _ _ _ c.any.ensures.ran (YieldsList-from_slice c.args.clause.now cc) (λ x b q k. search (rules, tests))
    ∙ any_listed (λ (l : ℤ). mem l c.args.values.now) c.args.clause.now
