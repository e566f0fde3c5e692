-- Some reason is wrong among the pairs of a kind and a reason exactly if one of the first `count` entries has a wrong one.
use Rattle.std.proofs.Common.{◌∙◌, rules}
use borrow.Author.Tests.{tests}
use Rattle.std.proofs.lemmas.Iterator.{YieldsList-from_slice, YieldsList-from_zip}
use Rattle.std.proofs.lemmas.Iterator.Search.{any_from_yields_List}
use Rattle.memory.proofs.Noted.{wrong, each_entry}
use Rattle.memory.proofs.reasons.bad_reasons.Goals as goal

pub returns : goal.returns
returns c =
    rw (← c.size_at-clauses.ensures)
    (any_from_yields_List (wrong c.size_at-clauses.result) c.any.new.self _ _ c.any.ensures.ran (YieldsList-from_zip (YieldsList-from_slice _ cc) (YieldsList-from_slice _ cc)) (λ x b q k. search (rules, tests))
    ∙ each_entry _ c.args.kinds.now c.args.reasons.now c.args.count c.requires.kinds c.requires.reasons)
