-- The words and the kinds side by side are the entries; the table tells each variable's quantifier.
use Rattle.std.proofs.Common.{◌∙◌, ◌<◌, nat_abs, rules}
use borrow.Author.Tests.{tests}
use Rattle.std.proofs.lemmas.Iterator.{YieldsList-from_slice, YieldsList-from_zip}
use Rattle.std.proofs.lemmas.Iterator.Adapters.{serves_from_places}
use Rattle.std.proofs.lemmas.Iterator.Search.{any_from_yields_List}
use Rattle.words.specs.Laws.Listed.{any_listed}
use Rattle.record.specs.Inner.Tables.{places}
use Rattle.record.proofs.Laws.Filled.{bound_written, quantifiers_of}
use Rattle.record.proofs.Row12.{wrong_in, kinds_any, pair_placed}
use Rattle.record.proofs.check.bad_kinds.Goals as goal

pub values_of-quantifiers-requires : goal.values_of-quantifiers-requires
values_of-quantifiers-requires c = bound_written c.requires.prefix

pub any-requires-clause-callable : goal.any-requires-clause-callable
any-requires-clause-callable c =
    serves_from_places (YieldsList-from_zip (YieldsList-from_slice _ cc) (YieldsList-from_slice c.args.kinds.now cc)) (λ x q r. search rules)
    (λ x k h e. let inside : nat_abs x.0.now < places = pair_placed _ _ c.args.kinds.now c.requires.prefix.room c.requires.named (x.0.now, x.1.now) k h e in search rules)

pub returns : goal.returns
returns c =
    any_from_yields_List (wrong_in c.args.prefix.now c.requires.prefix c.values_of-quantifiers.result (quantifiers_of _ _ c.values_of-quantifiers.ensures)) c.any.new.self _ _ c.any.ensures.ran
    (YieldsList-from_zip (YieldsList-from_slice _ cc) (YieldsList-from_slice c.args.kinds.now cc)) (λ x b q k. search (rules, tests))
    ∙ any_listed _ _
    ∙ kinds_any c.args.prefix.now c.requires.prefix c.values_of-quantifiers.result (quantifiers_of _ _ c.values_of-quantifiers.ensures) c.args.count c.args.lits.now c.args.kinds.now c.requires.named
