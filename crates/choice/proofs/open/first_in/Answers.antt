-- The word that passes the test first is the literal; with none it is 0.
use Rattle.std.proofs.Common.{◌≡◌, nat_abs, pos, rules}
use borrow.Author.Tests.{tests}
use Rattle.std.specs.Prelude.{MatchOption}
use Rattle.std.proofs.lemmas.Iterator.{YieldsList-from_slice}
use Rattle.std.proofs.lemmas.Iterator.Search.{find_from_yields_List}
use Rattle.record.specs.Found.{literal}
use Rattle.choice.specs.Inner.Variables.{open_in, preferred_in}
use Rattle.choice.proofs.First.{first_or_zero}
use Rattle.choice.proofs.open.first_in.Goals as goal

pub returns : goal.returns
unfolding preferred_in
returns c =
    let named : MatchOption c.find.result (c.map_or.result ≡ literal (pos 0)) (λ x. c.map_or.result ≡ literal x.now) = search rules in
    first_or_zero (λ q. open_in c.args.n c.args.values.now c.args.levels.now c.args.lowest (nat_abs q)) c.args.list.now c.find.result c.map_or.result
    (find_from_yields_List (λ q. open_in c.args.n c.args.values.now c.args.levels.now c.args.lowest (nat_abs q)) _ _ c.find.result c.find.ensures.ran (YieldsList-from_slice c.args.list.now cc) (λ x b q k. search (rules, tests)))
    named
