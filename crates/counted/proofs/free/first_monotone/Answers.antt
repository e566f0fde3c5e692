-- Each prefix word may be looked at, and the iterator stops at the first that takes a literal.
use Rattle.std.proofs.Common.{rules}
use Rattle.std.proofs.lemmas.Iterator.{YieldsList-from_slice}
use Rattle.std.proofs.lemmas.Iterator.Adapters.{serves_from_places}
use Rattle.words.specs.Lists.{In}
use Rattle.words.specs.Laws.Lists.{in_at}
use Rattle.counted.specs.Inner.Free.{Livable, monotone_at}
use Rattle.choice.specs.Laws.Firsts.{first_is}
use Rattle.counted.proofs.free.first_monotone.Goals as goal

pub find_map-requires-clause-callable : goal.find_map-requires-clause-callable
find_map-requires-clause-callable c =
    serves_from_places (YieldsList-from_slice c.args.prefix.now cc) (λ x q r. search rules)
    (λ x k h e.
    let there : In x.now c.args.prefix.now = rw (← e) at (in_at c.args.prefix.now k x.now h) in
    let live : Livable x.now c.args.fixed.now.stops.now c.args.fixed.now.index.now c.args.trues.now = c.requires.each x.now there in
    search rules)

pub returns : goal.returns
returns c = first_is (monotone_at c.args.fixed.now.stops.now c.args.fixed.now.index.now c.args.statuses.now c.args.trues.now) c.args.prefix.now c.find_map.result (search rules)
