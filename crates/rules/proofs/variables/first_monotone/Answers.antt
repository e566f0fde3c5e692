-- The first that takes a literal; each variable of the prefix has a place.
use Rattle.std.proofs.Common.{◌≤◌, nat_abs, rules}
use Rattle.std.proofs.lemmas.Iterator.{YieldsList-from_slice}
use Rattle.std.proofs.lemmas.Iterator.Adapters.{serves_from_places}
use Rattle.formula.specs.Limits.{limits}
use Rattle.record.proofs.Laws.Filled.{bound_named, item_small}
use Rattle.choice.specs.Laws.Firsts.{first_is}
use Rattle.rules.specs.Inner.Variables.{monotone_in}
use Rattle.rules.proofs.variables.first_monotone.Goals as goal

pub find_map-requires-clause-callable : goal.find_map-requires-clause-callable
find_map-requires-clause-callable c =
    serves_from_places (YieldsList-from_slice c.args.prefix.now cc) (λ x q r. search rules)
    (λ x k h e. let inside : nat_abs x.now ≤ limits.variables = item_small c.args.prefix.now (bound_named c.requires) x.now k h e in search rules)

pub returns : goal.returns
returns c = first_is (monotone_in c.args.values.now c.args.occurs.now) c.args.prefix.now c.find_map.result (search rules)
