-- A clause is in conflict where no literal keeps it from one; each literal has a place.
use Rattle.std.proofs.Common.{◌≤◌, ◌∙◌, ap, not, nat_abs, rules}
use borrow.Author.Tests.{tests}
use Rattle.std.proofs.lemmas.Iterator.{YieldsList-from_slice}
use Rattle.std.proofs.lemmas.Iterator.Adapters.{serves_from_places}
use Rattle.std.proofs.lemmas.Iterator.Search.{any_from_yields_List}
use Rattle.words.specs.Laws.Listed.{any_listed}
use Rattle.formula.specs.Limits.{limits}
use Rattle.tables.specs.Inner.ByLiteral.{status_in}
use Rattle.clauses.specs.Inner.Clauses.{keeps_by, conflict_by}
use Rattle.clauses.proofs.Laws.Walk.{item_placed}
use Rattle.clauses.proofs.clauses.in_conflict.Goals as goal

pub any-requires-clause-callable : goal.any-requires-clause-callable
any-requires-clause-callable c =
    serves_from_places (YieldsList-from_slice c.args.clause.now cc) (λ x q r. search rules)
    (λ x k h e. let inside : nat_abs x.now ≤ limits.variables = item_placed c.args.clause.now c.requires x.now k h e in search rules)

pub returns : goal.returns
unfolding conflict_by keeps_by
returns c = ap not (any_from_yields_List (keeps_by (status_in c.args.statuses.now)) _ _ _ c.any.ensures.ran (YieldsList-from_slice c.args.clause.now cc) (λ x b q k. search (rules, tests)) ∙ any_listed _ c.args.clause.now)
