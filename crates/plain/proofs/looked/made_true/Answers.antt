-- The newest value is the literal, or one of the others is: the library's test of a list is the definition's.
use Rattle.std.specs.Prelude.{◌≡◌}
use Rattle.std.proofs.Common.{◌∙◌, rules}
use Rattle.std.specs.Ordering.{int_eq}
use borrow.Author.Tests.{tests}
use Rattle.std.proofs.lemmas.Iterator.{YieldsList-from_slice}
use Rattle.std.proofs.lemmas.Iterator.Search.{any_from_yields_List}
use Rattle.words.specs.Laws.Listed.{mem_listed}
use Rattle.plain.proofs.Bits.{no_value, newest_value, other_value}
use Rattle.plain.proofs.looked.made_true.Goals as goal

pub returns-in_default : goal.returns-in_default
returns-in_default c = no_value c.args.literal _ c.in_default.ensures.cases

pub returns-then-newest-literal : goal.returns-then-newest-literal
returns-then-newest-literal c =
    let same : c.in-Some.newest.now ≡ c.args.literal = search rules in
    rw (← newest_value c.args.literal c.in-Some.newest.now c.in-Some.others.now c.args.values.now c.in-Some.ensures.cases.0 same) (search rules)

pub returns-else-newest-literal : goal.returns-else-newest-literal
returns-else-newest-literal c =
    let other : c.in-Some.newest.now ≡ c.args.literal → ⊥ = search rules in
    any_from_yields_List (λ y. int_eq y c.args.literal) _ _ _ c.any.ensures.ran (YieldsList-from_slice c.in-Some.others.now cc) (λ x b q k. search (rules, tests))
    ∙ mem_listed c.args.literal c.in-Some.others.now
    ∙ other_value c.args.literal c.in-Some.newest.now c.in-Some.others.now _ c.in-Some.ensures.cases.0 other
