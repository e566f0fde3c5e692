-- The clause of a number is the one that comes after so many others, and past the last there is none.
use Rattle.std.proofs.Common.{◌≡◌, ◌∙◌, ap, List, [], ℤ, Option, None, Some}
use Rattle.std.specs.Borrow.{Bor}
use Rattle.std.specs.Option.{UnwrapsOrElse, option_map, unwrap_or}
use Rattle.std.proofs.lemmas.Iterator.Consumers.{nth_from_yields_List}
use Rattle.std.proofs.lemmas.Option.{unwrap_or-slice_get}
use Rattle.formula.specs.Formula.{clauses_from}
use Rattle.formula.proofs.EachClause.{each_clause}
use Rattle.shown.proofs.conflict.clause.Goals as goal

unwrapped : (r : Option (Bor (List ℤ))) (x : Bor (List ℤ)) → UnwrapsOrElse r (λ y. y.now ≡ []) x → x.now ≡ unwrap_or (option_map (λ y. y.now) r) []
unwrapped None x u = u
unwrapped (Some y) x u = ap (λ (z : Bor (List ℤ)). z.now) u

pub returns-in-Some : goal.returns-in-Some
returns-in-Some c =
    let all = clauses_from c.literals.result.now 0 c.ends.result.now in
    let found = nth_from_yields_List c.nth.result c.nth.new.self c.in-Some.c c.nth.ensures.ran (each_clause c.of-clauses.result all c.of-clauses.ensures) in
    rw (c.in-Some.is, ← c.literals.ensures, ← c.ends.ensures)
    (unwrapped c.nth.result c.unwrap_or_default.result c.unwrap_or_default.ensures ∙ ap (λ (o : Option (List ℤ)). unwrap_or o []) found ∙ unwrap_or-slice_get all c.in-Some.c [])
