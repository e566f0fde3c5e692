-- The iterator stops at the first open literal.
use Rattle.std.specs.Prelude.{◌≡◌, ℤ, nat_abs, Some, None}
use Rattle.std.specs.List.{find}
use Rattle.std.specs.Option.{option_map}
use Rattle.std.proofs.Common.{◌∙◌, ap, rules, sym, w32, Bor, FitsSigned}
use Rattle.std.proofs.lemmas.Iterator.{YieldsList-from_slice}
use Rattle.std.proofs.lemmas.Iterator.Search.{find_from_yields_List}
use borrow.Author.Tests.{tests}
use mir.ValLaws.{to_z-of_z}
use Rattle.counted.specs.Inner.Decided.{open_at}
use Rattle.counted.proofs.Laws.Decided.{preferred_found}
use Rattle.counted.proofs.decided.preferred_of.Goals as goal
use Rattle.counted.proofs.decided.preferred_of.Goals.{After-find}

module _ (c : After-find) where
  found_is : option_map (λ (x : Bor ℤ). x.now) c.find.result ≡ find (λ l. open_at c.args.n c.args.statuses.now c.args.levels.now c.args.lowest (nat_abs l)) c.args.list.now
  found_is =
      find_from_yields_List (λ l. open_at c.args.n c.args.statuses.now c.args.levels.now c.args.lowest (nat_abs l)) _ _ c.find.result c.find.ensures.ran (YieldsList-from_slice c.args.list.now cc)
      (λ x b q k. search (rules, tests))

pub returns-in-Some : goal.returns-in-Some
returns-in-Some c =
    let word : FitsSigned w32 c.in-Some.word.now = search rules in
    let found : Some c.in-Some.word.now ≡ find (λ l. open_at c.args.n c.args.statuses.now c.args.levels.now c.args.lowest (nat_abs l)) c.args.list.now
    = ap (option_map (λ (x : Bor ℤ). x.now)) (sym c.in-Some.is) ∙ found_is (goal.at.returns-in-Some c).After-find in
    rw (to_z-of_z w32 _ word) (preferred_found _ _ _ _ c.args.list.now c.args.first (Some c.in-Some.word.now) found)

pub returns-in-None : goal.returns-in-None
returns-in-None c = preferred_found _ _ _ _ c.args.list.now c.args.first None (ap (option_map (λ (x : Bor ℤ). x.now)) (sym c.in-None.is) ∙ found_is (goal.at.returns-in-None c).After-find)
