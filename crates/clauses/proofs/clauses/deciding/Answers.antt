-- The first clause that decides, and after a unit clause the lowest conflict among those that are left; each has words with a place.
use Rattle.std.proofs.Common.{◌≡◌, ◌∙◌, ◌+◌, ◌-◌, ap, length, inl, refl, rules, arith, List, ℤ}
use Rattle.std.specs.Prelude.{cond, ltb, Some, None}
use Rattle.std.specs.List.{position_or_len}
use borrow.Author.Tests.{tests}
use Rattle.std.proofs.lemmas.Iterator.Consumers.{YieldsList-from_first}
use Rattle.std.proofs.lemmas.Iterator.Adapters.{serves_from_places}
use Rattle.std.proofs.lemmas.Iterator.Search.{position_from_yields_List}
use Rattle.words.specs.Lists.{In}
use Rattle.words.specs.Laws.Lists.{in_at}
use Rattle.formula.specs.Formula.{clauses_from}
use Rattle.formula.specs.Laws.Clauses.{clauses_length}
use Rattle.tables.specs.Inner.ByLiteral.{status_in}
use Rattle.clauses.specs.Inner.Clauses.{Placed, level_by, conflict_by, deciding_by}
use Rattle.clauses.specs.declared.in_order.InOrder.{InOrder}
use Rattle.clauses.proofs.Laws.Walk.{clauses_placed}
use Rattle.clauses.proofs.Decision.{First, first_found, none_found, conflict_due, unit_due}
use Rattle.clauses.proofs.clauses.deciding.Goals as goal
use Rattle.clauses.proofs.clauses.deciding.Goals.{In-Some, After-position}

abbrev shown : InOrder → List (List ℤ)
shown s = clauses_from s.literals.now s.from s.ends.now

pub find_map-requires-clause-callable : goal.find_map-requires-clause-callable
find_map-requires-clause-callable c =
    let all = clauses_from c.args.literals.now 0 c.args.ends.now in
    serves_from_places (YieldsList-from_first (λ x. x.now) shown all c.of-clauses.ensures) (λ x q r. search rules)
    (λ x k h e.
    let there : In x.now all = rw (← e) at (in_at all k x.now h) in
    let placed : Placed x.now = clauses_placed _ c.requires.placed 0 _ _ there in
    search rules)

pub returns-in_default : goal.returns-in_default
returns-in_default c =
    none_found (status_in c.args.statuses.now) (level_by c.args.levels.now) shown _ _ (λ x r q h. search (rules, tests)) c.of-clauses.result c.in_default.ensures.runs ∙ ap (deciding_by _ _ 0) c.of-clauses.ensures

-- the first that decides, and its number
module _ (c : In-Some) where
  found : First (status_in c.args.statuses.now) (level_by c.args.levels.now) 0 (shown c.of-clauses.result) c.in-Some.sight (shown c.find_map.new.self)
  found = first_found _ _ shown _ _ (λ x r q h. search (rules, tests)) c.of-clauses.result c.find_map.new.self c.find_map.result _ c.in-Some.is c.find_map.ensures.ran

  long : length (shown c.find_map.new.self) ≡ length c.find_map.new.self.ends.now
  long = clauses_length _ _ _

  total : found.number + 1 + length c.find_map.new.self.ends.now ≡ length c.args.ends.now
  total = omega (arith, found.before, ap length c.of-clauses.ensures, clauses_length c.args.literals.now 0 c.args.ends.now, long)

  number : length c.args.ends.now - 1 - length c.find_map.new.self.ends.now ≡ found.number
  number = omega (arith, total)

pub overflow_sub-c : goal.overflow_sub-c
overflow_sub-c c = omega (arith, total (goal.at.overflow_sub-c c).In-Some)

pub overflow_sub-c-2 : goal.overflow_sub-c-2
overflow_sub-c-2 c = omega (arith, total (goal.at.overflow_sub-c-2 c).In-Some)

pub returns-in-InConflict : goal.returns-in-InConflict
returns-in-InConflict c =
    let at = (goal.at.returns-in-InConflict c).In-Some in
    rw (number at) (conflict_due _ _ (found at) c.in-InConflict.is ∙ ap (deciding_by _ _ 0) c.of-clauses.ensures)

pub position-requires-clause-callable : goal.position-requires-clause-callable
position-requires-clause-callable c =
    let at = (goal.at.position-requires-clause-callable c).In-Some in
    let left = shown c.find_map.new.self in
    let all = clauses_from c.args.literals.now 0 c.args.ends.now in
    serves_from_places (YieldsList-from_first (λ x. x.now) shown left refl) (λ x q r. search rules)
    (λ x k h e.
    let later : In x.now left = rw (← e) at (in_at left k x.now h) in
    let there : In x.now all = rw c.of-clauses.ensures at ((found at).left _ later) in
    let placed : Placed x.now = clauses_placed _ c.requires.placed 0 _ _ there in
    search rules)

pub position-requires-clause-fits : goal.position-requires-clause-fits
position-requires-clause-fits c =
    let at = (goal.at.position-requires-clause-fits c).In-Some in
    inl (omega (arith, total at, long at))

pub overflow_add-result-in-Some-position : goal.overflow_add-result-in-Some-position
overflow_add-result-in-Some-position c =
    let at = (goal.at.overflow_add-result-in-Some-position c).In-Some in
    omega (arith, total at, long at, c.in-Some-position.ensures.bound)

-- after a unit clause: the place among the others of the first in conflict
module _ (c : After-position) where
  place : c.position.result
      ≡ cond (ltb (position_or_len (conflict_by (status_in c.args.statuses.now)) (shown c.find_map.new.self)) (length (shown c.find_map.new.self)))
      (Some (position_or_len (conflict_by (status_in c.args.statuses.now)) (shown c.find_map.new.self))) None
  place =
      position_from_yields_List (conflict_by (status_in c.args.statuses.now)) c.position.new.self _ c.position.result c.position.ensures.ran (YieldsList-from_first (λ x. x.now) shown (shown c.find_map.new.self) refl) (λ x b q k. search (rules, tests))

pub returns-in-Some-position : goal.returns-in-Some-position
returns-in-Some-position c =
    let at = goal.at.returns-in-Some-position c in
    let due = unit_due _ _ (found at.In-Some) _ c.in-UnitOn.is c.position.result (place at.After-position) in
    rw (number at.In-Some) (rw c.in-Some-position.is at due ∙ ap (deciding_by _ _ 0) c.of-clauses.ensures)

pub returns-in-None : goal.returns-in-None
returns-in-None c =
    let at = goal.at.returns-in-None c in
    let due = unit_due _ _ (found at.In-Some) _ c.in-UnitOn.is c.position.result (place at.After-position) in
    rw (number at.In-Some) (rw c.in-None.is at due ∙ ap (deciding_by _ _ 0) c.of-clauses.ensures)

pub returns-in-Neither : goal.returns-in-Neither
returns-in-Neither c = absurd ((found (goal.at.returns-in-Neither c).In-Some).decides c.in-Neither.is)
