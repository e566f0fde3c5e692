-- The first unassigned variable, and from it on the first monotone one, or with everything assigned neither.
use Rattle.std.specs.Prelude.{◌≡◌, ◌≤◌, ◌<◌, ℕ, false, true, nat_abs, pos, length, get_or}
use Rattle.std.proofs.Common.{rules}
use Rattle.std.proofs.lemmas.List.{take_rest}
use Rattle.std.proofs.lemmas.Iterator.{YieldsList-from_slice}
use Rattle.std.proofs.lemmas.Iterator.Adapters.{serves_from_places}
use Rattle.words.specs.Lists.{In}
use Rattle.words.specs.Laws.Lists.{in_at}
use Rattle.formula.specs.Limits.{limits}
use Rattle.counted.specs.Inner.Free.{free_at}
use Rattle.counted.proofs.Laws.Free.{rule_assigned, rule_decides, rule_monotone, walkable_later}
use Rattle.counted.proofs.free.due_free.Goals as goal
use Rattle.counted.proofs.free.due_free.Goals.{In-Some, In_default}

pub position-requires-clause-callable : goal.position-requires-clause-callable
position-requires-clause-callable c =
    serves_from_places (YieldsList-from_slice c.args.prefix.now cc) (λ x q r. search rules)
    (λ x k h e.
    let there : In x.now c.args.prefix.now = rw (← e) at (in_at c.args.prefix.now k x.now h) in
    let small : nat_abs x.now ≤ limits.variables = (c.requires.walkable.each x.now there).small in
    search rules)

-- with none unassigned
all_held : (c : In_default) → (j : ℕ) → j < length c.args.prefix.now → free_at c.args.statuses.now (nat_abs (get_or c.args.prefix.now j (pos 0))) ≡ false
all_held c = search rules

pub returns-in-Some-last_kind : goal.returns-in-Some-last_kind
returns-in-Some-last_kind c = rule_assigned _ _ _ _ _ _ _ (all_held (goal.at.returns-in-Some-last_kind c).In_default) c.in-Some-last_kind.ensures

pub returns-in-None : goal.returns-in-None
returns-in-None c = rule_assigned _ _ _ _ _ _ _ (all_held (goal.at.returns-in-None c).In_default) c.in-None.ensures

-- the first unassigned one
module _ (c : In-Some) where
  inside : c.in-Some.first < length c.args.prefix.now
  inside = search rules

  held : (j : ℕ) → j < c.in-Some.first → free_at c.args.statuses.now (nat_abs (get_or c.args.prefix.now j (pos 0))) ≡ false
  held = search rules

  free : free_at c.args.statuses.now (nat_abs (get_or c.args.prefix.now c.in-Some.first (pos 0))) ≡ true
  free = search rules

pub first_monotone-requires : goal.first_monotone-requires
first_monotone-requires c = rw (take_rest c.args.prefix.now c.in-Some.first) (walkable_later _ _ _ _ c.requires.walkable c.in-Some.first)

pub true_at-requires : goal.true_at-requires
true_at-requires c = (c.requires.walkable.each _ (in_at c.args.prefix.now c.in-Some.first _ (inside (goal.at.true_at-requires c).In-Some))).small

pub returns-in-Some-first_monotone : goal.returns-in-Some-first_monotone
returns-in-Some-first_monotone c =
    let at = (goal.at.returns-in-Some-first_monotone c).In-Some in
    rule_monotone _ _ _ _ _ _ _ c.in-Some.first (held at) _ (rw (take_rest c.args.prefix.now c.in-Some.first) at c.in-Some-first_monotone.ensures)

pub returns-in-None-first_monotone : goal.returns-in-None-first_monotone
returns-in-None-first_monotone c =
    let at = (goal.at.returns-in-None-first_monotone c).In-Some in
    rule_decides _ _ _ _ _ _ _ c.in-Some.first (held at) (inside at) (free at) (rw (take_rest c.args.prefix.now c.in-Some.first) at c.in-None-first_monotone.ensures) c.true_at.ensures
