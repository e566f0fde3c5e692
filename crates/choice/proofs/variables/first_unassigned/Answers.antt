-- No variable before the one found is unassigned; a variable of the prefix has a place.
use Rattle.std.proofs.Common.{◌≡◌, ◌<◌, ◌∙◌, ℕ, ap, refl, length, get_or, pos, nat_abs, rules}
use Rattle.std.specs.Prelude.{Some}
use Rattle.std.proofs.lemmas.Iterator.{YieldsList-from_slice}
use Rattle.std.proofs.lemmas.Iterator.Adapters.{serves_from_places}
use Rattle.record.specs.Inner.Tables.{places}
use Rattle.record.proofs.Laws.Filled.{item_placed, bound_named, word_small}
use Rattle.choice.specs.Inner.Variables.{unassigned_in}
use Rattle.choice.specs.Laws.Firsts.{first_past, first_here}
use Rattle.choice.proofs.First.{unassigned_here, unassigned_past}
use Rattle.choice.proofs.variables.first_unassigned.Goals as goal

pub position-requires-clause-callable : goal.position-requires-clause-callable
position-requires-clause-callable c =
    serves_from_places (YieldsList-from_slice c.args.prefix.now cc) (λ x q r. search rules)
    (λ x k h e. let inside : nat_abs x.now < places = item_placed c.args.prefix.now (bound_named c.requires) x.now k h e in search rules)

pub returns-in_err-first : goal.returns-in_err-first
returns-in_err-first c =
    let set : (j : ℕ) → j < length c.args.prefix.now → get_or c.args.values.now (nat_abs (get_or c.args.prefix.now j (pos 0))) 0 ≡ 0 → ⊥ = search rules in
    c.from_residual.ensures ∙ first_past (unassigned_in c.args.values.now) c.args.prefix.now (λ j l. unassigned_past _ _ _ refl (set j l))

pub true_at-requires : goal.true_at-requires
true_at-requires c = word_small _ (bound_named c.requires) _ (search rules)

pub returns : goal.returns
returns c =
    let inside : c.in_ok-first.first < length c.args.prefix.now = search rules in
    let set : (j : ℕ) → j < c.in_ok-first.first → get_or c.args.values.now (nat_abs (get_or c.args.prefix.now j (pos 0))) 0 ≡ 0 → ⊥ = search rules in
    let free : get_or c.args.values.now (nat_abs (get_or c.args.prefix.now c.in_ok-first.first (pos 0))) 0 ≡ 0 = search rules in
    ap Some c.true_at.ensures
    ∙ first_here (unassigned_in c.args.values.now) c.args.prefix.now c.in_ok-first.first inside (λ j l. unassigned_past _ _ _ refl (set j l)) (unassigned_here _ _ _ refl free)
