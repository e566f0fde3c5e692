-- The first unassigned variable, or none and the last kind 2 entry, picks the case; with none unassigned none is monotone.
use Rattle.std.proofs.Common.{sym, ◌∙◌}
use Rattle.theory.specs.Record.{true_in}
use Rattle.rules.proofs.Laws.Searches.{monotone_unassigned}
use Rattle.choice.specs.Laws.VariablesMean.{unassigned_means}
use Rattle.rules.proofs.ordered.due_free.Goals as goal

pub returns-in-Some : goal.returns-in-Some
returns-in-Some c r told sorting =
    let some = sym (c.first_unassigned.ensures ∙ unassigned_means (true_in r) c.args.values.now told.values _) ∙ c.in-Some.is in
    rw some (c.due_chosen.ensures (true_in r) told.values sorting)

pub returns-in-Some-last_kind : goal.returns-in-Some-last_kind
returns-in-Some-last_kind c r told sorting =
    let none = sym (c.first_unassigned.ensures ∙ unassigned_means (true_in r) c.args.values.now told.values _) ∙ c.in-None.is in
    rw (monotone_unassigned (true_in r) _ _ none, none, ← c.last_kind.ensures ∙ told.lasts 2, c.in-Some-last_kind.is)

pub returns-in-None-last_kind : goal.returns-in-None-last_kind
returns-in-None-last_kind c r told sorting =
    let none = sym (c.first_unassigned.ensures ∙ unassigned_means (true_in r) c.args.values.now told.values _) ∙ c.in-None.is in
    rw (monotone_unassigned (true_in r) _ _ none, none, ← c.last_kind.ensures ∙ told.lasts 2, c.in-None-last_kind.is)
