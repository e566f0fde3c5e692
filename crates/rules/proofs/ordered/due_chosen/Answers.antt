-- The first monotone variable, or none, picks the case; the literals that occur are those of the clauses with no true literal.
use Rattle.std.proofs.Common.{◌≡◌, ◌∙◌}
use Rattle.formula.specs.Formula.{clauses_from}
use Rattle.theory.specs.Record.{Assignment}
use Rattle.theory.specs.Tests.{untrue_of}
use Rattle.rules.specs.Due.{first_monotone}
use Rattle.record.specs.Inner.Tables.{Values}
use Rattle.rules.specs.Inner.Tabled.{Sorts}
use Rattle.rules.proofs.Laws.VariablesMean.{monotone_means}
use Rattle.rules.proofs.Laws.ClausesReady.{ready_clauses, untrue_ready}
use Rattle.rules.proofs.ordered.due_chosen.Goals as goal
use Rattle.rules.proofs.ordered.due_chosen.Goals.{After-first_monotone}

pub occurring-occurs-requires : goal.occurring-occurs-requires
occurring-occurs-requires c = ready_clauses _ _ _ c.requires

-- the search is the definition's
search_is : (c : After-first_monotone) (ρ : Assignment) → Values ρ c.args.values.now → Sorts c.args.prefix.now ρ c.args.statuses.now
    → c.first_monotone.result ≡ first_monotone c.args.prefix.now (untrue_of ρ (clauses_from c.args.literals.now 0 c.args.ends.now)) ρ
search_is c ρ said sorting =
    c.first_monotone.ensures
    ∙ monotone_means _ c.requires.prefix _ _ c.args.values.now c.occurring-occurs.result said
    (rw (← untrue_ready _ _ _ c.requires ρ c.args.statuses.now sorting) c.occurring-occurs.ensures)

pub returns-in-Some : goal.returns-in-Some
returns-in-Some c ρ said sorting = rw (← search_is (goal.at.returns-in-Some c).After-first_monotone ρ said sorting, c.in-Some.is)

pub returns-in-None : goal.returns-in-None
returns-in-None c ρ said sorting = rw (← search_is (goal.at.returns-in-None c).After-first_monotone ρ said sorting, c.in-None.is)
