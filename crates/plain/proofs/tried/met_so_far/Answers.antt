-- The parts of the block are the formula's clauses, and the table's end is the values so far.
use Rattle.std.proofs.Common.{◌≡◌, ◌-◌, drop, List, ℤ, ap, arith, ◌∙◌}
use Rattle.std.specs.List.{between}
use Rattle.std.proofs.lemmas.Slice.{between_to_end}
use Rattle.words.specs.Lists.{all}
use Rattle.formula.specs.Formula.{formula_of, clauses_from}
use Rattle.plain.specs.Inner.Met.{met}
use Rattle.plain.specs.Solve.{most_variables}
use Rattle.plain.proofs.Given.{ends_good}
use Rattle.plain.proofs.tried.met_so_far.Goals as goal

pub all_met-requires : goal.all_met-requires
all_met-requires c = rw (c.literals.ensures, c.ends.ensures) (ends_good _ _ c.requires)

pub returns : goal.returns
unfolding formula_of
returns c =
    let from = most_variables - c.args.i in
    let cut : between from most_variables c.args.values.now ≡ drop from c.args.values.now = between_to_end c.args.values.now from most_variables (omega arith) in
    rw (← c.literals.ensures, ← c.ends.ensures) (c.all_met.ensures ∙ ap (λ (σ : List ℤ). all (met σ) (clauses_from c.literals.result.now 0 c.ends.result.now)) cut)
