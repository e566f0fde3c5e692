-- As the table has it, and else against the clause.
use Rattle.std.proofs.Common.{◌≡◌, ◌<◌, ap, sym, ◌∙◌, arith}
use Rattle.std.proofs.lemmas.Int.{ints}
use lib.IntN.{pos}
use mir.Syntax.{w32}
use mir.Val.{to_z}
use Rattle.words.specs.Words.{mem}
use Rattle.words.specs.Laws.Listed.{mem_listed}
use Rattle.formula.specs.Laws.Limits.{variables_are}
use Rattle.shown.proofs.Shows.{shown_unset, shown_set}
use Rattle.shown.proofs.values.is_true.Goals as goal

pub bounds-values-v : goal.bounds-values-v
bounds-values-v c = omega (arith, variables_are, c.requires)

pub overflow_cast-v : goal.overflow_cast-v
overflow_cast-v c = grind (arith, variables_are)

pub returns-in-0 : goal.returns-in-0
returns-in-0 c =
    let small : c.args.v < 2147483648 = omega (arith, variables_are, c.requires) in
    let word : to_z w32 c.args.v ≡ pos c.args.v = omega (arith, ints) in
    let held : c.contains.result ≡ mem (pos c.args.v) c.args.clause.now = c.contains.ensures.value ∙ mem_listed (to_z w32 c.args.v) c.args.clause.now ∙ ap (λ z. mem z c.args.clause.now) word in
    λ ρ t. shown_unset ρ c.args.clause.now c.args.v (sym (t c.args.v) ∙ c.in-0.is) held

pub returns-in_default : goal.returns-in_default
returns-in_default c = λ ρ t. rw (t c.args.v) (shown_set ρ c.args.clause.now c.args.v (λ e. omega (arith, t c.args.v)))
