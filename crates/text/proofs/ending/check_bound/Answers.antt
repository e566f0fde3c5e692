-- Where row 5 does not apply, the table has a place for each word, and its answer is that of row 6.
use Rattle.std.proofs.Common.{sym, ◌∙◌, arith}
use Rattle.std.proofs.lemmas.Bool.Decides.{nat_tests}
use Rattle.formula.specs.Check.{checked_of}
use Rattle.formula.specs.Limits.{limits}
use Rattle.formula.specs.Laws.Named.{known_up, repeated_is}
use Rattle.text.proofs.ending.check_bound.Goals as goal
use Rattle.text.proofs.ending.check_bound.Goals.{then-kept-2-via-then-kept-2, then-kept-2-via-else-kept-2+then-variable_twice}

pub returns-then-kept-2 : goal.returns-then-kept-2
unfolding checked_of
returns-then-kept-2 c = elim c.then-kept-2.branch [
  | then-kept-2-via-then-kept-2 w ↦ let h = w.if-kept-2.true in grind (arith, nat_tests)
  | then-kept-2-via-else-kept-2+then-variable_twice w ↦
      let ws = c.args.ws.now in
      let v = c.args.kept.variables in
      let known = sym c.some_stranger.ensures ∙ c.if-some_stranger.false in
      let again = w.variable_twice.ensures ∙ repeated_is limits.variables ws (known_up v ws limits.variables c.requires known) in
      let yes = w.if-variable_twice.true in
      grind (arith, nat_tests)
]
