-- The table is read at the literal's place, which it has.
use Rattle.std.proofs.Common.{◌≡◌, ◌∙◌, ap, get_or, arith}
use mir.Syntax.{w32}
use mir.ValLaws.{to_z-of_z}
use Rattle.formula.specs.Inner.Places.{place_of}
use Rattle.formula.specs.Laws.Limits.{variables_are}
use Rattle.formula.specs.Laws.Places.{place_within}
use Rattle.clauses.proofs.clauses.status.Goals as goal
use Rattle.clauses.proofs.clauses.status.Goals.{After-place}

at_place : (c : After-place) → c.place.result ≡ place_of c.args.word
at_place c = c.place.ensures ∙ ap place_of (to_z-of_z w32 c.args.word c.ranges.word)

pub bounds-statuses-place : goal.bounds-statuses-place
bounds-statuses-place c = omega (arith, variables_are, at_place (goal.at.bounds-statuses-place c).After-place, place_within c.args.word c.requires)

pub returns : goal.returns
returns c = ap (λ at. get_or c.args.statuses.now at 0) (at_place (goal.at.returns c).After-place)
