-- What is left of the clause shows what the whole clause does; and the literal kept has a place.
use Rattle.std.proofs.Common.{◌≤◌, nat_abs}
use Rattle.std.specs.Prelude.{MatchOption}
use Rattle.formula.specs.Limits.{limits}
use Rattle.tables.specs.Inner.ByLiteral.{status_in}
use Rattle.clauses.specs.Inner.Clauses.{level_by}
use Rattle.clauses.proofs.Looks.{Looking}
use Rattle.clauses.proofs.clauses.look.Given as goal

abbrev pub invariant-loop-word : goal.invariant-loop-word
invariant-loop-word l =
    Looking (status_in l.fn.statuses) (level_by l.fn.levels) l.fn.clause l.kept l.above l.word-index
    × MatchOption l.kept (Unit {0}) (λ w. nat_abs w ≤ limits.variables)
