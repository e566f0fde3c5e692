-- [witness] What a session that has ended shows is an opening: the values of the first group by its record are those of a number below 2^k, and that
-- opening wins if the session is Valid and loses if it is Unsat.
use Rattle.std.specs.Prelude.{◌≡◌, Bool, true, false, List, ℤ, Ok}
use Rattle.formula.specs.Limits.{Limits}
use Rattle.formula.specs.Formula.{formula_of}
use Rattle.theory.specs.Record.{true_in}
use Rattle.theory.specs.Witness.{group_of, conflicting, shown_true, witness_of}
use Rattle.record.specs.declared.rule.State.TheVariants.{Valid, Unsat}
use Rattle.record.specs.Search.{record_in}
use Rattle.memory.specs.Memory.{Memory}
use Rattle.session.specs.declared.Revision.{Revision}
use Rattle.session.specs.declared.Session.{Session}
use Rattle.session.specs.Outcome.{open_outcome}
use Rattle.session.specs.Calls.{Call, play}
use Rattle.session.specs.RunSteps.{search_at}
use Rattle.session.specs.History.{verdict_of, fresh_desk}
use Rattle.session.specs.Witnessed.{history_shows}
use Rattle.listing.specs.Wins.{wins}
use Rattle.listing.proofs.Laws.Values.{number_of, group_length}
use Rattle.listing.specs.Found.{Found}

module _ (L : Limits) (b : List ℤ) (m : Memory) (rev : Revision) (s : Session) (a : (open_outcome L b m rev).answer ≡ Ok s) (calls : List Call) where
  found : (v : Bool) → let d = play L b (fresh_desk L b m rev s) calls in d.latest.state ≡ verdict_of v → Found b d v
  unfolding wins witness_of
  found v e =
      let F = formula_of b in
      let r = record_in (search_at (play L b (fresh_desk L b m rev s) calls)) in
      let (n, l, z) = number_of (shown_true (true_in r) (conflicting F.prefix F.clauses (true_in r))) (group_of F) in
      record { opening = n; below = rw (group_length F) at l; values = z; won = rw z (history_shows L b m rev s a calls v e).values }

  -- [witness.opening] a Valid session shows an opening that wins
  pub valid_wins : let d = play L b (fresh_desk L b m rev s) calls in d.latest.state ≡ Valid → Found b d true
  valid_wins e = found true e

  -- [witness.counter] an Unsat session shows one that loses: where the first group is universal, values of it that leave no way out
  pub unsat_loses : let d = play L b (fresh_desk L b m rev s) calls in d.latest.state ≡ Unsat → Found b d false
  unsat_loses e = found false e
