-- A search: the record in its buffers, the record's length, and the state.
use Rattle.std.specs.Prelude.{ℕ}
use Rattle.theory.specs.Record.{Record}
use Rattle.theory.specs.Rules.{State as Standing, going, valid, unsat}
use Rattle.record.specs.Trail.{Trail, record_of}
use Rattle.record.specs.declared.rule.State.{State}
use Rattle.record.specs.declared.rule.State.TheVariants.{Open, Valid, Unsat}
use Rattle.record.specs.declared.rule.Reached.{Reached}

pub record Search : Type 0 where
  pub trail : Trail
  pub count : ℕ
  pub state : State

abbrev pub search : Trail → ℕ → State → Search
search t n s = record { trail = t; count = n; state = s }

-- where a rule has led, with the buffers as they then are
abbrev pub reached : Reached → Trail → Search
reached r t = search t r.count r.state

abbrev pub record_in : Search → Record
record_in s = record_of s.trail s.count

-- how it stands, in the words of the theory
abbrev pub standing : State → Record → Standing
standing Open r = going r
standing Valid r = valid
standing Unsat r = unsat

abbrev pub standing_of : Search → Standing
standing_of s = standing s.state (record_in s)
