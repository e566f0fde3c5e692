-- [session.number] A session's state as a number.
use Rattle.std.specs.Prelude.{ℕ, zero, suc}
use Rattle.record.specs.declared.rule.State.{State}
use Rattle.record.specs.declared.rule.State.TheVariants.{Open, Valid, Unsat}

abbrev pub number_of : State → ℕ
number_of Open = 0
number_of Valid = 1
number_of Unsat = 2

abbrev pub state_numbered : ℕ → State
state_numbered zero = Open
state_numbered (suc zero) = Valid
state_numbered (suc (suc n)) = Unsat
