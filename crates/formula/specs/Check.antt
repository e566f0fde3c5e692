-- What a check answers: the table's number where a row applies, and no number where none does.
use Rattle.std.specs.Prelude.{ℕ, zero, suc, Result, Ok}
use Rattle.words.specs.declared.Refusal.{Refusal}
use Rattle.words.specs.Outcomes.{refused}

unfoldable pub checked_of : ℕ → Result (Unit {0}) Refusal
checked_of zero = Ok tt
checked_of (suc n) = refused (suc n)
