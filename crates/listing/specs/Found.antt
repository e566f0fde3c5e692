-- [witness.opening] [witness.counter] The opening that an ended session shows.
use Rattle.std.specs.Prelude.{ℕ, ◌<◌, ◌≡◌, Bool, List, ℤ}
use Rattle.formula.specs.Formula.{formula_of}
use Rattle.theory.specs.Witness.{group_of, witness_of}
use Rattle.record.specs.Search.{record_in}
use Rattle.session.specs.Calls.{Desk}
use Rattle.session.specs.RunSteps.{search_at}
use Rattle.listing.specs.Opening.{openings, values_of}
use Rattle.listing.specs.Wins.{wins}

-- the values that the desk's record shows are those of an opening, which wins or loses as v says
pub record Found (b : List ℤ) (d : Desk) (v : Bool) : Type 0 where
  pub opening : ℕ
  pub below : opening < openings (formula_of b)
  pub values : values_of opening (group_of (formula_of b)) ≡ witness_of (formula_of b) (record_in (search_at d))
  pub won : wins (formula_of b) opening ≡ v
