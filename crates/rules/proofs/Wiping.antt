-- The lent table of statuses: with the places of the variables 1 to n wiped it is blank again, since it said nothing of the others.
use Rattle.std.specs.Prelude.{◌≡◌, List, ℕ, ◌+◌, ◌-◌, ◌≤◌, ◌<◌, get_or}
use Rattle.std.proofs.Common.{◌∙◌, inl, inr, arith}
use Rattle.std.proofs.Math.Decide.{dec_lt}
use Rattle.formula.specs.Limits.{max_variables}
use Rattle.record.specs.Trail.{wiped}
use Rattle.record.proofs.Laws.Wiped.{wiped_length, wiped_inside, wiped_outside}
use Rattle.tables.specs.Inner.ByLiteral.{Blank, BlankBeyond}

module _ (n : ℕ) (few : n ≤ max_variables) (t : List ℕ) (b : BlankBeyond n t) where
  abbrev after : List ℕ
  after = wiped 0 t (max_variables - n) (max_variables + n + 1)

  none : (at : ℕ) → Dec (at + n < max_variables) → Dec (max_variables + n < at) → get_or after at 0 ≡ 0
  none at (yes l) d = wiped_outside 0 t (max_variables - n) (max_variables + n + 1) at 0 (inl (omega arith)) ∙ b.low at l
  none at (no l) (yes h) = wiped_outside 0 t (max_variables - n) (max_variables + n + 1) at 0 (inr (omega arith)) ∙ b.high at h
  none at (no l) (no h) = wiped_inside 0 t (max_variables - n) (max_variables + n + 1) at (omega arith) (omega arith)

  pub wiped_blank : Blank after
  wiped_blank = record { long = wiped_length 0 t (max_variables - n) (max_variables + n + 1) ∙ b.long; none = λ at. none at (dec_lt (at + n) max_variables) (dec_lt (max_variables + n) at) }
