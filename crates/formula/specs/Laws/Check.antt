-- What an answer of a check says of the number, and of the rows. By its cases.
use Rattle.std.specs.Prelude.{◌≡◌, refl, true, List, ◌++◌, ℕ, zero, suc, Result, Ok, Err}
use Rattle.std.proofs.Common.{◌∙◌, ap, arith}
use Rattle.words.specs.Outcomes.{Outcome, outcome, unless, refused}
use Rattle.words.specs.declared.Refusal.{Refusal}
use Rattle.words.specs.Rows.{Row, refusal_of, positive}
use Rattle.words.specs.Laws.Rows.{stops, goes_on}
use Rattle.formula.specs.Check.{checked_of}

pub checked_accepted : (n : ℕ) (u : Unit {0}) → Ok u ≡ checked_of n → n ≡ 0
unfolding checked_of
checked_accepted zero u e = refl
checked_accepted (suc n) u e = absurd cc

-- the number that is given is the table's, and not 0
pub checked_refused : (n : ℕ) (e : Refusal) → Err e ≡ checked_of n → n ≡ e.0
unfolding checked_of
checked_refused zero e is = absurd cc
checked_refused (suc n) e is = cc

pub checked_some : (n : ℕ) (e : Refusal) → Err e ≡ checked_of n → n ≡ 0 → ⊥
unfolding checked_of
checked_some zero e is z = cc
checked_some (suc n) e is z = absurd (omega arith)

pub checked_number : (n : ℕ) → (n ≡ 0 → ⊥) → refused n ≡ checked_of n
unfolding checked_of
checked_number zero h = absurd (h refl)
checked_number (suc n) h = refl

-- ---- a table in two parts: what the first refuses, the whole refuses; and what the first lets pass, the second decides
module _ (rs ss : List Row) where
  pub checked_stops : (e : Refusal) → Err e ≡ checked_of (refusal_of rs) → Err e ≡ checked_of (refusal_of (rs ++ ss))
  checked_stops e is = is ∙ ap checked_of (stops rs ss refl (checked_some (refusal_of rs) e is))

  pub checked_goes_on : (u : Unit {0}) → positive rs ≡ true → Ok u ≡ checked_of (refusal_of rs) → refusal_of (rs ++ ss) ≡ refusal_of ss
  checked_goes_on u p is = goes_on rs ss p (checked_accepted (refusal_of rs) u is)

-- ---- a call that answers what its check refuses with leaves all as it was
pub checked_leaves : {M A : Type 0} (n : ℕ) (m : M) (o : Outcome M (Result A Refusal)) (e : Refusal) → Err e ≡ checked_of n → outcome (Err e) m ≡ unless refused n m o
unfolding checked_of
checked_leaves zero m o e is = absurd cc
checked_leaves (suc n) m o e is = let f : e ≡ record { 0 = suc n } = cc in rw f
