-- A refused call of any answer: an accepted one is no number's, and different numbers have different ones. By the two cases of the number.
use Rattle.std.specs.Prelude.{◌≡◌, refl, ℕ, zero, suc}
use Rattle.std.proofs.Common.{sym}
use Rattle.words.specs.Outcomes.{Outcome, unless, Left}

module _ {M A : Type 0} (number : ℕ → A) where
  pub unless_left : ((j n : ℕ) → number j ≡ number n → j ≡ n) → (table : ℕ) (m : M) (o : Outcome M A) (n : ℕ) → (o.answer ≡ number n → ⊥)
      → let u = unless number table m o in u.answer ≡ number n → Left table n m u.memory
  unless_left told zero m o n none e = absurd (none e)
  unless_left told (suc j) m o n none e = record { number = sym (told (suc j) n e); memory = refl }
