-- `map_err` and `?`: an error is passed on as it is said again, and a value as it is. By the cases of each.
use Rattle.std.specs.Prelude.{◌≡◌, refl, ℕ, Result, Ok, Err}
use Rattle.std.specs.Result.{MatchResult, IsErrAnd}
use Rattle.std.proofs.Common.{arith}

module _ {A E F : Type 0} (say : E → F) where
  abbrev pub Said : Result A E → Result A F → Type 0
  Said r m = MatchResult r (λ y. m ≡ Ok y) (λ e. IsErrAnd m (λ v. v ≡ say e))

  pub gone_on : (r : Result A E) (m : Result A F) (y : A) → Said r m → m ≡ Ok y → r ≡ Ok y
  gone_on (Ok x) (Ok z) y h k = cc
  gone_on (Ok x) (Err v) y h k = cc
  gone_on (Err e) (Ok x) y h k = absurd h
  gone_on (Err e) (Err v) y h k = cc

  pub passed_on : {B : Type 0} (r : Result A E) (m : Result A F) (x : Result B F) (u : F) → Said r m → m ≡ Err u → IsErrAnd x (λ v. v ≡ u) → (e : E) × (r ≡ Err e) × (x ≡ Err (say e))
  passed_on (Ok y) m x u h k p = let z : ◌≡◌ {A = ℕ} 0 1 = cc in absurd (omega arith)
  passed_on (Err e) (Err v) (Err w) u h k p = (e, refl, cc)
  passed_on (Err e) (Ok y) x u h k p = absurd h
  passed_on (Err e) (Err v) (Ok y) u h k p = absurd p
