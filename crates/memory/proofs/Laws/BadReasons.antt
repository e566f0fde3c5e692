-- Row 12 of the reasons, entry by entry: none is wrong exactly if each is right; and the reason 0 never is wrong.
use Prim.Native.Nat.{ℕ, zero, suc, ◌<◌}
use Rattle.std.specs.Prelude.{◌≡◌, false, not, List, eqb, get_or}
use Rattle.std.proofs.Math.Path.{refl}
use Rattle.std.proofs.Math.Bool.{and-false}
use Rattle.std.proofs.Math.Decide.{ℕ_discrete}
use Rattle.std.proofs.Common.{arith, le-ltb}
use Rattle.words.specs.Laws.Bools.{or_fl, or_fr}
use Rattle.record.specs.Trail.{Trail}
use Rattle.memory.specs.Reasons.{bad_reason, bad_reasons}

-- a wrong reason is one of the entries'
module _ (c : ℕ) (t : Trail) (ws : List ℕ) where
  pub bad_each : (n : ℕ) → bad_reasons c t.kinds ws n ≡ false → (j : ℕ) → j < n → bad_reason c (get_or t.kinds j 0) (get_or ws j 0) ≡ false
  unfolding bad_reasons
  bad_each zero h j l = absurd (omega arith)
  bad_each (suc n) h j l =
      let x = bad_reason c (get_or t.kinds n 0) (get_or ws n 0) in
      let y = bad_reasons c t.kinds ws n in
      elim (ℕ_discrete j n) [ yes e ↦ rw e (or_fl x y h) | no f ↦ bad_each n (or_fr x y h) j (omega arith) ]

  pub each_bad : (n : ℕ) → ((j : ℕ) → j < n → bad_reason c (get_or t.kinds j 0) (get_or ws j 0) ≡ false) → bad_reasons c t.kinds ws n ≡ false
  unfolding bad_reasons
  each_bad zero h = refl
  each_bad (suc n) h = rw (h n (omega arith), each_bad n (λ j l. h j (omega arith)))

pub zero_right : (c k : ℕ) → bad_reason c k 0 ≡ false
zero_right c k = rw (le-ltb c 0 (omega arith)) (and-false (not (eqb k 0)))
