-- Row 12 of the reasons from the first entry to the last: some reason is wrong beside its kind exactly if one of the first n is, looked at from the
-- last one back. By induction on n.
use Rattle.std.proofs.Common.{◌≡◌, refl, arith, Bool, true, false, ◌||◌, ℕ, zero, suc, ◌≤◌, List, [], ◌∷◌, length, take}
use Rattle.std.specs.List.{zip, list_any}
use Rattle.memory.specs.Reasons.{bad_reason, bad_reasons}

-- a reason beside a kind
abbrev pub wrong : ℕ → ℕ × ℕ → Bool
wrong c p = bad_reason c p.0 p.1

swap : (a b r : Bool) → b || (a || r) ≡ a || (b || r)
swap true true r = refl
swap true false r = refl
swap false b r = refl

first : (c k w : ℕ) (ks ws : List ℕ) (n : ℕ) → bad_reasons c (k ∷ ks) (w ∷ ws) (suc n) ≡ bad_reason c k w || bad_reasons c ks ws n
unfolding bad_reasons
first c k w ks ws zero = refl
first c k w ks ws (suc n) = rw (first c k w ks ws n) (swap (bad_reason c k w) _ (bad_reasons c ks ws n))

pub each_entry : (c : ℕ) (ks ws : List ℕ) (n : ℕ) → n ≤ length ks → n ≤ length ws → list_any (wrong c) (zip (take n ks) (take n ws)) ≡ bad_reasons c ks ws n
unfolding bad_reasons
each_entry c ks ws zero h i = refl
each_entry c [] ws (suc n) h i = absurd (omega arith)
each_entry c (k ∷ ks) [] (suc n) h i = absurd (omega arith)
each_entry c (k ∷ ks) (w ∷ ws) (suc n) h i = rw (each_entry c ks ws n (omega arith) (omega arith), first c k w ks ws n)
