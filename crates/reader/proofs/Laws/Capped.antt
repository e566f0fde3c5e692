-- A number of any length in a 32-bit word: numbers past 2^31 count as one. So code can follow the machine's number, and tell which are `beyond`.
use Rattle.std.specs.Prelude.{◌≡◌, refl, Bool, true, false, cond, ℕ, zero, suc, ◌+◌, ◌*◌, ◌-◌, ◌≤◌, ◌<◌, min, ltb, ℤ, pos}
use Rattle.std.proofs.Common.{sym, ◌∙◌, ap, arith, lt-ltb, le-ltb}
use Rattle.std.proofs.Math.Decide.{dec_le}
use Rattle.grammar.specs.Grammar.{'0'}
use Rattle.grammar.specs.declared.State.{State}
use Rattle.reader.specs.Keep.{beyond, capped, stored}
use Rattle.grammar.specs.Machine.{inside, move, if_inside, one_more, shift, signed}

-- one byte, with the cap
unfoldable pub capped_shift : State → ℕ → ℕ → ℕ
capped_shift s b n = capped (shift s b n)

cap_kept : (s : State) (n : ℕ) → capped (if_inside s n) ≡ if_inside s (capped n)
unfolding capped
cap_kept s n = by (inside s)
  where
    by : (c : Bool) → min (cond c n 0) 2147483649 ≡ cond c (min n 2147483649) 0
    by true = refl
    by false = refl

cap_more : (s : State) (d n : ℕ) → capped (one_more s d (capped n)) ≡ capped (one_more s d n)
unfolding capped
cap_more s d n = by (inside s)
  where
    by : (c : Bool) → min (cond c (min n 2147483649 * 10 + d) d) 2147483649 ≡ min (cond c (n * 10 + d) d) 2147483649
    by true = omega arith
    by false = refl

-- the cap of the next number follows from the cap of this one
pub cap_shift : (s : State) (b n : ℕ) → capped_shift s b (capped n) ≡ capped (shift s b n)
unfolding capped_shift shift
cap_shift s b n = cap_kept (move s b).to (one_more s (b - '0') (capped n)) ∙ ap (if_inside (move s b).to) (cap_more s (b - '0') n) ∙ sym (cap_kept (move s b).to (one_more s (b - '0') n))

-- ---- a number up to the cap is its own
pub cap_is : (n : ℕ) → n ≤ 2147483649 → capped n ≡ n
unfolding capped
cap_is n h = omega arith

pub cap_grows : (n : ℕ) → capped n ≤ capped (suc n)
unfolding capped
cap_grows n = omega arith

-- one more, capped
pub cap_suc : (n : ℕ) → capped (suc (capped n)) ≡ capped (suc n)
unfolding capped
cap_suc n = omega arith

-- ---- a cap of a cap
pub cap_cap : (n : ℕ) → capped (capped n) ≡ capped n
unfolding capped
cap_cap n = omega arith

-- a literal of a capped number is as far beyond, and stored as the same word
pub beyond_cap : (n : ℕ) → ltb 2147483647 (capped n) ≡ ltb 2147483647 n
unfolding capped
beyond_cap n = elim (dec_le n 2147483647) [
  | yes h ↦ rw (le-ltb 2147483647 n h) (le-ltb 2147483647 (min n 2147483649) (omega arith))
  | no h ↦ let l : 2147483647 < n = omega arith in rw (lt-ltb 2147483647 n l) (lt-ltb 2147483647 (min n 2147483649) (omega arith))
]

pub record SameWord (x y : ℤ) : Type 0 where
  pub large : beyond x ≡ beyond y
  pub word : stored (beyond x) x ≡ stored (beyond y) y

gone : (s : Bool) (m : ℕ) → 2147483648 < m → (beyond (signed s m) ≡ true) × (stored (beyond (signed s m)) (signed s m) ≡ pos 0)
unfolding beyond stored
gone false m h = let e = lt-ltb 2147483647 m (omega arith) in (e, rw e)
gone true zero h = absurd (omega arith)
gone true (suc m) h = let e = lt-ltb 2147483647 m (omega arith) in (e, rw e)

pub same_word : (n : ℕ) (s : Bool) → SameWord (signed s (capped n)) (signed s n)
unfolding capped
same_word n s = elim (dec_le n 2147483648) [ yes h ↦ near h | no h ↦ far (omega arith) ]
  where
    near : n ≤ 2147483648 → SameWord (signed s (capped n)) (signed s n)
    near h = let e : min n 2147483649 ≡ n = omega arith in rw e (record { large = refl; word = refl })

    far : 2147483648 < n → SameWord (signed s (capped n)) (signed s n)
    far h =
        let (p, q) = gone s n h in
        let l : 2147483648 < min n 2147483649 = omega arith in
        let (p', q') = gone s (min n 2147483649) l in
        record { large = p' ∙ sym p; word = q' ∙ sym q }
