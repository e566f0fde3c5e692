-- What wiping leaves: the length, the places outside, and z inside. The places are a run of stores of one value.
use Prim.Native.Nat.{ℕ, suc, ◌+◌, ◌-◌, ◌≤◌, ◌<◌, min}
use Rattle.std.specs.Prelude.{◌≡◌, ◌⊎◌, List, pos, length, get_or, take, set, replicate}
use Rattle.std.proofs.Math.Logic.{inl, inr}
use Rattle.std.proofs.Math.Decide.{dec_le}
use Rattle.std.proofs.Common.{add-one}
use native.Mathlib.Omega.{arith}
use Rattle.std.proofs.Math.ListN.{length-replicate}
use Rattle.std.proofs.Math.Seq.{length-sets}
use Rattle.record.specs.Trail.{Trail, no_entry, entry_at, wiped, wiped_trail}
use Rattle.words.specs.Laws.Stores.{take_sets, sets_out, sets_outside, sets_inside}

module _ {A : Type 0} (z : A) (l : List A) (from to : ℕ) where
  pub wiped_length : length (wiped z l from to) ≡ length l
  unfolding wiped
  wiped_length = length-sets l from (replicate (to - from) z)

  pub wiped_before : (n : ℕ) → n ≤ from → take n (wiped z l from to) ≡ take n l
  unfolding wiped
  wiped_before n h = take_sets (replicate (to - from) z) l from n h

  pub wiped_inside : (j : ℕ) → from ≤ j → j < to → get_or (wiped z l from to) j z ≡ z
  unfolding wiped
  wiped_inside j h k = sets_inside (to - from) l from j z h (omega arith)

  pub wiped_outside : (j : ℕ) (d : A) → (j < from) ⊎ (to ≤ j) → get_or (wiped z l from to) j d ≡ get_or l j d
  unfolding wiped
  wiped_outside j d h = sets_outside (replicate (to - from) z) l from j d (elim (dec_le from j) [ yes k ↦ inr (rw length-replicate (past h k)) | no k ↦ inl (omega arith) ])
    where
      past : (j < from) ⊎ (to ≤ j) → from ≤ j → from + (to - from) ≤ j
      past (inl h) k = omega arith
      past (inr h) k = omega arith

  -- one place after the other, up to the last place or the list's end
  pub wiped_next : from < to → wiped z l from to ≡ wiped z (set l from z) (from + 1) to
  unfolding wiped
  wiped_next h = let e : to - from ≡ suc (to - suc from) = omega arith in rw (add-one, e)

  wiped_none : to ≤ from → wiped z l from to ≡ l
  unfolding wiped
  wiped_none h = let e : to - from ≡ 0 = omega arith in rw e

  wiped_past : length l ≤ from → wiped z l from to ≡ l
  unfolding wiped
  wiped_past h = sets_out (replicate (to - from) z) l from h

  pub wiped_rest : min to (length l) ≤ from → wiped z l from to ≡ l
  wiped_rest h = elim (dec_le to from) [ yes k ↦ wiped_none k | no k ↦ wiped_past (omega arith) ]

-- ---- one place of a trail
pub wiped_other : (t : Trail) (from to j : ℕ) → (j < from) ⊎ (to ≤ j) → entry_at (wiped_trail t from to) j ≡ entry_at t j
wiped_other t from to j h = rw (wiped_outside (pos 0) t.lits from to j (pos 0) h, wiped_outside 0 t.kinds from to j 0 h)

pub wiped_blank : (t : Trail) (from to j : ℕ) → from ≤ j → j < to → entry_at (wiped_trail t from to) j ≡ no_entry
wiped_blank t from to j h k = rw (wiped_inside (pos 0) t.lits from to j h k, wiped_inside 0 t.kinds from to j h k)
