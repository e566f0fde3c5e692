-- One clause's literals counted by their status: what is counted and what is left make up the whole.
use Prim.Native.Nat.{ℕ, ◌+◌, ◌≤◌, ◌<◌}
use mathlib.Core.Path.{◌≡◌}
use mathlib.Core.List.{List}
use native.Mathlib.Omega.{arith}
use lib.Dec.{eqb}
use lib.IntN.{ℤ, pos}
use lib.ListN.{length, get_or, drop}
use Rattle.counted.specs.Fresh.{bit}
use Rattle.counted.specs.Inner.Numbers.{numbers_of, with_status}
use Rattle.counted.proofs.Laws.Numbers.{status_ended, status_most, status_next}

pub record Tallied (st : ℤ → ℕ) (C : List ℤ) (t o j : ℕ) : Type 0 where
  pub most : j ≤ length C
  pub trues : t + with_status st 1 (drop j C) ≡ with_status st 1 C
  pub opens : o + with_status st 2 (drop j C) ≡ with_status st 2 C

module _ (st : ℤ → ℕ) (C : List ℤ) where
  module _ (t o j : ℕ) (k : Tallied st C t o j) where
    pub tally_end : length C ≤ j → record { trues = t; opens = o } ≡ numbers_of st C
    unfolding numbers_of
    tally_end h =
        let a : t ≡ with_status st 1 C = omega (arith, k.trues, status_ended st 1 C j h) in
        let b : o ≡ with_status st 2 C = omega (arith, k.opens, status_ended st 2 C j h) in
        rw (a, b)

    -- s is the status of the literal at j
    module _ (h : j < length C) (s : ℕ) (is : s ≡ st (get_or C j (pos 0))) where
      one_more : (w : ℕ) → with_status st w (drop j C) ≡ bit (eqb s w) + with_status st w (drop (j + 1) C)
      one_more w = rw is (status_next st w C j h)

      pub trues_small : (a : ℕ) → a ≡ bit (eqb s 1) → t + a ≤ length C
      trues_small a e = omega (arith, k.trues, one_more 1, status_most st 1 C)

      pub opens_small : (b : ℕ) → b ≡ bit (eqb s 2) → o + b ≤ length C
      opens_small b e = omega (arith, k.opens, one_more 2, status_most st 2 C)

      pub tally_turn : (a b : ℕ) → a ≡ bit (eqb s 1) → b ≡ bit (eqb s 2) → Tallied st C (t + a) (o + b) (j + 1)
      tally_turn a b d e = record {
        most = omega arith;
        trues = omega (arith, k.trues, one_more 1);
        opens = omega (arith, k.opens, one_more 2);
      }
