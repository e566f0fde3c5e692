-- A word raised by the number of variables is its place: in the wider type every sum here fits, and it is not negative.
use mathlib.Core.Path.{◌≡◌, ◌∙◌, ap}
use Prim.Native.Nat.{ℕ, ◌≤◌, ◌<◌, ◌^◌}
use native.Mathlib.Nat.{lt_trans}
use native.Mathlib.Omega.{arith}
use lib.Dec.{T, lit<}
use lib.IntN.{ℤ, pos, nat_abs, ◌+ℤ◌}
use lib.Signed.{non_neg}
use mir.Syntax.{w32, w64}
use mir.Val.{SFits, Fits, to_z, of_z}
use mir.ValLaws.{to_z-of_z}
use Rattle.formula.specs.Limits.{limits}
use Rattle.formula.specs.Laws.Limits.{variables_small}
use Rattle.formula.specs.Inner.Places.{place_of}
use Rattle.formula.specs.Laws.Places.{raised, place_within}

module _ (x : ℤ) (f : SFits w32 x) where
  wide : SFits w64 x
  wide = record { sfits = lt_trans f.sfits (lit< tt) }

  read : to_z w32 (of_z w32 x) ≡ x
  read = to_z-of_z w32 x f

  module _ (h : nat_abs x ≤ limits.variables) (m : ℕ) (mid : m ≡ limits.variables) where
    -- the sum as the machine makes it
    abbrev sum : ℤ
    sum = to_z w64 (of_z w64 (to_z w32 (of_z w32 x))) +ℤ pos m

    sum_is : sum ≡ pos (place_of x)
    sum_is = ap (λ z. to_z w64 (of_z w64 z) +ℤ pos m) read ∙ ap (λ z. z +ℤ pos m) (to_z-of_z w64 x wide) ∙ rw mid (raised x h)

    small : place_of x < 2 ^ 63
    small = let l : 2 ^ 33 < 2 ^ 63 = lit< tt in lt_trans (omega (arith, place_within x h, variables_small)) l

    sum_fits : SFits w64 sum
    sum_fits = rw sum_is (record { sfits = small })

    sum_read : to_z w64 (of_z w64 sum) ≡ pos (place_of x)
    sum_read = to_z-of_z w64 sum sum_fits ∙ sum_is

    pub sum_cast : T (non_neg (to_z w64 (of_z w64 sum))) × Fits w64 (nat_abs (to_z w64 (of_z w64 sum)))
    sum_cast = rw sum_read (tt, record { fits = lt_trans small (lit< tt) })

    pub sum_place : nat_abs (to_z w64 (of_z w64 sum)) ≡ place_of x
    sum_place = ap nat_abs sum_read
