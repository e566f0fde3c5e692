-- A number below 2^31 is its own word.
use mathlib.Core.Path.{◌≡◌}
use Prim.Native.Nat.{ℕ, ◌≤◌}
use native.Mathlib.Omega.{arith}
use lib.IntN.{pos}
use mir.Syntax.{w32}
use mir.Val.{to_z}
use mir.ValLaws.{to_z-of_z}

pub word : (n : ℕ) → n ≤ 2147483647 → to_z w32 n ≡ pos n
word n h = to_z-of_z w32 (pos n) (record { sfits = omega arith })
