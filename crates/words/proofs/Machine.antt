-- The least word is the one whose bits are 2 ^ 31, and every other word's negation is read back from its bits.
use Rattle.std.proofs.Common.{◌≡◌, sym, arith, zero, suc, ◌≤◌, ◌-◌, ◌<◌, ◌^◌, ℤ, pos, negsuc, neg_ℤ, ◌-ℤ◌, nat_abs}
use Rattle.std.proofs.Math.IntN.{+ℤ_idl}
use lib.Dec.{lit<}
use mir.Syntax.{w32}
use mir.Val.{SFits, to_z, of_z}
use mir.ValLaws.{to_z-of_z}
use Rattle.words.specs.Words.{opposite}
use Rattle.words.specs.Laws.Words.{opposite_is, opposite_none}

least : (x : ℤ) → SFits w32 x → of_z w32 x ≡ 2147483648 → nat_abs x ≡ 2147483648
least (pos n) f e = let z : n < 2 ^ 31 = f.sfits in absurd (omega arith)
least (negsuc n) f e = let z : 2 ^ 32 - suc n ≡ 2147483648 = e in omega arith

not_least : (x : ℤ) → SFits w32 x → (of_z w32 x ≡ 2147483648 → ⊥) → nat_abs x ≤ 2147483647
not_least (pos n) f k = let z : n < 2 ^ 31 = f.sfits in omega arith
not_least (negsuc n) f k =
    let z : n < 2 ^ 31 = f.sfits in
    let k' : 2 ^ 32 - suc n ≡ 2147483648 → ⊥ = k in
    omega arith

negation_fits : (x : ℤ) → nat_abs x ≤ 2147483647 → SFits w32 (neg_ℤ x)
negation_fits (pos zero) h = record { sfits = lit< tt }
negation_fits (pos (suc n)) h = record { sfits = omega arith }
negation_fits (negsuc n) h = record { sfits = omega arith }

pub opposed_least : (x : ℤ) → SFits w32 x → of_z w32 x ≡ 2147483648 → pos 0 ≡ opposite x
opposed_least x f e = let z : nat_abs x ≡ 2147483648 = least x f e in sym (opposite_none x (omega arith))

pub opposed : (x : ℤ) → SFits w32 x → (of_z w32 x ≡ 2147483648 → ⊥) → to_z w32 (of_z w32 (pos 0 -ℤ to_z w32 (of_z w32 x))) ≡ opposite x
opposed x f k =
    let h : nat_abs x ≤ 2147483647 = not_least x f k in
    rw (to_z-of_z w32 x f, +ℤ_idl (neg_ℤ x), to_z-of_z w32 (neg_ℤ x) (negation_fits x h)) (sym (opposite_is x h))
