-- What the tables mean of a clause's literals: each is sorted by its status, and its level is the prefix's.
use Prim.Native.Nat.{ℕ, ◌<◌}
use Rattle.std.specs.Prelude.{◌≡◌}
use mathlib.Core.List.{List}
use Rattle.std.proofs.Math.IntN.{ℤ}
use Rattle.words.specs.Lists.{In}
use Rattle.formula.specs.Formula.{level}
use Rattle.theory.specs.Record.{Assignment}
use Rattle.rules.specs.Inner.Tabled.{Sorted}
use Rattle.record.specs.Inner.Tables.{places}

module _ (p : List ℤ) (ρ : Assignment) (st lev : ℤ → ℕ) where
  pub record Meant (x : ℤ) : Type 0 where
    pub sorted : Sorted p ρ st x
    pub at : lev x ≡ level p x
    pub low : level p x < places

  abbrev pub AllMeant : List ℤ → Type 0
  AllMeant C = (x : ℤ) → In x C → Meant x
