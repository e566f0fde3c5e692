-- A literal is live exactly if it occurs in a clause with no true literal: those are the clauses whose number of true literals is 0.
use Rattle.std.specs.Prelude.{ℕ, suc, ◌+◌, ◌≤◌, ◌<◌, ◌≡◌, ◌⊎◌, Bool, true, false, cond, ℤ, nat_abs, length}
use Rattle.std.proofs.Math.Path.{refl}
use Rattle.std.proofs.Common.{inl, inr}
use Rattle.std.proofs.Math.Bool.{not}
use mathlib.Core.List.{List, [], ◌∷◌}
use native.Mathlib.Omega.{arith}
use Rattle.std.proofs.Math.Dec.{eqb}
use Rattle.std.proofs.Math.ListN.{get_or}
use Rattle.words.specs.Words.{mem}
use Rattle.words.specs.Lists.{any}
use Rattle.words.specs.Laws.Bools.{look}
use Rattle.formula.specs.Limits.{limits}
use Rattle.formula.specs.Inner.Places.{place_of}
use Rattle.theory.specs.Record.{Assignment}
use Rattle.theory.specs.Tests.{occurs, untrue_of}
use Rattle.counted.specs.Inner.Index.{holders, listed}
use Rattle.counted.specs.Inner.Live.{Within, some_zero}
use Rattle.counted.specs.Inner.State.{AllOnce, Counted}
use Rattle.counted.proofs.Laws.Counts.{count_any}
use Rattle.counted.proofs.Laws.Held.{held_below, listed_holders}
use Rattle.counted.specs.declared.walk.Bounds.{Bounds}

module _ (l : ℤ) (f : ℕ → Bool) (ρ : Assignment) where
  any_holders : (n : ℕ) (m : List (List ℤ)) → ((i : ℕ) → i < length m → f (n + i) ≡ not (any ρ (get_or m i []))) → any f (holders n m l) ≡ occurs (untrue_of ρ m) l
  unfolding holders occurs untrue_of any
  any_holders n [] k = refl
  any_holders n (C ∷ m) k = by (look (any ρ C)) (look (mem l C)) (any_holders (suc n) m (λ i q. next i (k (suc i) (omega arith))))
    where
      own : f n ≡ not (any ρ C)
      own = let z : n + 0 ≡ n = omega arith in rw z at (k 0 (omega arith))

      next : (i : ℕ) → f (n + suc i) ≡ not (any ρ (get_or m i [])) → f (suc n + i) ≡ not (any ρ (get_or m i []))
      next i e = let z : n + suc i ≡ suc n + i = omega arith in rw z at e

      by : (any ρ C ≡ true) ⊎ (any ρ C ≡ false) → (mem l C ≡ true) ⊎ (mem l C ≡ false) → any f (holders (suc n) m l) ≡ any (mem l) (untrue_of ρ m)
          → any f (cond (mem l C) (n ∷ holders (suc n) m l) (holders (suc n) m l)) ≡ any (mem l) (cond (any ρ C) (untrue_of ρ m) (C ∷ untrue_of ρ m))
      by (inl r) (inl t) ih = rw (t, own, r) ih
      by (inl r) (inr t) ih = rw (t, r) ih
      by (inr r) (inl t) ih = rw (t, own, r, t)
      by (inr r) (inr t) ih = rw (t, r, t) ih

pub live_means : (p : List ℤ) (m : List (List ℤ)) (ρ : Assignment) (ts os : List ℕ) (b : Bounds) → Counted p m ρ ts os b → AllOnce m → (l : ℤ) → nat_abs l ≤ limits.variables → some_zero ts (listed 0 m (place_of l)) ≡ occurs (untrue_of ρ m) l
unfolding some_zero
live_means p m ρ ts os b s o l h = rw (listed_holders l h 0 m o) (any_holders l _ ρ 0 m none)
  where
    none : (i : ℕ) → i < length m → eqb (get_or ts (0 + i) 0) 0 ≡ not (any ρ (get_or m i []))
    none i k = let z : 0 + i ≡ i = omega arith in rw (z, (s.numbers i k).0) (count_any ρ (get_or m i []))

-- each of its clauses has its number
pub live_within : (p : List ℤ) (m : List (List ℤ)) (ρ : Assignment) (ts os : List ℕ) (b : Bounds) → Counted p m ρ ts os b → AllOnce m → (l : ℤ) → nat_abs l ≤ limits.variables → Within (listed 0 m (place_of l)) ts
live_within p m ρ ts os b s o l h c k = omega (arith, held_below m o l h c k, s.trues_room)
