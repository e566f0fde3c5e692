-- The numbers of the clauses before c stand at their places.
use Rattle.std.specs.Prelude.{ℕ, ◌+◌, ◌≤◌, ◌<◌, ◌≡◌, List, [], ℤ, length, get_or, set}
use Rattle.std.proofs.Common.{◌∙◌, refl, arith, length-set, drop-set-lt, get_or-set_other, get_or-set_same}
use Rattle.std.proofs.Math.Decide.{ℕ_discrete}
use Rattle.counted.specs.Inner.Numbers.{Filled, numbers_of, Rest, with_status}
use Rattle.counted.specs.declared.numbers.Numbers.{Numbers}

module _ (st : ℤ → ℕ) (m : List (List ℤ)) where
  pub record Filling (ts₀ os₀ ts os : List ℕ) (c : ℕ) : Type 0 where
    pub trues_kept : length ts ≡ length ts₀
    pub opens_kept : length os ≡ length os₀
    pub said : (k : ℕ) → k < c → (get_or ts k 0 ≡ with_status st 1 (get_or m k [])) × (get_or os k 0 ≡ with_status st 2 (get_or m k []))
    pub rest : Rest (length m) ts₀ os₀ ts os

  module _ (ts₀ os₀ : List ℕ) (tr : length m ≤ length ts₀) (or : length m ≤ length os₀) (ts os : List ℕ) (c : ℕ) (f : Filling ts₀ os₀ ts os c) where
    pub fill_end : length m ≤ c → Filled st m ts₀ os₀ ts os
    fill_end h = record {
      trues_room = omega (arith, f.trues_kept);
      opens_room = omega (arith, f.opens_kept);
      said = λ k l. f.said k (omega arith);
      rest = f.rest;
    }

    pub fill_turn : c < length m → (n : Numbers) → n ≡ numbers_of st (get_or m c []) → Filling ts₀ os₀ (set ts c n.trues) (set os c n.opens) (c + 1)
    unfolding numbers_of
    fill_turn h n z = record {
      trues_kept = length-set ts c n.trues ∙ f.trues_kept;
      opens_kept = length-set os c n.opens ∙ f.opens_kept;
      said = λ k l. by k (ℕ_discrete k c) (omega arith);
      rest = record {
        trues = drop-set-lt (length m) ts c n.trues h ∙ f.rest.trues;
        opens = drop-set-lt (length m) os c n.opens h ∙ f.rest.opens;
      };
    }
      where
        by : (k : ℕ) → Dec (k ≡ c) → k ≤ c
            → (get_or (set ts c n.trues) k 0 ≡ with_status st 1 (get_or m k [])) × (get_or (set os c n.opens) k 0 ≡ with_status st 2 (get_or m k []))
        by k (yes q) l = rw (q, get_or-set_same ts c n.trues 0 (omega (arith, f.trues_kept)), get_or-set_same os c n.opens 0 (omega (arith, f.opens_kept)), z) (refl, refl)
        by k (no q) l =
            let s = f.said k (omega arith) in
            (get_or-set_other ts c k n.trues 0 q ∙ s.0, get_or-set_other os c k n.opens 0 q ∙ s.1)
