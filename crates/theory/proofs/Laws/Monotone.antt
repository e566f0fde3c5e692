-- Two tests of Monotone that are within the widest: the one that counts only clauses with no true literal, and the one that counts all. A sign
-- that does not occur in the counted clauses is absent from those that lack a true literal.
use Rattle.std.specs.Prelude.{◌≡◌, ◌⊎◌, Bool, false, cond, ◌&&◌, ◌||◌, ℤ, neg_ℤ}
use Rattle.std.proofs.Math.Logic.{inl, inr}
use Rattle.std.proofs.Math.Bool.{true, not}
use mathlib.Core.List.{List, ◌∷◌}
use Rattle.words.specs.Laws.Bools.{clash, look, and_l, and_r, and_i, or_e, or_l, or_r, not_t, not_f, to_false}
use Rattle.words.specs.Lists.{In, here, there, any}
use Rattle.words.specs.Laws.Lists.{all_i, any_i}
use Rattle.words.specs.Words.{mem}
use Rattle.words.specs.Laws.Words.{negneg}
use Rattle.theory.specs.Record.{Assignment}
use Rattle.theory.specs.Rules.{Within}
use Rattle.theory.specs.Tests.{unassigned_existential, unassigned_universal, occurs, one_sign, monotone, untrue_of, monotone_open, absent, monotone_wide}

-- any count that leaves out no clause that lacks a true literal: m is the matrix, n what is counted
module _ (m n : List (List ℤ)) (ρ : Assignment) (counted : (C : List ℤ) → In C m → any ρ C ≡ false → In C n) where
  absent_i : (a : ℤ) → not (occurs n a) ≡ true → absent m ρ a ≡ true
  unfolding absent occurs
  absent_i a h = all_i (λ C. any ρ C || not (mem a C)) m (λ C i. go C i (look (any ρ C)))
    where
      go : (C : List ℤ) → In C m → (any ρ C ≡ true) ⊎ (any ρ C ≡ false) → (any ρ C || not (mem a C)) ≡ true
      go C i (inl e) = or_l (not (mem a C)) e
      go C i (inr e) = or_r (any ρ C) (not_f (to_false (mem a C) (λ t. clash (any_i (mem a) (counted C i e) t) (not_t (any (mem a) n) h))))

  pub counted_wide : (p : List ℤ) (l : ℤ) → monotone p n ρ l ≡ true → monotone_wide p m ρ l ≡ true
  unfolding monotone monotone_wide one_sign
  counted_wide p l h = elim (or_e (unassigned_existential p ρ l && one_sign n l) (unassigned_universal p ρ l && one_sign n (neg_ℤ l)) h) [
    | inl k ↦ or_l (unassigned_universal p ρ l && absent m ρ l) (and_i (and_l (unassigned_existential p ρ l) (one_sign n l) k) (absent_i (neg_ℤ l) (lacks l (and_r (unassigned_existential p ρ l) (one_sign n l) k))))
    | inr k ↦ or_r (unassigned_existential p ρ l && absent m ρ (neg_ℤ l))
        (and_i (and_l (unassigned_universal p ρ l) (one_sign n (neg_ℤ l)) k) (absent_i l (rw negneg at (lacks (neg_ℤ l) (and_r (unassigned_universal p ρ l) (one_sign n (neg_ℤ l)) k)))))
  ]
    where
      lacks : (x : ℤ) → one_sign n x ≡ true → not (occurs n (neg_ℤ x)) ≡ true
      lacks x e = and_r (occurs n x) (not (occurs n (neg_ℤ x))) e

untrue_i : (ρ : Assignment) {C : List ℤ} {m : List (List ℤ)} → In C m → any ρ C ≡ false → In C (untrue_of ρ m)
unfolding untrue_of
untrue_i ρ {C} (here {y = D} e) h = let z : any ρ D ≡ false = rw e at h in rw z (here e)
untrue_i ρ {C} (there {y = D} {xs = m} i) h = go (any ρ D) (untrue_i ρ i h)
  where
    go : (b : Bool) → In C (untrue_of ρ m) → In C (cond b (untrue_of ρ m) (D ∷ untrue_of ρ m))
    go true j = j
    go false j = there j

-- over the clauses with no true literal
pub open_within : Within monotone_open
unfolding monotone_open
open_within = record { wide = λ p m ρ l. counted_wide m (untrue_of ρ m) ρ (λ C i e. untrue_i ρ i e) p l }

-- over all clauses
pub whole_within : Within monotone
whole_within = record { wide = λ p m ρ l. counted_wide m m ρ (λ C i e. i) p l }
