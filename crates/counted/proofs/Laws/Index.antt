-- The words of the places lie one after the other. By counting.
use Rattle.std.specs.Prelude.{ℕ, suc, ◌+◌, ◌≤◌, ◌<◌, ◌≡◌, refl, ◌⊎◌, true, false, List, [], ◌∷◌, eqb, ltb, ℤ, pos, length, get_or, drop}
use Rattle.std.proofs.Common.{inl, inr, arith, eq-eqb, ltb-false, lt-ltb, ne_eqb, le-ltb, ltb-true}
use Rattle.std.proofs.Math.Decide.{ℕ_discrete}
use Rattle.words.specs.Laws.Bools.{look}
use Rattle.words.specs.Laws.Lists.{next, ended}
use Rattle.formula.specs.Inner.Places.{place_of}
use Rattle.counted.specs.Fresh.{bit, count_if}
use Rattle.counted.specs.Inner.Index.{at, before}
use Rattle.counted.proofs.Laws.Counts.{count_most, count_less, count_split}

pub before_none : (ls : List ℤ) → before 0 ls ≡ 0
unfolding before count_if
before_none [] = refl
before_none (w ∷ ls) = let e : ltb (place_of w) 0 ≡ false = le-ltb (place_of w) 0 (omega arith) in rw (e, before_none ls)

pub before_next : (p : ℕ) (ls : List ℤ) → before (suc p) ls ≡ before p ls + at p ls
unfolding before at
before_next p ls = count_split _ _ _ ls (λ w. by (place_of w) (look (ltb (place_of w) p)) (ℕ_discrete (place_of w) p))
  where
    by : (s : ℕ) → (ltb s p ≡ true) ⊎ (ltb s p ≡ false) → Dec (s ≡ p) → bit (ltb s (suc p)) ≡ bit (ltb s p) + bit (eqb s p)
    by s (inl t) (yes e) = absurd (omega (arith, ltb-true s p t))
    by s (inl t) (no k) = let l = ltb-true s p t in rw (t, ne_eqb s p k, lt-ltb s (suc p) (omega arith))
    by s (inr t) (yes e) = rw (t, eq-eqb s p e, lt-ltb s (suc p) (omega arith))
    by s (inr t) (no k) = let l = ltb-false s p t in rw (t, ne_eqb s p k, le-ltb s (suc p) (omega arith))

pub before_most : (p : ℕ) (ls : List ℤ) → before p ls ≤ length ls
unfolding before
before_most p ls = count_most _ ls

pub before_up : (p q : ℕ) (ls : List ℤ) → p ≤ q → before p ls ≤ before q ls
unfolding before
before_up p q ls h = count_less _ _ ls (λ w. by (place_of w) (look (ltb (place_of w) p)))
  where
    by : (s : ℕ) → (ltb s p ≡ true) ⊎ (ltb s p ≡ false) → bit (ltb s p) ≤ bit (ltb s q)
    by s (inl t) = let l = ltb-true s p t in rw (t, lt-ltb s q (omega arith)) (omega arith)
    by s (inr t) = rw t (omega arith)

-- the words of the places up to q lie before those of a later one
pub apart : (p q : ℕ) (ls : List ℤ) → p < q → before p ls + at p ls ≤ before q ls
apart p q ls h = omega (arith, before_next p ls, before_up (suc p) q ls h)

-- all words of p lie within the words
pub within : (p : ℕ) (ls : List ℤ) → before p ls + at p ls ≤ length ls
within p ls = omega (arith, before_next p ls, before_most (suc p) ls)

pub at_next : (p : ℕ) (ls : List ℤ) (j : ℕ) → j < length ls → at p (drop j ls) ≡ bit (eqb (place_of (get_or ls j (pos 0))) p) + at p (drop (j + 1) ls)
unfolding at count_if
at_next p ls j h = rw (next ls j (pos 0) h)

pub at_ended : (p : ℕ) (ls : List ℤ) (j : ℕ) → length ls ≤ j → at p (drop j ls) ≡ 0
unfolding at count_if
at_ended p ls j h = rw (ended ls j h)
