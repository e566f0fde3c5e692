-- What the index says of a literal: the part of its place is the ascending list of the clauses that hold it, each once.
use Prim.Native.Nat.{ℕ, zero, suc, ◌+◌, ◌-◌, ◌≤◌, ◌<◌}
use Rattle.std.specs.Prelude.{◌≡◌, ◌⊎◌, true, false, cond, ◌||◌, ltb, ℤ, nat_abs, length, get_or}
use Rattle.std.proofs.Math.Path.{refl, sym}
use Rattle.std.proofs.Common.{◌∙◌, ap, inl, inr, arith, eq-eqb, ltb-false, ltb-true}
use mathlib.Core.List.{List, [], ◌∷◌}
use Rattle.std.proofs.Math.Dec.{eqb}
use Rattle.std.proofs.Math.ListN.{get_or-eq_default}
use Rattle.words.specs.Words.{eq_z, mem}
use Rattle.words.specs.Lists.{here, there}
use Rattle.words.specs.Laws.Bools.{look, or_fl, bool_eq, or_fr, eqb_eq}
use Rattle.words.specs.Laws.Words.{eq_z_refl, eq_z_eq}
use Rattle.formula.specs.Limits.{limits}
use Rattle.formula.specs.Block.{repeats}
use Rattle.formula.specs.Inner.Places.{literal_places, place_of, word_at}
use Rattle.formula.specs.Laws.Places.{word_place}
use Rattle.counted.specs.Inner.Index.{Index, Parts, at, entered, holders, listed, part_at, start_at, before}
use Rattle.counted.specs.Inner.State.{AllOnce, Once}
use Rattle.counted.specs.Inner.Walk.{added}
use Rattle.counted.proofs.Laws.Index.{before_next, before_none, within}
use Rattle.counted.proofs.Laws.Walk.{added_none, added_other, added_own}

-- ---- the part of a place
module _ (ls : List ℤ) (m : List (List ℤ)) (stops index : List ℕ) (x : Index ls m stops index) where
  start_is : (p : ℕ) → p ≤ literal_places → start_at stops p ≡ before p ls
  unfolding start_at
  start_is zero h = sym (before_none ls)
  start_is (suc p) h = x.stop p h ∙ sym (before_next p ls)

  pub part_is : (p : ℕ) → p < literal_places → part_at stops index p ≡ listed 0 m p
  part_is p h =
      let s = start_is p (omega arith) in
      let n : before p ls + at p ls - before p ls ≡ at p ls = omega arith in
      rw (s, x.stop p h, n) (x.held p)

  pub parts : Parts stops index
  parts = record {
    rises = λ p h. omega (arith, start_is p (omega arith), x.stop p h);
    fits = λ p h. omega (arith, x.stop p h, within p ls, x.room);
  }

-- where it begins, as code asks for it
pub start_none : (stops : List ℕ) (p : ℕ) → p ≡ 0 → 0 ≡ start_at stops p
unfolding start_at
start_none stops p e = rw e

pub start_back : (stops : List ℕ) (p : ℕ) → (p ≡ 0 → ⊥) → get_or stops (p - 1) 0 ≡ start_at stops p
unfolding start_at
start_back stops zero n = absurd (n refl)
start_back stops (suc p) n = let e : suc p - 1 ≡ p = omega arith in rw e

-- ---- the clauses that hold a literal
pub place_same : (x y : ℤ) → nat_abs x ≤ limits.variables → nat_abs y ≤ limits.variables → place_of x ≡ place_of y → x ≡ y
place_same x y h k e = sym (word_place x h) ∙ ap word_at e ∙ word_place y k

same_place : (x y : ℤ) → nat_abs x ≤ limits.variables → nat_abs y ≤ limits.variables → eqb (place_of x) (place_of y) ≡ eq_z y x
same_place x y h k = bool_eq _ _
    (λ e. rw (place_same x y h k (eqb_eq (place_of x) (place_of y) e)) (eq_z_refl y))
    (λ e. rw (eq_z_eq y x e) (eq-eqb (place_of x) (place_of x) refl))

module _ (l : ℤ) (h : nat_abs l ≤ limits.variables) where
  -- a clause stands there once if it holds the literal
  entered_holds : (n : ℕ) (C : List ℤ) (rest : List ℕ) → Once C → entered n (place_of l) C rest ≡ cond (mem l C) (n ∷ rest) rest
  unfolding entered mem repeats
  entered_holds n [] rest o = refl
  entered_holds n (w ∷ C) rest o = by (look (eq_z l w)) (entered_holds n C rest (record { once = or_fr (mem w C) (repeats C) o.once; placed = λ i. o.placed (there i); short = omega (arith, o.short) }))
    where
      same : eqb (place_of w) (place_of l) ≡ eq_z l w
      same = same_place w l (o.placed (here refl)) h

      by : (eq_z l w ≡ true) ⊎ (eq_z l w ≡ false) → entered n (place_of l) C rest ≡ cond (mem l C) (n ∷ rest) rest
          → cond (eqb (place_of w) (place_of l)) (n ∷ entered n (place_of l) C rest) (entered n (place_of l) C rest) ≡ cond (eq_z l w || mem l C) (n ∷ rest) rest
      by (inl t) ih =
          let e : mem l C ≡ false = rw (eq_z_eq l w t) (or_fl (mem w C) (repeats C) o.once) in
          let z : entered n (place_of l) C rest ≡ rest = rw e at ih in
          rw (same, t, z)
      by (inr t) ih = rw (same, t) ih

  pub listed_holders : (n : ℕ) (m : List (List ℤ)) → AllOnce m → listed n m (place_of l) ≡ holders n m l
  unfolding listed holders
  listed_holders n [] o = refl
  listed_holders n (C ∷ m) o = entered_holds n C (listed (suc n) m (place_of l)) (o C (here refl)) ∙ rw (listed_holders (suc n) m (λ D i. o D (there i)))

-- ---- how often a clause stands there: clause n + i is the i-th of those that begin at n, and those before n are not there
holders_none : (a c n : ℕ) (m : List (List ℤ)) (l : ℤ) → c < n → added a c (holders n m l) ≡ 0
unfolding holders
holders_none a c n [] l k = added_none a c
holders_none a c n (C ∷ m) l k = by (look (mem l C)) (holders_none a c (suc n) m l (omega arith))
  where
    by : (mem l C ≡ true) ⊎ (mem l C ≡ false) → added a c (holders (suc n) m l) ≡ 0 → added a c (cond (mem l C) (n ∷ holders (suc n) m l) (holders (suc n) m l)) ≡ 0
    by (inl t) ih = rw t (added_other a c n (holders (suc n) m l) (λ e. omega arith) ∙ ih)
    by (inr t) ih = rw t ih

holders_at : (a n i : ℕ) (m : List (List ℤ)) (l : ℤ) → added a (n + i) (holders n m l) ≡ cond (mem l (get_or m i [])) a 0
unfolding holders mem
holders_at a n i [] l = added_none a (n + i)
holders_at a n zero (C ∷ m) l = let z : n + 0 ≡ n = omega arith in rw z (by (look (mem l C)))
  where
    by : (mem l C ≡ true) ⊎ (mem l C ≡ false) → added a n (cond (mem l C) (n ∷ holders (suc n) m l) (holders (suc n) m l)) ≡ cond (mem l C) a 0
    by (inl t) = rw t (omega (arith, added_own a n (holders (suc n) m l), holders_none a n (suc n) m l (omega arith)))
    by (inr t) = rw t (holders_none a n (suc n) m l (omega arith))
holders_at a n (suc i) (C ∷ m) l = let z : n + suc i ≡ suc n + i = omega arith in rw z (by (look (mem l C)) (holders_at a (suc n) i m l))
  where
    by : (mem l C ≡ true) ⊎ (mem l C ≡ false) → added a (suc n + i) (holders (suc n) m l) ≡ cond (mem l (get_or m i [])) a 0 → added a (suc n + i) (cond (mem l C) (n ∷ holders (suc n) m l) (holders (suc n) m l)) ≡ cond (mem l (get_or m i [])) a 0
    by (inl t) ih = rw t (added_other a (suc n + i) n (holders (suc n) m l) (λ e. omega arith) ∙ ih)
    by (inr t) ih = rw t ih

pub holds : (l : ℤ) → nat_abs l ≤ limits.variables → (a c : ℕ) (m : List (List ℤ)) → AllOnce m → added a c (listed 0 m (place_of l)) ≡ cond (mem l (get_or m c [])) a 0
holds l h a c m o = let z : 0 + c ≡ c = omega arith in rw (listed_holders l h 0 m o) (rw z at (holders_at a 0 c m l))

-- so past the last clause there is none, and one that stands there is a clause
pub none_past : (m : List (List ℤ)) → AllOnce m → (l : ℤ) → nat_abs l ≤ limits.variables → (a c : ℕ) → length m ≤ c → added a c (listed 0 m (place_of l)) ≡ 0
unfolding mem
none_past m o l h a c k = holds l h a c m o ∙ rw (get_or-eq_default m [] k)

pub held_below : (m : List (List ℤ)) → AllOnce m → (l : ℤ) → nat_abs l ≤ limits.variables → (c : ℕ) → 0 < added 1 c (listed 0 m (place_of l)) → c < length m
held_below m o l h c k = by (look (ltb c (length m)))
  where
    by : (ltb c (length m) ≡ true) ⊎ (ltb c (length m) ≡ false) → c < length m
    by (inl t) = ltb-true c (length m) t
    by (inr t) = absurd (omega (arith, none_past m o l h 1 c (ltb-false c (length m) t)))
