-- The words entered one by one: what is done and what is left make up the whole, at each place. A store is at the end of its own part and in no other.
use Prim.Native.Nat.{ℕ, ◌+◌, ◌-◌, ◌≤◌, ◌<◌}
use mathlib.Core.Path.{◌≡◌, refl, sym, ◌∙◌, ap}
use mathlib.Core.Logic.{◌⊎◌, inl, inr}
use mathlib.Core.Bool.{Bool, true, false, cond}
use mathlib.Core.List.{List, [], ◌∷◌, ◌++◌, append-nil, append_assoc}
use native.Mathlib.Decide.{ℕ_discrete}
use native.Mathlib.Numerals.{add-one}
use native.Mathlib.Omega.{arith}
use lib.Dec.{eqb, ltb}
use lib.IntN.{ℤ}
use lib.ListN.{length, get_or, take, drop, set, length-set, length-append, length-drop}
use lib.Seq.{get_or-set_same, drop-set-lt, take-suc-set, get_or-set_other, drop-set-add, take-set-le}
use borrow.Author.Tests.{eq-eqb, ltb-false, ne_eqb, ltb-true}
use Rattle.words.specs.Laws.Bools.{look}
use Rattle.formula.specs.Inner.Places.{literal_places}
use Rattle.counted.specs.Fresh.{bit}
use Rattle.counted.specs.Inner.Index.{Index, at, listed, before}
use Rattle.counted.proofs.Laws.Index.{apart, within}

-- some words are entered, and `left` is what comes, at each place
pub record Entering (ls : List ℤ) (all : ℕ → List ℕ) (stops index : List ℕ) (left : ℕ → List ℕ) : Type 0 where
  pub room : length ls ≤ length index
  pub long : length stops ≡ literal_places
  pub done : ℕ → List ℕ
  pub whole : (p : ℕ) → done p ++ left p ≡ all p
  pub stop : (p : ℕ) → p < literal_places → get_or stops p 0 ≡ before p ls + length (done p)
  pub there : (p : ℕ) → take (length (done p)) (drop (before p ls) index) ≡ done p

-- nothing is entered
pub enter_none : (ls : List ℤ) (all : ℕ → List ℕ) (stops index : List ℕ) → length ls ≤ length index → length stops ≡ literal_places → ((p : ℕ) → p < literal_places → get_or stops p 0 ≡ before p ls) → Entering ls all stops index all
enter_none ls all stops index room long starts = record {
  room = room;
  long = long;
  done = λ p. [];
  whole = λ p. refl;
  stop = λ p h. omega (arith, starts p h);
  there = λ p. refl;
}

-- all is entered: each place has as many as there are words of it
module _ (ls : List ℤ) (m : List (List ℤ)) (sizes : (p : ℕ) → length (listed 0 m p) ≡ at p ls) (stops index : List ℕ) (left : ℕ → List ℕ) (e : Entering ls (listed 0 m) stops index left) where
  pub enter_all : ((p : ℕ) → left p ≡ []) → Index ls m stops index
  enter_all none = record {
    room = e.room;
    stop = λ p l. omega (arith, e.stop p l, full p);
    held = λ p. let z : at p ls ≡ length (e.done p) = full p in rw z (e.there p ∙ done_is p);
  }
    where
      done_is : (p : ℕ) → e.done p ≡ listed 0 m p
      done_is p = sym (append-nil (e.done p)) ∙ ap (λ x. e.done p ++ x) (sym (none p)) ∙ e.whole p

      full : (p : ℕ) → at p ls ≡ length (e.done p)
      full p = omega (arith, ap length (done_is p), sizes p)

-- one word more, of clause c: it has the place s
module _ (ls : List ℤ) (all : ℕ → List ℕ) (sizes : (p : ℕ) → length (all p) ≡ at p ls) (stops index : List ℕ) (left : ℕ → List ℕ) (e : Entering ls all stops index left)
    (s : ℕ) (k : s < literal_places) (c : ℕ) (left' : ℕ → List ℕ) (comes : (p : ℕ) → left p ≡ cond (eqb s p) (c ∷ left' p) (left' p)) where
  -- each place has room
  few : (p : ℕ) → length (e.done p) + length (left p) ≡ at p ls
  few p = omega (arith, length-append (e.done p) (left p), ap length (e.whole p), sizes p)

  own_room : length (e.done s) < at s ls
  own_room =
      let own : left s ≡ c ∷ left' s = comes s ∙ rw (eq-eqb s s refl) in
      omega (arith, few s, ap length own)

  pub enter_room : get_or stops s 0 < length index
  enter_room = omega (arith, e.stop s k, own_room, within s ls, e.room)

  pub enter_small : get_or stops s 0 < length ls
  enter_small = omega (arith, e.stop s k, own_room, within s ls)

  done' : ℕ → List ℕ
  done' p = e.done p ++ cond (eqb s p) (c ∷ []) []

  whole' : (p : ℕ) → done' p ++ left' p ≡ all p
  unfolding done'
  whole' p = append_assoc (e.done p) (cond (eqb s p) (c ∷ []) []) (left' p) ∙ ap (λ x. e.done p ++ x) (by (look (eqb s p))) ∙ e.whole p
    where
      by : (eqb s p ≡ true) ⊎ (eqb s p ≡ false) → cond (eqb s p) (c ∷ []) [] ++ left' p ≡ left p
      by (inl t) = rw (comes p, t)
      by (inr t) = rw (comes p, t)

  grown : (p : ℕ) → length (done' p) ≡ length (e.done p) + bit (eqb s p)
  unfolding done'
  grown p = length-append (e.done p) (cond (eqb s p) (c ∷ []) []) ∙ ap (λ n. length (e.done p) + n) (by (eqb s p))
    where
      by : (b : Bool) → length (cond b (c ∷ []) []) ≡ bit b
      by true = refl
      by false = refl

  -- the store is at the end of its own part, and in no other
  own : take (length (e.done s) + 1) (drop (before s ls) (set index (get_or stops s 0) c)) ≡ e.done s ++ c ∷ []
  own =
      let l : length (e.done s) < length (drop (before s ls) index) = simp length-drop (omega (arith, own_room, within s ls, e.room)) in
      rw (e.stop s k, drop-set-add (before s ls) index (length (e.done s)) c, add-one, take-suc-set (drop (before s ls) index) (length (e.done s)) c l, e.there s)

  other : (p : ℕ) → (s ≡ p → ⊥) → take (length (e.done p)) (drop (before p ls) (set index (get_or stops s 0) c)) ≡ e.done p
  other p n = by (look (ltb p s))
    where
      to : ℕ
      to = get_or stops s 0

      by : (ltb p s ≡ true) ⊎ (ltb p s ≡ false) → take (length (e.done p)) (drop (before p ls) (set index to c)) ≡ e.done p
      by (inl t) =
          let l = apart p s ls (ltb-true p s t) in
          let m : length (e.done p) ≤ to - before p ls = omega (arith, few p, e.stop s k) in
          let z : to ≡ before p ls + (to - before p ls) = omega (arith, e.stop s k) in
          rw (z, drop-set-add (before p ls) index (to - before p ls) c, take-set-le (length (e.done p)) (drop (before p ls) index) (to - before p ls) c m) (e.there p)
      by (inr t) =
          let l = ltb-false p s t in
          let m : to < before p ls = omega (arith, apart s p ls (omega arith), own_room, e.stop s k) in
          rw (drop-set-lt (before p ls) index to c m) (e.there p)

  there' : (p : ℕ) → take (length (done' p)) (drop (before p ls) (set index (get_or stops s 0) c)) ≡ done' p
  unfolding done'
  there' p = rw (grown p) (by (ℕ_discrete s p))
    where
      by : Dec (s ≡ p) → take (length (e.done p) + bit (eqb s p)) (drop (before p ls) (set index (get_or stops s 0) c)) ≡ done' p
      by (yes q) = rw (← q, eq-eqb s s refl) own
      by (no n) = let z : length (e.done p) + 0 ≡ length (e.done p) = omega arith in rw (ne_eqb s p n, append-nil (e.done p), z) (other p n)

  stop' : (p : ℕ) → p < literal_places → get_or (set stops s (get_or stops s 0 + 1)) p 0 ≡ before p ls + length (done' p)
  stop' p l = by (ℕ_discrete p s)
    where
      by : Dec (p ≡ s) → get_or (set stops s (get_or stops s 0 + 1)) p 0 ≡ before p ls + length (done' p)
      by (yes q) =
          let b : eqb s p ≡ true = eq-eqb s p (sym q) in
          rw (q, get_or-set_same stops s (get_or stops s 0 + 1) 0 (rw e.long k)) (omega (arith, e.stop s k, grown s, ap bit (eq-eqb s s refl)))
      by (no n) =
          let b : eqb s p ≡ false = ne_eqb s p (λ q. n (sym q)) in
          rw (get_or-set_other stops s p (get_or stops s 0 + 1) 0 n) (omega (arith, e.stop p l, grown p, ap bit b))

  pub enter : Entering ls all (set stops s (get_or stops s 0 + 1)) (set index (get_or stops s 0) c) left'
  enter = record {
    room = rw (length-set index (get_or stops s 0) c) e.room;
    long = length-set stops s (get_or stops s 0 + 1) ∙ e.long;
    done = done';
    whole = whole';
    stop = stop';
    there = there';
  }
