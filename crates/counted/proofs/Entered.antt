-- The walk over the clauses that enters their words: what comes is what the clauses left list.
use Rattle.std.specs.Prelude.{ℕ, suc, ◌+◌, ◌-◌, ◌≤◌, ◌<◌, ◌≡◌, refl, ◌⊎◌, true, false, cond, List, [], ◌∷◌, eqb, ℤ, pos, nat_abs, length, get_or, take, drop, set}
use Rattle.std.proofs.Common.{◌∙◌, sym, ap, inl, inr, arith, add-one, length-set, drop-set-lt, eqb-true}
use Rattle.std.proofs.lemmas.Bool.{not-false}
use Rattle.std.proofs.lemmas.List.{take-append-drop, drop-drop}
use Rattle.words.specs.Laws.Bools.{look}
use Rattle.words.specs.Laws.Lists.{next, ended}
use Rattle.formula.specs.Formula.{clauses_from}
use Rattle.formula.specs.Block.{bad_ends}
use Rattle.formula.specs.Inner.Places.{literal_places, place_of}
use Rattle.formula.specs.Laws.Ends.{good_end}
use Rattle.counted.specs.Fresh.{bit, count_if}
use Rattle.counted.specs.Inner.Index.{Indexed, Table, at, entered, listed, before}
use Rattle.counted.proofs.Laws.Counts.{count_append}
use Rattle.counted.proofs.Laws.Index.{at_ended}
use Rattle.counted.proofs.Entering.{Entering, enter, enter_all, enter_none, enter_room, enter_small}

-- the index keeps its length, and its places past the words
pub record Kept (ls : List ℤ) (index₀ index : List ℕ) : Type 0 where
  pub long : length index ≡ length index₀
  pub rest : drop (length ls) index ≡ drop (length ls) index₀

module _ (ls : List ℤ) (m : List (List ℤ)) where
  -- before clause c
  pub record Outer (index₀ stops index : List ℕ) (c : ℕ) : Type 0 where
    pub kept : Kept ls index₀ index
    pub entering : Entering ls (listed 0 m) stops index (listed c (drop c m))

  -- before word k of clause c, which is C
  pub record Inner (index₀ stops index : List ℕ) (c : ℕ) (C : List ℤ) (k : ℕ) : Type 0 where
    pub kept : Kept ls index₀ index
    pub entering : Entering ls (listed 0 m) stops index (listed c (drop k C ∷ drop (c + 1) m))

  pub outer_begin : (stops index : List ℕ) → length ls ≤ length index → Table (λ p. before p ls) stops → Outer index stops index 0
  outer_begin stops index room t = record {
    kept = record { long = refl; rest = refl };
    entering = enter_none ls _ stops index room t.long t.said;
  }

  -- a clause begins, and ends
  pub inner_begin : (index₀ stops index : List ℕ) (c : ℕ) (C : List ℤ) → c < length m → C ≡ get_or m c [] → Outer index₀ stops index c → Inner index₀ stops index c C 0
  inner_begin index₀ stops index c C h is o = record { kept = o.kept; entering = rw (is, ← next m c [] h) o.entering }

  pub inner_end : (index₀ stops index : List ℕ) (c : ℕ) (C : List ℤ) (k : ℕ) → length C ≤ k → Inner index₀ stops index c C k → Outer index₀ stops index (c + 1)
  unfolding listed entered
  inner_end index₀ stops index c C k h i = record { kept = i.kept; entering = rw add-one (rw (ended C k h, add-one) at i.entering) }

  module _ (sizes : (p : ℕ) → length (listed 0 m p) ≡ at p ls) where
    pub outer_end : (index₀ stops index : List ℕ) (c : ℕ) → length m ≤ c → Outer index₀ stops index c → Indexed ls m stops index₀ index
    unfolding listed
    outer_end index₀ stops index c h o = record {
      indexed = enter_all ls m sizes stops index _ o.entering (λ p. rw (ended m c h));
      rest = o.kept.rest;
    }

    -- one word more
    module _ (index₀ stops index : List ℕ) (c : ℕ) (C : List ℤ) (k : ℕ) (i : Inner index₀ stops index c C k) (h : k < length C) (s : ℕ) (is : s ≡ place_of (get_or C k (pos 0))) (l : s < literal_places) where
      comes : (p : ℕ) → listed c (drop k C ∷ drop (c + 1) m) p ≡ cond (eqb s p) (c ∷ listed c (drop (k + 1) C ∷ drop (c + 1) m) p) (listed c (drop (k + 1) C ∷ drop (c + 1) m) p)
      unfolding listed entered
      comes p = rw (next C k (pos 0) h, is)

      pub word_room : get_or stops s 0 < length index
      word_room = enter_room ls _ sizes stops index _ i.entering s l c _ comes

      pub word_small : get_or stops s 0 < length ls
      word_small = enter_small ls _ sizes stops index _ i.entering s l c _ comes

      pub inner_turn : Inner index₀ (set stops s (get_or stops s 0 + 1)) (set index (get_or stops s 0) c) c C (k + 1)
      inner_turn = record {
        kept = record {
          long = length-set index (get_or stops s 0) c ∙ i.kept.long;
          rest = drop-set-lt (length ls) index (get_or stops s 0) c word_small ∙ i.kept.rest;
        };
        entering = enter ls _ sizes stops index _ i.entering s l c _ comes;
      }

-- ---- as many are listed at a place as there are words of it
entered_size : (c p : ℕ) (C : List ℤ) (rest : List ℕ) → length (entered c p C rest) ≡ at p C + length rest
unfolding entered at count_if
entered_size c p [] rest = omega arith
entered_size c p (w ∷ C) rest = by (look (eqb (place_of w) p)) (entered_size c p C rest)
  where
    by : (eqb (place_of w) p ≡ true) ⊎ (eqb (place_of w) p ≡ false) → length (entered c p C rest) ≡ count_if (λ w. eqb (place_of w) p) C + length rest
        → length (cond (eqb (place_of w) p) (c ∷ entered c p C rest) (entered c p C rest)) ≡ bit (eqb (place_of w) p) + count_if (λ w. eqb (place_of w) p) C + length rest
    by (inl t) e = rw t (omega (arith, e))
    by (inr t) e = rw t (omega (arith, e))

at_parts : (p k : ℕ) (ls : List ℤ) → at p (take k ls) + at p (drop k ls) ≡ at p ls
unfolding at
at_parts p k ls = sym (count_append _ (take k ls) (drop k ls)) ∙ ap (count_if (λ w. eqb (place_of w) p)) (take-append-drop k ls)

listed_from : (ls : List ℤ) (p c from : ℕ) (es : List ℤ) → bad_ends (length ls) from es ≡ false → length (listed c (clauses_from ls from es) p) ≡ at p (drop from ls)
unfolding clauses_from listed bad_ends
listed_from ls p c from [] good =
    let e = eqb-true from (length ls) (not-false (eqb from (length ls)) good) in
    sym (at_ended p ls from (omega arith))
listed_from ls p c from (e ∷ es) good =
    let g = good_end (length ls) from (e ∷ es) 0 good (omega arith) in
    let parts = at_parts p (nat_abs e - from) (drop from ls) in
    let after : drop (nat_abs e - from) (drop from ls) ≡ drop (nat_abs e) ls = let z : from + (nat_abs e - from) ≡ nat_abs e = omega (arith, g.rises) in drop-drop (nat_abs e - from) from ls ∙ ap (λ n. drop n ls) z in
    omega (arith, entered_size c p (take (nat_abs e - from) (drop from ls)) (listed (suc c) (clauses_from ls (nat_abs e) es) p), listed_from ls p (suc c) (nat_abs e) es g.rest, parts, ap (at p) after)

pub listed_size : (ls : List ℤ) (es : List ℤ) → bad_ends (length ls) 0 es ≡ false → (p : ℕ) → length (listed 0 (clauses_from ls 0 es) p) ≡ at p ls
listed_size ls es good p = listed_from ls p 0 0 es good
