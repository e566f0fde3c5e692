-- The table of occurring literals: a word marks its own place and no other, since a place has one word; so a clause marks its literals, and clause
-- after clause those of all.
use mathlib.Core.Path.{◌≡◌, refl, sym, ◌∙◌, ap}
use mathlib.Core.Bool.{Bool, true, false, cond, ◌||◌}
use mathlib.Core.List.{List, [], ◌∷◌, ◌++◌}
use Prim.Native.Nat.{ℕ, ◌+◌, ◌≤◌, ◌<◌}
use native.Mathlib.Omega.{arith}
use lib.IntN.{ℤ, pos, nat_abs}
use lib.ListN.{length, get_or, take, set, replicate, length-replicate}
use Rattle.words.specs.Lists.{In, here, there, any}
use Rattle.words.specs.Words.{mem}
use Rattle.words.specs.Laws.Words.{eq_z_ne, mem_here, mem_other}
use Rattle.formula.specs.Limits.{limits}
use Rattle.formula.specs.Laws.Limits.{variables_are}
use Rattle.formula.specs.Inner.Places.{literal_places, place_of, word_at}
use Rattle.formula.specs.Laws.Places.{place_word, word_place, place_within}
use Rattle.theory.specs.Record.{Assignment}
use Rattle.theory.specs.Tests.{occurs, untrue_of}
use Rattle.rules.specs.Inner.Occurrences.{Occurring, Marked, Counted, marked_by}
use Rattle.clauses.specs.Inner.Clauses.{Placed}
use Rattle.record.proofs.Laws.Filled.{Filled, turn, end}
use Rattle.words.specs.Laws.Lists.{blank}

-- ---- one clause: what its words say of a place, over what the table t₀ said before
abbrev pub marked : List ℕ → List ℤ → ℕ → ℕ
marked t₀ xs at = cond (mem (word_at at) xs) 1 (get_or t₀ at 0)

marked_new : (t₀ : List ℕ) (xs : List ℤ) (w : ℤ) → nat_abs w ≤ limits.variables → 1 ≡ marked t₀ (xs ++ w ∷ []) (place_of w)
marked_new t₀ xs w h = rw (word_place w h, mem_here xs w)

marked_other : (t₀ : List ℕ) (xs : List ℤ) (w : ℤ) (at : ℕ) → (at ≡ place_of w → ⊥) → marked t₀ (xs ++ w ∷ []) at ≡ marked t₀ xs at
marked_other t₀ xs w at k = rw (mem_other (word_at at) xs w (eq_z_ne (λ e. k (sym (place_word at) ∙ ap place_of e))))

module _ (t₀ : List ℕ) (C : List ℤ) where
  pub mark_begin : length t₀ ≡ literal_places → Filled (marked t₀) literal_places C t₀ 0
  unfolding mem
  mark_begin long = record { at = omega arith; long = long; said = λ at. refl }

  pub mark_end : (t : List ℕ) (i : ℕ) → Filled (marked t₀) literal_places C t i → length C ≤ i → Marked C t₀ t
  mark_end t i f h = record { long = f.long; said = end (marked t₀) literal_places C t i f h }

  module _ (placed : Placed C) (i : ℕ) (h : i < length C) (s : ℕ) (is : s ≡ place_of (get_or C i (pos 0))) where
    pub mark_placed : s < literal_places
    mark_placed = omega (arith, variables_are, place_within (get_or C i (pos 0)) (placed i))

    pub mark_next : (t : List ℕ) → Filled (marked t₀) literal_places C t i → Filled (marked t₀) literal_places C (set t s 1) (i + 1)
    mark_next t f =
        turn (marked t₀) literal_places C t i f h s 1 mark_placed
        (rw is (marked_new t₀ (take i C) (get_or C i (pos 0)) (placed i)))
        (λ at k. marked_other t₀ (take i C) (get_or C i (pos 0)) at (λ e. k (e ∙ sym is)))

-- ---- a clause that counts, or is passed over
module _ (ρ : Assignment) (C : List ℤ) (t : List ℕ) where
  pub counts : any ρ C ≡ false → (t' : List ℕ) → Marked C t t' → Counted ρ C t t'
  unfolding untrue_of occurs any
  counts e t' k = record { long = k.long; said = λ m at. rw (e, k.said at) (go (mem (word_at at) C) (any (mem (word_at at)) (untrue_of ρ m)) (get_or t at 0)) }
    where
      go : (a b : Bool) (n : ℕ) → cond b 1 (cond a 1 n) ≡ cond (a || b) 1 n
      go true true n = refl
      go true false n = refl
      go false b n = refl

  pub passes : any ρ C ≡ true → length t ≡ literal_places → Counted ρ C t t
  unfolding untrue_of
  passes e long = record { long = long; said = λ m at. rw e }

-- ---- clause after clause: to mark the clauses left is to mark all
module _ (ρ : Assignment) (all : List (List ℤ)) where
  pub record Counting (t : List ℕ) (m : List (List ℤ)) : Type 0 where
    pub long : length t ≡ literal_places
    pub placed : (C : List ℤ) → In C m → Placed C
    pub said : (at : ℕ) → marked_by ρ t m at ≡ cond (occurs (untrue_of ρ all) (word_at at)) 1 0

  pub count_begin : ((C : List ℤ) → In C all → Placed C) → Counting (replicate literal_places 0) all
  count_begin p = record { long = length-replicate {A = ℕ} literal_places 0; placed = p; said = λ at. ap (λ n. cond (occurs (untrue_of ρ all) (word_at at)) 1 n) (blank {A = ℕ} 0 literal_places at) }

  module _ (t : List ℕ) (m : List (List ℤ)) (k : Counting t m) where
    module _ (C : List ℤ) (m' : List (List ℤ)) (e : m ≡ C ∷ m') where
      pub count_placed : Placed C
      count_placed = k.placed C (rw e (here refl))

      pub count_next : (t' : List ℕ) → Counted ρ C t t' → Counting t' m'
      count_next t' n = record {
        long = n.long;
        placed = λ D i. k.placed D (rw e (there i));
        said = λ at. n.said m' at ∙ rw e at (k.said at);
      }

    pub count_end : m ≡ [] → Occurring (untrue_of ρ all) t
    unfolding untrue_of occurs any
    count_end e at = rw e at (k.said at)
