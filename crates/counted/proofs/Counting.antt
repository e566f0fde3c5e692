-- The words counted by their place: what is counted and what is left make up the whole count.
use Prim.Native.Nat.{ℕ, ◌+◌, ◌≤◌, ◌<◌}
use mathlib.Core.Path.{◌≡◌, sym, ◌∙◌, ap}
use mathlib.Core.Bool.{true, false}
use mathlib.Core.List.{List}
use native.Mathlib.Decide.{ℕ_discrete}
use native.Mathlib.Omega.{arith}
use lib.Dec.{eqb}
use lib.IntN.{ℤ, pos}
use lib.ListN.{length, get_or, drop, set, replicate, length-set, length-replicate}
use lib.Seq.{get_or-set_same, get_or-set_other}
use borrow.Author.Tests.{eq-eqb, ne_eqb}
use Rattle.words.specs.Laws.Lists.{blank}
use Rattle.formula.specs.Inner.Places.{literal_places, place_of}
use Rattle.formula.specs.Laws.Limits.{variables_are}
use Rattle.formula.specs.Laws.Places.{place_within}
use Rattle.clauses.specs.Inner.Clauses.{Placed}
use Rattle.counted.specs.Fresh.{bit}
use Rattle.counted.specs.Inner.Index.{at}
use Rattle.counted.proofs.Laws.Index.{at_ended, at_next, within}

pub record Counting (size : ℕ) (ws : List ℤ) (t : List ℕ) (j : ℕ) : Type 0 where
  pub most : j ≤ length ws
  pub long : length t ≡ size
  pub said : (p : ℕ) → get_or t p 0 + at p (drop j ws) ≡ at p ws

pub count_begin : (size : ℕ) (ws : List ℤ) → Counting size ws (replicate size 0) 0
count_begin size ws = record {
  most = omega arith;
  long = length-replicate {A = ℕ} size 0;
  said = λ p. omega (arith, blank {A = ℕ} 0 size p);
}

pub count_end : (size : ℕ) (ws : List ℤ) (t : List ℕ) (j : ℕ) → length ws ≤ j → Counting size ws t j → (p : ℕ) → get_or t p 0 ≡ at p ws
count_end size ws t j h k p = omega (arith, k.said p, at_ended p ws j h)

-- a word's place is one of the table's
pub placed : (ws : List ℤ) (j s : ℕ) → Placed ws → s ≡ place_of (get_or ws j (pos 0)) → s < literal_places
placed ws j s h is = omega (arith, variables_are, place_within (get_or ws j (pos 0)) (h j))

module _ (size : ℕ) (ws : List ℤ) (t : List ℕ) (j : ℕ) (k : Counting size ws t j) (h : j < length ws) (s : ℕ) (is : s ≡ place_of (get_or ws j (pos 0))) where
  pub count_small : get_or t s 0 < length ws
  count_small =
      let b : eqb (place_of (get_or ws j (pos 0))) s ≡ true = eq-eqb _ _ (sym is) in
      omega (arith, k.said s, at_next s ws j h, within s ws, ap bit b)

  pub count_turn : s < size → Counting size ws (set t s (get_or t s 0 + 1)) (j + 1)
  count_turn l = record {
    most = omega arith;
    long = length-set t s (get_or t s 0 + 1) ∙ k.long;
    said = λ p. by p (ℕ_discrete p s);
  }
    where
      by : (p : ℕ) → Dec (p ≡ s) → get_or (set t s (get_or t s 0 + 1)) p 0 + at p (drop (j + 1) ws) ≡ at p ws
      by p (yes q) =
          let b : eqb (place_of (get_or ws j (pos 0))) s ≡ true = eq-eqb _ _ (sym is) in
          rw (q, get_or-set_same t s (get_or t s 0 + 1) 0 (rw k.long l)) (omega (arith, k.said s, at_next s ws j h, ap bit b))
      by p (no n) =
          let b : eqb (place_of (get_or ws j (pos 0))) p ≡ false = ne_eqb _ _ (λ q. n (sym q ∙ sym is)) in
          rw (get_or-set_other t s p (get_or t s 0 + 1) 0 n) (omega (arith, k.said p, at_next p ws j h, ap bit b))
