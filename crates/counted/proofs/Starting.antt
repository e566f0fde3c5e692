-- The counts summed up: below p each place has how many words come before it, and from p on still its count.
use Prim.Native.Nat.{ℕ, suc, ◌+◌, ◌≤◌, ◌<◌}
use mathlib.Core.Path.{◌≡◌, sym, ◌∙◌}
use mathlib.Core.List.{List}
use native.Mathlib.Decide.{ℕ_discrete}
use native.Mathlib.Numerals.{add-one}
use native.Mathlib.Omega.{arith}
use lib.IntN.{ℤ}
use lib.ListN.{length, get_or, set, length-set}
use lib.Seq.{get_or-set_same, get_or-set_other}
use Rattle.formula.specs.Inner.Places.{literal_places}
use Rattle.counted.specs.Inner.Index.{Table, at, before}
use Rattle.counted.proofs.Laws.Index.{before_next, before_none, within}

pub record Starting (ws : List ℤ) (t : List ℕ) (sum p : ℕ) : Type 0 where
  pub most : p ≤ literal_places
  pub long : length t ≡ literal_places
  pub sums : sum ≡ before p ws
  pub starts : (q : ℕ) → q < p → get_or t q 0 ≡ before q ws
  pub counts : (q : ℕ) → p ≤ q → q < literal_places → get_or t q 0 ≡ at q ws

pub start_begin : (ws : List ℤ) (t : List ℕ) → Table (λ p. at p ws) t → Starting ws t 0 0
start_begin ws t h = record {
  most = omega arith;
  long = h.long;
  sums = sym (before_none ws);
  starts = λ q l. absurd (omega arith);
  counts = λ q l k. h.said q k;
}

module _ (ws : List ℤ) (t : List ℕ) (sum p : ℕ) (s : Starting ws t sum p) (h : p < literal_places) where
  next_sum : sum + get_or t p 0 ≡ before (suc p) ws
  next_sum = omega (arith, before_next p ws, s.sums, s.counts p (omega arith) h)

  pub start_small : sum + get_or t p 0 ≤ length ws
  start_small = omega (arith, next_sum, before_next p ws, within p ws)

  pub start_turn : Starting ws (set t p sum) (sum + get_or t p 0) (p + 1)
  start_turn = record {
    most = omega arith;
    long = length-set t p sum ∙ s.long;
    sums = rw add-one next_sum;
    starts = λ q l. by q (ℕ_discrete q p) (omega arith);
    counts = λ q l k. get_or-set_other t p q sum 0 (λ e. omega arith) ∙ s.counts q (omega arith) k;
  }
    where
      by : (q : ℕ) → Dec (q ≡ p) → q ≤ p → get_or (set t p sum) q 0 ≡ before q ws
      by q (yes e) l = rw (e, get_or-set_same t p sum 0 (omega (arith, s.long))) s.sums
      by q (no n) l = get_or-set_other t p q sum 0 n ∙ s.starts q (omega arith)
