-- Row 8 along the list of clause ends: one more end, and none. Good ends rise from 0 to T, so each clause lies within the literals.
use Rattle.std.specs.Prelude.{◌≡◌, Bool, true, false, not, ◌||◌, List, eqb, ℤ, pos, nat_abs, length, drop}
use Prim.Native.Nat.{ℕ, zero, suc, ◌+◌, ◌≤◌, ◌<◌}
use Rattle.std.proofs.Math.Numerals.{add-one}
use Rattle.std.proofs.Common.{arith}
use Rattle.std.proofs.Math.Dec.{ltb}
use Rattle.std.proofs.Math.ListN.{get_or}
use borrow.Author.Tests.{ltb-false}
use Rattle.words.specs.Laws.Bools.{or_fl, or_fr}
use Rattle.words.specs.Laws.Lists.{next, ended}
use Rattle.words.specs.Words.{negative}
use Rattle.formula.specs.Block.{bad_ends}

-- an end that row 8 refuses, after an end at `from`
unfoldable pub bad_end : ℕ → ℕ → ℤ → Bool
bad_end total from e = negative e || ltb (nat_abs e) from || ltb total (nat_abs e)

-- ---- the ends from the i-th on
module _ (total from : ℕ) (es : List ℤ) (i : ℕ) where
  pub ends_bad : i < length es → bad_end total from (get_or es i (pos 0)) ≡ true → bad_ends total from (drop i es) ≡ true
  unfolding bad_ends bad_end
  ends_bad h e = rw (next es i (pos 0) h, e)

  pub ends_past : i < length es → bad_end total from (get_or es i (pos 0)) ≡ false → bad_ends total (nat_abs (get_or es i (pos 0))) (drop (i + 1) es) ≡ bad_ends total from (drop i es)
  unfolding bad_ends bad_end
  ends_past h e = rw (next es i (pos 0) h, e)

  pub ends_ended : length es ≤ i → bad_ends total from (drop i es) ≡ not (eqb from total)
  unfolding bad_ends bad_end
  ends_ended h = rw (ended es i h)

-- ---- good ends
-- the i-th end is good after one at `from`, and so are those after it
pub record GoodEnd (total from : ℕ) (es : List ℤ) (i : ℕ) : Type 0 where
  pub whole : negative (get_or es i (pos 0)) ≡ false
  pub rises : from ≤ nat_abs (get_or es i (pos 0))
  pub fits : nat_abs (get_or es i (pos 0)) ≤ total
  pub rest : bad_ends total (nat_abs (get_or es i (pos 0))) (drop (i + 1) es) ≡ false

module _ (total from : ℕ) (es : List ℤ) (i : ℕ) (good : bad_ends total from (drop i es) ≡ false) where
  pub good_end : i < length es → GoodEnd total from es i
  unfolding bad_ends
  good_end h =
      let e = get_or es i (pos 0) in
      let all = rw (next es i (pos 0) h) at good in
      let three = or_fl (negative e || ltb (nat_abs e) from || ltb total (nat_abs e)) (bad_ends total (nat_abs e) (drop (i + 1) es)) all in
      let two = or_fl (negative e || ltb (nat_abs e) from) (ltb total (nat_abs e)) three in
      record {
        whole = or_fl (negative e) (ltb (nat_abs e) from) two;
        rises = ltb-false (nat_abs e) from (or_fr (negative e) (ltb (nat_abs e) from) two);
        fits = ltb-false total (nat_abs e) (or_fr (negative e || ltb (nat_abs e) from) (ltb total (nat_abs e)) three);
        rest = or_fr (negative e || ltb (nat_abs e) from || ltb total (nat_abs e)) (bad_ends total (nat_abs e) (drop (i + 1) es)) all;
      }

-- where the c-th clause begins: at the end of the one before it
unfoldable pub clause_start : List ℤ → ℕ → ℕ
clause_start es zero = 0
clause_start es (suc c) = nat_abs (get_or es c (pos 0))

-- so a loop over clauses needs to know only where it stands
module _ (total : ℕ) (es : List ℤ) (good : bad_ends total 0 es ≡ false) where
  pub good_from : (c : ℕ) → c ≤ length es → bad_ends total (clause_start es c) (drop c es) ≡ false
  unfolding clause_start
  good_from zero h = good
  good_from (suc c) h = rw add-one at (good_end total (clause_start es c) es c (good_from c (omega arith)) h).rest

  pub good_at : (c : ℕ) → c < length es → GoodEnd total (clause_start es c) es c
  good_at c h = good_end total (clause_start es c) es c (good_from c (omega arith)) h
