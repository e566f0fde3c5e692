-- Which row turns a page away, one law for each way out of the guard: the rows passed so far do not hold, the next one does.
use Prim.Native.Nat.{ℕ, ◌^◌, ◌≤◌, ◌<◌}
use mathlib.Core.Path.{◌≡◌, refl, sym, ◌∙◌, ap}
use mathlib.Core.Bool.{Bool, true, false}
use mathlib.Core.List.{List, []}
use lib.IntN.{ℤ}
use lib.ListN.{length}
use borrow.Author.Tests.{lt-ltb, le-ltb}
use Rattle.std.specs.Prelude.{Result, Ok, Err}
use Rattle.words.specs.declared.Refusal.{Refusal}
use Rattle.words.specs.Outcomes.{refused}
use Rattle.words.specs.Rows.{Row, refusal_of}
use Rattle.words.specs.Words.{negative}
use Rattle.formula.specs.Check.{checked_of}
use Rattle.formula.specs.Formula.{word, formula_of, first_group, prefix_of}
use Rattle.formula.specs.Laws.Check.{checked_stops, checked_goes_on}
use Rattle.record.specs.Inner.Ready.{formula}
use Rattle.memory.specs.Memory.{record_places}
use Rattle.memory.specs.Refusals.{open_rows, open_refusal}
use Rattle.listing.proofs.Laws.Values.{first_word}
use Rattle.listing.specs.Page.{of_page, page_refusal, PageMemory}
use Rattle.formula.specs.Limits.{limits}

-- ---- rows 18 to 21
abbrev rows_of : List ℤ → ℕ → List ℕ → List Row
rows_of p start out = of_page limits (formula p [] []) start out

module _ (p : List ℤ) (start : ℕ) (out : List ℕ) {u : Bool} (is : u ≡ negative (word p 0)) where
  pub openings_universal : u ≡ true → refused 18 ≡ checked_of (refusal_of (rows_of p start out))
  unfolding checked_of
  openings_universal x = rw (first_word p, ← is, x)

  module _ (x : u ≡ false) {k : ℕ} (e : k ≡ first_group p) where
    pub openings_wide : limits.group < k → refused 19 ≡ checked_of (refusal_of (rows_of p start out))
    unfolding checked_of
    openings_wide h = rw (first_word p, ← is, x, ← e, lt-ltb limits.group k h)

    module _ (h : k ≤ limits.group) {m : ℕ} (t : m ≡ 2 ^ k) where
      pub openings_over : m < start → refused 20 ≡ checked_of (refusal_of (rows_of p start out))
      unfolding checked_of
      openings_over l = rw (first_word p, ← is, x, ← e, le-ltb limits.group k h, ← t, lt-ltb m start l)

      module _ (l : start ≤ m) where
        pub openings_short : length out < 2 → refused 21 ≡ checked_of (refusal_of (rows_of p start out))
        unfolding checked_of
        openings_short r = rw (first_word p, ← is, x, ← e, le-ltb limits.group k h, ← t, le-ltb m start l, lt-ltb (length out) 2 r)

        pub openings_pass : 2 ≤ length out → Ok tt ≡ checked_of (refusal_of (rows_of p start out))
        unfolding checked_of
        openings_pass r = rw (first_word p, ← is, x, ← e, le-ltb limits.group k h, ← t, le-ltb m start l, le-ltb (length out) 2 r)

-- ---- the block's rows and row 11, and then these
module _ (b : List ℤ) (m : PageMemory) (start : ℕ) {n : ℕ} (have : n ≡ record_places m.work) where
  pub page_buffers : (e : Refusal) → Err e ≡ checked_of (open_refusal limits b n) → Err e ≡ checked_of (page_refusal limits b m start)
  unfolding page_refusal open_refusal
  page_buffers e is = checked_stops (open_rows limits b (record_places m.work)) (of_page limits (formula_of b) start m.output) e (rw have at is)

  pub page_openings : (u : Unit {0}) → Ok u ≡ checked_of (open_refusal limits b n) → {p : List ℤ} → p ≡ prefix_of b
      → {r : Result (Unit {0}) Refusal} → r ≡ checked_of (refusal_of (rows_of p start m.output)) → r ≡ checked_of (page_refusal limits b m start)
  unfolding page_refusal open_refusal formula_of
  page_openings u z is p =
      p ∙ rw is (ap checked_of (sym (checked_goes_on (open_rows limits b (record_places m.work)) (of_page limits (formula_of b) start m.output) u refl (rw have at z))))
