-- The table of a counted run beside a run's: the two have the same rows but for row 11, and a number after 11 says that all rows up to it have passed.
use Rattle.std.specs.Prelude.{ℕ, ◌+◌, ◌-◌, ◌≤◌, ◌<◌, ◌≡◌, ◌⊎◌, Bool, true, false, ◌||◌, cond, List, [], ◌∷◌, ◌++◌, ℤ}
use Rattle.std.proofs.Math.Path.{refl, sym}
use Rattle.std.proofs.Common.{◌∙◌, inl, inr, arith, lt-ltb, le-ltb}
use Rattle.std.proofs.Math.Decide.{ℕ_discrete}
use Rattle.words.specs.Laws.Bools.{clash, look, or_fl, or_fr}
use Rattle.words.specs.Lists.{In, here, there, all, any}
use Rattle.words.specs.Laws.Lists.{all_e, any_none}
use Rattle.words.specs.Rows.{Row, row, refusal_of}
use Rattle.words.specs.Laws.Rows.{given, stops, goes_on, first_part}
use Rattle.formula.specs.Limits.{Limits}
use Rattle.formula.specs.Block.{rows, refusal}
use Rattle.session.specs.declared.Revision.{Revision}
use Rattle.session.specs.declared.Session.{Session}
use Rattle.memory.specs.Memory.{Memory, places}
use Rattle.session.specs.Refusals.{last_revision, of_session, of_run, run_refusal}
use Rattle.memory.specs.Refusals.{short, of_buffers, open_rows, open_refusal}
use Rattle.session.specs.Rows.{open_numbers, open_gives}
use Rattle.session.specs.Inner.Guards.{session_refusal}
use Rattle.memory.proofs.Laws.Opened.{from_11, opened}
use Rattle.session.specs.Laws.Accepted.{from_12, run_from_15}
use Rattle.counted.specs.Lent.{Lent}
use Rattle.counted.specs.Refusals.{cramped, counted_refusal}
use Rattle.counted.specs.Inner.Guards.{early}

-- the numbers that a run's table gives up to row 11, and those after it
open_early : {n : ℕ} → In n (0 ∷ open_numbers) → (n ≡ 0 → ⊥) → early n ≡ true
unfolding all
open_early (here e) f = absurd (f e)
open_early (there i) f = all_e early open_numbers refl i

later_not : {n : ℕ} → In n (0 ∷ 12 ∷ 13 ∷ 14 ∷ []) → early n ≡ false
unfolding any
later_not i = any_none early (0 ∷ 12 ∷ 13 ∷ 14 ∷ []) refl i

-- ---- what a number of rows 1 to 14 says of rows 1 to 11
module _ (L : Limits) (s : Session) (b : List ℤ) (m : Memory) (seen : Revision) {r : ℕ} (e : r ≡ session_refusal L s b m seen) where
  -- a number up to 11 is that of the block's rows and the record's
  stopped : (open_refusal L b (places m) ≡ 0 → ⊥) → r ≡ open_refusal L b (places m)
  unfolding open_refusal session_refusal
  stopped f = e ∙ sym (stops (open_rows L b (places m)) (of_session s b m seen) refl f)

  module _ (late : early r ≡ false) where
    pub opens_up : open_refusal L b (places m) ≡ 0
    opens_up = go (ℕ_discrete (open_refusal L b (places m)) 0)
      where
        go : Dec (open_refusal L b (places m) ≡ 0) → open_refusal L b (places m) ≡ 0
        go (yes z) = z
        go (no f) = clash (rw (stopped f) (open_early (open_gives L b (places m)) f)) late

    pub block_passes : refusal L b ≡ 0
    block_passes = (opened L b (places m) opens_up).block

module _ (L : Limits) (s : Session) (b : List ℤ) (w : Lent) (seen : Revision) (budget : ℕ) where
  abbrev m : Memory
  m = w.memory

  abbrev lacking : Bool
  lacking = cramped b w.trues w.opens w.index

  -- the rows from 11 on
  abbrev behind : List Row
  behind = of_session s b m seen ++ of_run s b m seen budget

  from_row_11 : refusal L b ≡ 0 → counted_refusal L s b w seen budget ≡ cond (short b (places m) || lacking) 11 (refusal_of behind)
  unfolding refusal counted_refusal
  from_row_11 e = goes_on (rows L b) (row 11 (short b (places m) || lacking) ∷ behind) refl e

  -- ---- an accepted counted run would be accepted as a run
  pub record Passed : Type 0 where
    pub session : session_refusal L s b m seen ≡ 0
    pub run : run_refusal L s b m seen budget ≡ 0
    pub roomy : lacking ≡ false

  pub passes : counted_refusal L s b w seen budget ≡ 0 → Passed
  unfolding refusal counted_refusal
  passes e = go (look (short b (places m) || lacking)) (sym (from_row_11 block) ∙ e)
    where
      block : refusal L b ≡ 0
      block = first_part (rows L b) (row 11 (short b (places m) || lacking) ∷ behind) e

      go : ((short b (places m) || lacking) ≡ true) ⊎ ((short b (places m) || lacking) ≡ false) → cond (short b (places m) || lacking) 11 (refusal_of behind) ≡ 0 → Passed
      go (inl t) z = let y : ◌≡◌ {A = ℕ} 11 0 = rw t at z in absurd (omega arith)
      go (inr t) z =
          let y : refusal_of behind ≡ 0 = rw t at z in
          let opening : open_refusal L b (places m) ≡ 0 = from_11 L b (places m) block ∙ rw (or_fl (short b (places m)) lacking t) in
          let here : session_refusal L s b m seen ≡ 0 = from_12 L s b m seen opening ∙ first_part (of_session s b m seen) (of_run s b m seen budget) y in
          let last : refusal_of (of_run s b m seen budget) ≡ 0 = sym (goes_on (of_session s b m seen) (of_run s b m seen budget) refl (first_part (of_session s b m seen) (of_run s b m seen budget) y)) ∙ y in
          record { session = here; run = run_from_15 L s b m seen budget here ∙ last; roomy = or_fr (short b (places m)) lacking t }

  -- ---- each way out of the guard
  module _ {r : ℕ} (e : r ≡ session_refusal L s b m seen) where
    open_first : (open_refusal L b (places m) ≡ 0 → ⊥) → open_refusal L b (places m) ≡ counted_refusal L s b w seen budget
    unfolding open_refusal refusal counted_refusal
    open_first f = go (ℕ_discrete (refusal L b) 0)
      where
        go : Dec (refusal L b ≡ 0) → open_refusal L b (places m) ≡ counted_refusal L s b w seen budget
        go (no g) = sym (stops (rows L b) (of_buffers b (places m)) refl g) ∙ stops (rows L b) (row 11 (short b (places m) || lacking) ∷ behind) refl g
        go (yes z) = by (look (short b (places m)))
          where
            by : (short b (places m) ≡ true) ⊎ (short b (places m) ≡ false) → open_refusal L b (places m) ≡ counted_refusal L s b w seen budget
            by (inl t) = rw (from_11 L b (places m) z, from_row_11 z, t)
            by (inr t) = absurd (f (from_11 L b (places m) z ∙ rw t))

    pub refused_early : early r ≡ true → r ≡ counted_refusal L s b w seen budget
    refused_early t = go (ℕ_discrete (open_refusal L b (places m)) 0)
      where
        go : Dec (open_refusal L b (places m) ≡ 0) → r ≡ counted_refusal L s b w seen budget
        go (no f) = stopped L s b m seen e f ∙ open_first f
        go (yes z) = clash t (rw (e, from_12 L s b m seen z) (later_not (given (of_session s b m seen))))

    module _ (late : early r ≡ false) where
      wide : short b (places m) ≡ false
      wide = go (look (short b (places m)))
        where
          go : (short b (places m) ≡ true) ⊎ (short b (places m) ≡ false) → short b (places m) ≡ false
          go (inl t) = let z : ◌≡◌ {A = ℕ} 11 0 = sym (from_11 L b (places m) (block_passes L s b m seen e late) ∙ rw t) ∙ (opens_up L s b m seen e late) in absurd (omega arith)
          go (inr t) = t

      from_cramped : counted_refusal L s b w seen budget ≡ cond lacking 11 (refusal_of behind)
      from_cramped = rw (from_row_11 (block_passes L s b m seen e late), wide)

      module _ {k : Bool} (is : k ≡ lacking) where
        pub refused_cramped : k ≡ true → 11 ≡ counted_refusal L s b w seen budget
        refused_cramped t = rw (from_cramped, ← is, t)

        module _ (roomy : k ≡ false) where
          from_behind : counted_refusal L s b w seen budget ≡ refusal_of behind
          from_behind = rw (from_cramped, ← is, roomy)

          mine : r ≡ refusal_of (of_session s b m seen)
          mine = e ∙ from_12 L s b m seen (opens_up L s b m seen e late)

          pub refused_late : (r ≡ 0 → ⊥) → r ≡ counted_refusal L s b w seen budget
          refused_late f = stops (of_session s b m seen) (of_run s b m seen budget) mine f ∙ sym from_behind

          module _ (z : r ≡ 0) where
            from_run : counted_refusal L s b w seen budget ≡ refusal_of (of_run s b m seen budget)
            from_run = from_behind ∙ goes_on (of_session s b m seen) (of_run s b m seen budget) refl (sym mine ∙ z)

            pub refused_last : last_revision - s.revision.0 < budget → 15 ≡ counted_refusal L s b w seen budget
            refused_last h = rw (from_run, lt-ltb last_revision (s.revision.0 + budget) (omega arith))

            pub refused_not : s.revision.0 ≤ last_revision → budget ≤ last_revision - s.revision.0 → 0 ≡ counted_refusal L s b w seen budget
            refused_not low h = rw (from_run, le-ltb last_revision (s.revision.0 + budget) (omega arith))
