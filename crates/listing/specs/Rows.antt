-- [calls.page] Which number a page is refused with, each exactly when its row applies; and what an accepted page has shown.
use Rattle.std.specs.Prelude.{ℕ, ◌^◌, ◌≤◌, ◌≡◌, false, List, [], ◌∷◌, ◌++◌, ℤ, length}
use Rattle.std.proofs.Math.Path.{refl}
use Rattle.std.proofs.Common.{◌∙◌}
use borrow.Author.Tests.{ltb-false, le-ltb}
use Rattle.words.specs.Lists.{In}
use Rattle.words.specs.Rows.{Numbered}
use Rattle.words.specs.Laws.Rows.{numbered, given, goes_on, first_part, passed}
use Rattle.formula.specs.Limits.{Limits}
use Rattle.formula.specs.Formula.{formula_of, prefix_of, first_group}
use Rattle.formula.specs.Block.{refusal}
use Rattle.memory.specs.Refusals.{open_rows, open_refusal}
use Rattle.session.specs.Rows.{open_numbers}
use Rattle.memory.specs.Memory.{record_places}
use Rattle.memory.proofs.Laws.Opened.{opened, open_passes, record_room, room_record}
use Rattle.listing.specs.Opening.{openings}
use Rattle.listing.specs.Page.{first_universal, of_page, page_rows, page_refusal, PageMemory}
use Rattle.record.specs.Inner.Ready.{Binds, Room}
use Rattle.record.proofs.Laws.Accepted.{prefix_length, accepted_binds}

module _ (L : Limits) (b : List ℤ) (m : PageMemory) (start : ℕ) where
  pub page_numbered : Numbered (page_rows L b m start) (page_refusal L b m start)
  unfolding page_refusal
  page_numbered = numbered (page_rows L b m start) refl

  pub page_gives : In (page_refusal L b m start) (0 ∷ open_numbers ++ 18 ∷ 19 ∷ 20 ∷ 21 ∷ [])
  unfolding page_refusal
  page_gives = given (page_rows L b m start)

  -- ---- what an accepted page has shown
  pub record PageGuarded : Type 0 where
    pub block : refusal L b ≡ 0
    pub lent : Room (length (formula_of b).prefix) m.work
    pub exists : first_universal (formula_of b) ≡ false
    pub narrow : first_group (prefix_of b) ≤ L.group
    pub inside : start ≤ openings (formula_of b)
    pub room : 2 ≤ length m.output

  pub page_guarded : page_refusal L b m start ≡ 0 → PageGuarded
  unfolding page_refusal open_refusal formula_of
  page_guarded e =
      let n = record_places m.work in
      let o = record_room m.work (opened L b n (first_part (open_rows L b n) (of_page L (formula_of b) start m.output) e)) in
      let r = passed (page_rows L b m start) refl e in
      record {
        block = o.block;
        lent = rw (prefix_length L b o.block) o.room;
        exists = r 18;
        narrow = ltb-false L.group (first_group (prefix_of b)) (r 19);
        inside = ltb-false (2 ^ first_group (prefix_of b)) start (r 20);
        room = ltb-false (length m.output) 2 (r 21);
      }

  -- and the other way round
  pub page_passes : PageGuarded → page_refusal L b m start ≡ 0
  unfolding page_refusal open_refusal formula_of
  page_passes g =
      let n = record_places m.work in
      let o = open_passes L b n (room_record m.work (record { block = g.block; room = rw (← prefix_length L b g.block) g.lent })) in
      goes_on (open_rows L b n) (of_page L (formula_of b) start m.output) refl o
      ∙ rw (
        g.exists,
        le-ltb L.group (first_group (prefix_of b)) g.narrow,
        le-ltb (2 ^ first_group (prefix_of b)) start g.inside,
        le-ltb (length m.output) 2 g.room,
      )

  -- its prefix, as the searches need it
  pub page_binds : PageGuarded → Binds (formula_of b).prefix
  unfolding formula_of
  page_binds g = accepted_binds L b g.block
