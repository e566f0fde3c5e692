-- What is claimed of a page that is answered: what it has written, why it stops, when it pauses, and what it leaves in the work record.
use Rattle.std.specs.Prelude.{ℕ, ◌+◌, ◌*◌, ◌-◌, ◌^◌, ◌≤◌, ◌<◌, ◌≡◌, ◌↔◌, true, false, List, ◌++◌, ℤ, length, get_or, take, drop}
use Rattle.formula.specs.Formula.{Formula, formula_of, variables_of, prefix_of, first_group}
use Rattle.record.specs.declared.rule.State.{State}
use Rattle.record.specs.declared.rule.State.TheVariants.{Open}
use Rattle.record.specs.Trail.{Trail, entry_at, no_entry}
use Rattle.listing.specs.Opening.{openings, opening_end}
use Rattle.listing.specs.Page.{Sheet, PageMemory}
use Rattle.listing.specs.Wins.{listing}

-- work' is as work from place n on, and as long
pub record Beyond (n : ℕ) (work work' : Trail) : Type 0 where
  pub lengths : (length work'.lits ≡ length work.lits) × (length work'.kinds ≡ length work.kinds)
  pub places : (j : ℕ) → n ≤ j → entry_at work' j ≡ entry_at work j

-- how far a page on the output `out` has come from `start`: to the opening n, with e entries on the output out'
pub record Filled (F : Formula) (start : ℕ) (out : List ℕ) (n e : ℕ) (out' : List ℕ) : Type 0 where
  pub up_to : n ≤ openings F
  -- at most one entry for each opening from start on
  pub few : e + start ≤ n
  -- [page.entry] with its entries the listing below its start is the listing below n
  pub listed : listing F start ++ take (2 * e) out' ≡ listing F n
  -- [page.after] the output after the entries is as it was
  pub fits : 2 * e ≤ length out
  pub long : length out' ≡ length out
  pub untouched : drop (2 * e) out' ≡ drop (2 * e) out

-- the sheet s, where the openings end at `total` and the output has `size` words
module _ (ends : ℕ → State) (total size : ℕ) (s : Sheet) where
  -- there is an opening at next, there is room for its entry, and its search doesn't end within the budget
  pub record Unended : Type 0 where
    pub left : s.next < total
    pub room : 2 * s.entries + 2 ≤ size
    pub live : ends s.next ≡ Open

  -- [page.stops] [page.next] why it stops: no opening is left; there is no room, and next is just after the last entry's opening; a search
  -- has not ended
  pub data Stops : Type 0 where
    at_end : s.paused ≡ false → s.next ≡ total → Stops
    no_room : s.paused ≡ false → s.next < total → size < 2 * s.entries + 2 → 0 < s.entries → get_or s.output (2 * (s.entries - 1)) 0 + 1 ≡ s.next → Stops
    unended : s.paused ≡ true → Unended → Stops

-- the page from `start`: the sheet s is its answer and the output after it, work' is the work record after it
pub record PageClaims (b : List ℤ) (m : PageMemory) (start : ℕ) (preferred : List ℤ) (budget : ℕ) (s : Sheet) (work' : Trail) : Type 0 where
  pub filled : Filled (formula_of b) start m.output s.next s.entries s.output
  pub stops : Stops (opening_end (formula_of b) preferred budget m.work) (openings (formula_of b)) (length m.output) s
  -- [page.paused] [demand.3.paused]
  pub paused_exactly : (s.paused ≡ true) ↔ Unended (opening_end (formula_of b) preferred budget m.work) (openings (formula_of b)) (length m.output) s
  -- [demand.3.enough]
  pub never_pauses : 2 ^ (variables_of b + 1 - first_group (prefix_of b)) - 1 ≤ budget → s.paused ≡ false
  -- and a page that isn't paused goes on
  pub moves : s.paused ≡ false → start < openings (formula_of b) → start < s.next
  -- [page.after] the first V places of the work record are 0, and no other is written
  pub zeros : (j : ℕ) → j < variables_of b → entry_at work' j ≡ no_entry
  pub beyond : Beyond (variables_of b) m.work work'
