-- What the functions of a page say to each other; a reader of the outcome needs none of it.
use Rattle.std.specs.Prelude.{ℕ, ◌≤◌, ◌<◌, ◌≡◌, List, ℤ, pos, nat_abs, length, get_or, Result, Ok}
use Rattle.formula.specs.Formula.{Formula, prefix_of, first_group}
use Rattle.record.specs.Trail.{Trail, wiped_trail}
use Rattle.listing.specs.declared.sheets.Page.{Page}
use Rattle.words.specs.declared.Refusal.{Refusal}
use Rattle.listing.specs.Rows.{PageGuarded}
use Rattle.formula.specs.Limits.{limits}
use Rattle.listing.specs.Page.{PageMemory}
use Rattle.words.specs.Outcomes.{Outcome, outcome}
use Rattle.record.specs.Inner.Ready.{OnBuffers}

-- the block passes its rows, the buffers row 11, and the first group, of k variables, row 19
pub record OnGroup (b : List ℤ) (work : Trail) (k : ℕ) : Type 0 where
  pub on : OnBuffers limits b work
  pub group : k ≡ first_group (prefix_of b)
  pub narrow : k ≤ limits.group

-- a page passes all its rows, and k is the size of the first group
pub record OnPage (b : List ℤ) (m : PageMemory) (k start : ℕ) : Type 0 where
  pub guard : PageGuarded limits b m start
  pub group : k ≡ first_group (prefix_of b)

-- a page's answer and the memory, once the first V places of the work record are wiped
abbrev pub wiped_outcome : Formula → Page → PageMemory → Outcome PageMemory (Result Page Refusal)
wiped_outcome F a m = outcome (Ok a) (record { work = wiped_trail m.work 0 (length F.prefix); output = m.output })

-- the values of a group can be put at the start of a buffer
pub record Writable (g ls : List ℤ) : Type 0 where
  pub narrow : length g ≤ limits.group
  pub room : length g ≤ length ls
  pub small : (i : ℕ) → i < length g → nat_abs (get_or g i (pos 0)) ≤ 2147483647
