-- What a page's loop keeps from round to round, what each way out of it leaves, and what each way out of the page does. The searches write the
-- work record, so what it holds is not what the page was given; but each search ends as it would on that, so each round is the definition's.
use Prim.Native.Nat.{ℕ, suc, ◌+◌, ◌*◌, ◌-◌, ◌^◌, ◌≤◌, ◌<◌}
use mathlib.Core.Path.{◌≡◌, refl, sym, ◌∙◌, ap}
use mathlib.Core.Bool.{Bool, true, false}
use mathlib.Core.List.{List}
use native.Mathlib.Omega.{arith}
use lib.IntN.{ℤ}
use lib.ListN.{length}
use borrow.Author.Tests.{le-leb, lt-leb}
use Rattle.std.specs.Prelude.{Ok, Err}
use Rattle.words.specs.Outcomes.{outcome}
use Rattle.words.specs.declared.Refusal.{Refusal}
use Rattle.formula.specs.Check.{checked_of}
use Rattle.formula.specs.Laws.Check.{checked_accepted, checked_leaves}
use Rattle.formula.specs.Limits.{limits}
use Rattle.formula.specs.Formula.{formula_of, variables_of, prefix_of, first_group}
use Rattle.record.specs.declared.rule.State.{State}
use Rattle.record.specs.declared.rule.State.TheVariants.{Open, Valid, Unsat}
use Rattle.record.specs.declared.rule.Reached.{Reached}
use Rattle.record.specs.Search.{Search, reached}
use Rattle.record.specs.Trail.{Trail, wiped_trail}
use Rattle.record.specs.Inner.Ready.{Binds, Room}
use Rattle.record.proofs.Laws.Accepted.{prefix_length}
use Rattle.listing.specs.declared.sheets.Page.{Page}
use Rattle.listing.specs.Opening.{openings, opening_search, opening_end}
use Rattle.listing.specs.Page.{PageMemory, page_at, sheet, written, by_search, page_from, sheet_of, paged, page_refusal, page_of}
use Rattle.listing.specs.Rows.{page_binds, PageGuarded, page_guarded}
use Rattle.listing.specs.Claims.{Beyond}
use Rattle.listing.specs.Inner.Pages.{OnGroup, OnPage, wiped_outcome}
use Rattle.listing.proofs.Laws.Beyond.{beyond_refl, beyond_trans, beyond_room, wiped_again, search_beyond, same_end}
use Rattle.listing.proofs.Laws.Sheets.{written_length}
use Rattle.listing.proofs.Refused.{page_accepted}

-- ---- the loop
pub narrow : {b : List ℤ} {m : PageMemory} {k start : ℕ} → OnPage b m k start → k ≤ limits.group
narrow o = rw o.group o.guard.narrow

-- the page from `start`, whose openings end at `total`
module _ (b : List ℤ) (m : PageMemory) (k start : ℕ) (preferred : List ℤ) (budget total : ℕ) where
  -- how its searches end on the work record as it was
  abbrev ends : ℕ → State
  ends = opening_end (formula_of b) preferred budget m.work

  -- at the opening n, with e entries written: work' and out' are what the buffers hold
  pub record Round (n e : ℕ) (work' : Trail) (out' : List ℕ) : Type 0 where
    pub on : OnPage b m k start
    pub count : total ≡ 2 ^ k
    pub same : page_from ends (total - n) n e out' ≡ page_from ends (total - start) start 0 m.output
    pub beyond : Beyond (length (formula_of b).prefix) m.work work'
    pub inside : n ≤ total
    pub few : e ≤ n
    pub fits : 2 * e ≤ length out'
    pub long : length out' ≡ length m.output

  pub begins : OnPage b m k start → total ≡ 2 ^ k → Round start 0 m.work m.output
  unfolding formula_of
  begins o t = record { on = o; count = t; same = refl; beyond = beyond_refl; inside = rw (t, o.group) o.guard.inside; few = omega arith; fits = omega arith; long = refl }

module _ {b : List ℤ} {m : PageMemory} {k start : ℕ} {preferred : List ℤ} {budget total n e : ℕ} {work' : Trail} {out' : List ℕ} (s : Round b m k start preferred budget total n e work' out') where
  binds : Binds (formula_of b).prefix
  binds = page_binds limits b m start s.on.guard

  lent : Room (length (formula_of b).prefix) work'
  lent = beyond_room s.beyond s.on.guard.lent

  all : total ≡ openings (formula_of b)
  unfolding formula_of
  all = s.count ∙ ap (λ n. 2 ^ n) s.on.group

  -- the buffers are as long as they were
  pub still_on : OnGroup b work' k
  unfolding formula_of
  still_on =
      record { on = record { block = s.on.guard.block; room = rw (← prefix_length limits b s.on.guard.block) lent }; group = s.on.group; narrow = narrow s.on }

  -- what the page answers and leaves, once the work record is wiped
  abbrev Left : Page → Trail → Type 0
  Left a u = wiped_outcome (formula_of b) a (record { work = u; output = out' }) ≡ paged (formula_of b) m.work (sheet_of (formula_of b) m start preferred budget)

  left : {p : Bool} {u : Trail} → Beyond (length (formula_of b).prefix) m.work u → page_from (ends b m k start preferred budget total) (total - n) n e out' ≡ sheet n e p out' → Left (page_at n e p) u
  left y q = rw (← all, ← s.same, q, wiped_again y)

  -- no opening is left
  pub stops : total ≤ n → Left (page_at n e false) work'
  unfolding page_from
  stops h = let x : total - n ≡ 0 = omega arith in left s.beyond (rw x)

  module _ (h : n < total) where
    more : total - n ≡ suc (total - (n + 1))
    more = omega arith

    -- there is no room
    pub full : length out' < 2 * e + 2 → Left (page_at n e false) work'
    unfolding page_from
    full r = left s.beyond (rw (more, lt-leb (2 * e + 2) (length out') r))

    -- there is room, and the opening n is searched
    module _ (room : 2 * e + 2 ≤ length out') {r : Reached} {work'' : Trail} (f : reached r work'' ≡ opening_search (formula_of b) preferred budget work' n) where
      beyond'' : Beyond (length (formula_of b).prefix) m.work work''
      beyond'' = beyond_trans s.beyond (rw (← f) at (search_beyond (formula_of b) binds preferred budget work' lent n))

      searched : {st : State} → r.state ≡ st
          → page_from (ends b m k start preferred budget total) (total - n) n e out'
          ≡ by_search st (page_from (ends b m k start preferred budget total) (total - (n + 1)) (n + 1) (e + 1) (written n e out')) (page_from (ends b m k start preferred budget total) (total - (n + 1)) (n + 1) e out') (sheet n e true out')
      unfolding page_from
      searched {st} z =
          let x : opening_end (formula_of b) preferred budget m.work n ≡ st = same_end (formula_of b) binds preferred budget m.work s.on.guard.lent n work' lent ∙ ap (λ (u : Search). u.state) (sym f) ∙ z in
          rw (more, le-leb (2 * e + 2) (length out') room, x)

      pub pauses : r.state ≡ Open → Left (page_at n e true) work''
      pauses z = left beyond'' (searched z)

      pub wins : r.state ≡ Valid → {out'' : List ℕ} → out'' ≡ written n e out' → Round b m k start preferred budget total (n + 1) (e + 1) work'' out''
      wins z w = rw w (record {
        on = s.on;
        count = s.count;
        same = sym (searched z) ∙ s.same;
        beyond = beyond'';
        inside = omega arith;
        few = omega (arith, s.few);
        fits = omega (arith, written_length n e out');
        long = written_length n e out' ∙ s.long;
      })

      pub loses : r.state ≡ Unsat → Round b m k start preferred budget total (n + 1) e work'' out'
      loses z = record { on = s.on; count = s.count; same = sym (searched z) ∙ s.same; beyond = beyond''; inside = omega arith; few = omega (arith, s.few); fits = s.fits; long = s.long }

-- ---- the page
module _ (b : List ℤ) (m : PageMemory) (start : ℕ) where
  -- a refused page answers its number, and nothing is written
  pub refuses : (preferred : List ℤ) (budget : ℕ) (e : Refusal) → Err e ≡ checked_of (page_refusal limits b m start) → outcome (Err e) m ≡ page_of limits b m start preferred budget
  unfolding page_of
  refuses preferred budget e h = checked_leaves (page_refusal limits b m start) m _ e h

  module _ (u : Unit {0}) (h : Ok u ≡ checked_of (page_refusal limits b m start)) where
    none : page_refusal limits b m start ≡ 0
    none = checked_accepted (page_refusal limits b m start) u h

    passed : PageGuarded limits b m start
    passed = page_guarded limits b m start none

    pub on_page : {p : List ℤ} → p ≡ prefix_of b → {k : ℕ} → k ≡ first_group p → OnPage b m k start
    on_page is q = record { guard = passed; group = q ∙ ap first_group is }

    -- the first V places are wiped at the end
    pub cleans : {v : ℕ} → v ≡ variables_of b → (preferred : List ℤ) (budget : ℕ) {a : Page} (m' : PageMemory) {work'' : Trail}
        → wiped_outcome (formula_of b) a m' ≡ paged (formula_of b) m.work (sheet_of (formula_of b) m start preferred budget)
        → work'' ≡ wiped_trail m'.work 0 v → outcome (Ok a) (record { work = work''; output = m'.output }) ≡ page_of limits b m start preferred budget
    unfolding formula_of
    cleans {v} is preferred budget {a} m' f w =
        let n : length (prefix_of b) ≡ v = prefix_length limits b passed.block ∙ sym is in
        rw (w, ← n) (f ∙ sym (page_accepted limits b m start preferred budget none))
