-- An accepted page is as claimed. From the sheet of its openings and the search of each.
use Prim.Native.Nat.{ℕ, suc, ◌+◌, ◌-◌, ◌^◌, ◌≤◌, ◌<◌}
use Rattle.std.specs.Prelude.{◌≡◌, ◌↔◌, true, false, List, ℤ, length, Result, Ok}
use Rattle.std.proofs.Common.{inl, inr, arith}
use Rattle.words.specs.Laws.Bools.{clash, look}
use Rattle.formula.specs.Formula.{formula_of, variables_of, prefix_of, first_group}
use Rattle.formula.specs.Proper.{Proper}
use Rattle.formula.specs.Limits.{Limits}
use Rattle.record.specs.declared.rule.State.{State}
use Rattle.record.specs.declared.rule.State.TheVariants.{Open}
use Rattle.record.specs.Trail.{wiped_trail}
use Rattle.record.specs.Inner.Ready.{Binds}
use Rattle.record.proofs.Laws.Accepted.{prefix_length, accepted_proper}
use Rattle.record.proofs.Laws.Wiped.{wiped_blank}
use Rattle.listing.specs.declared.sheets.Page.{Page}
use Rattle.words.specs.declared.Refusal.{Refusal}
use Rattle.listing.specs.Opening.{openings, opening_end}
use Rattle.listing.specs.Page.{Sheet, sheet, page_at, page_of, sheet_of, PageMemory}
use Rattle.listing.specs.Rows.{PageGuarded, page_guarded, page_binds}
use Rattle.listing.proofs.Refused.{page_accepted, answered_accepted}
use Rattle.listing.specs.Claims.{Unended, Stops, at_end, no_room, unended, PageClaims}
use Rattle.listing.proofs.Laws.Searched.{won, lost, search_ends}
use Rattle.listing.proofs.Laws.Beyond.{wiped_beyond}
use Rattle.listing.proofs.Laws.Sheets.{filled_none, Done, done}

-- ---- what the reason to stop says
module _ {ends : ℕ → State} {total size : ℕ} {s : Sheet} where
  stops_paused : Stops ends total size s → (s.paused ≡ true) ↔ Unended ends total size s
  stops_paused (at_end p e) = (λ q. clash q p, λ u. absurd (let h = u.left in omega arith))
  stops_paused (no_room p h r g l) = (λ q. clash q p, λ u. absurd (let x = u.room in omega arith))
  stops_paused (unended p u) = (λ q. u, λ u. p)

  stops_moves : Stops ends total size s → {start : ℕ} → s.entries + start ≤ s.next → s.paused ≡ false → start < total → start < s.next
  stops_moves (at_end p e) f q h = omega arith
  stops_moves (no_room p i r g l) f q h = omega arith
  stops_moves (unended p u) f q h = clash p q

module _ (L : Limits) (b : List ℤ) (m : PageMemory) (start : ℕ) (preferred : List ℤ) (budget : ℕ) (g : PageGuarded L b m start) where
  ok : Proper (formula_of b)
  ok = accepted_proper L b g.block

  binds : Binds (formula_of b).prefix
  binds = page_binds L b m start g

  all_done : Done (formula_of b) start m.output (opening_end (formula_of b) preferred budget m.work) (won (formula_of b) ok binds m.work g.lent preferred budget) (lost (formula_of b) ok binds m.work g.lent preferred budget) (sheet_of (formula_of b) m start preferred budget)
  unfolding formula_of
  all_done =
      let i = g.inside in
      done (formula_of b) start m.output _ _ _ (openings (formula_of b) - start) start 0 m.output (omega arith) (filled_none (formula_of b) start m.output i) (inl g.room)

  enough : 2 ^ (variables_of b + 1 - first_group (prefix_of b)) - 1 ≤ budget → (n : ℕ) → opening_end (formula_of b) preferred budget m.work n ≡ Open → ⊥
  unfolding formula_of
  enough h n o =
      let e : suc (length (prefix_of b)) ≡ variables_of b + 1 = omega (arith, prefix_length L b g.block) in
      search_ends (formula_of b) ok binds m.work g.lent preferred budget n (rw e (omega arith)) o

  -- a page that breaks no row
  pub claimed : PageClaims b m start preferred budget (sheet_of (formula_of b) m start preferred budget) (wiped_trail m.work 0 (variables_of b))
  claimed =
      let s = sheet_of (formula_of b) m start preferred budget in
      let f = all_done.filled in
      let w = all_done.stops in
      record {
        filled = f;
        stops = w;
        paused_exactly = stops_paused w;
        never_pauses = λ h. elim (look s.paused) [ inl p ↦ absurd (enough h s.next ((stops_paused w).0 p).live) | inr p ↦ p ];
        moves = stops_moves w f.few;
        zeros = λ j h. wiped_blank m.work 0 (variables_of b) j (omega arith) h;
        beyond = wiped_beyond (variables_of b) m.work;
      }

-- whatever a page answers but a refusal, so it is
pub accepted_page : (L : Limits) → (b : List ℤ) (m : PageMemory) (start : ℕ) (preferred : List ℤ) (budget : ℕ) (r : Page)
    → let o = page_of L b m start preferred budget in
    o.answer ≡ Ok r → PageClaims b m start preferred budget (sheet r.next r.entries r.paused o.memory.output) o.memory.work
unfolding formula_of
accepted_page L b m start preferred budget r a =
    let e = answered_accepted L b m start preferred budget r a in
    let g = page_guarded L b m start e in
    let q = page_accepted L b m start preferred budget e in
    let s = sheet_of (formula_of b) m start preferred budget in
    let told : ◌≡◌ {A = Result Page Refusal} (Ok (page_at s.next s.entries s.paused)) (Ok r) = rw q at a in
    let same : page_at s.next s.entries s.paused ≡ r = cc in
    let w : s ≡ sheet r.next r.entries r.paused s.output = rw (← same) in
    rw (q, prefix_length L b g.block, ← w) (claimed L b m start preferred budget g)
