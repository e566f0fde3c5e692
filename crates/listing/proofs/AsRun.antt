-- [opening.start] The search of an opening is a run of a session: on the record that begins as the opening's values, a run at revision 0 with the
-- page's budget and preferences is accepted, and leaves what the search leaves, whatever reasons are lent to it that rows 11 and 12 let pass. The block's
-- rows and row 11 are the page's own, and rows 12 to 15 pass at a start.
use Rattle.std.specs.Prelude.{ℕ, ◌+◌, ◌<◌, ◌≡◌, List, ℤ, length, replicate, Ok}
use Rattle.std.proofs.Math.Path.{refl}
use Rattle.std.proofs.Common.{◌∙◌, le-ltb}
use native.Mathlib.Omega.{arith}
use Rattle.words.specs.Outcomes.{outcome}
use Rattle.words.specs.Rows.{refusal_of}
use Rattle.words.specs.Laws.Rows.{goes_on}
use Rattle.formula.specs.Formula.{formula_of, variables_of, prefix_of, first_group}
use Rattle.formula.specs.Limits.{Limits}
use Rattle.record.specs.declared.rule.State.TheVariants.{Open}
use Rattle.record.specs.Inner.Ready.{Room}
use Rattle.record.proofs.Laws.Accepted.{prefix_length}
use Rattle.session.specs.declared.Revision.{Revision}
use Rattle.session.specs.declared.Session.{Session}
use Rattle.memory.specs.Memory.{Memory, memory_of, places}
use Rattle.memory.specs.Reasons.{why}
use Rattle.memory.specs.Refusals.{open_rows, open_refusal}
use Rattle.session.specs.Refusals.{last_revision, of_session, session_rows, of_run, run_refusal}
use Rattle.session.specs.Outcome.{session}
use Rattle.search.specs.Run.{run_from, why_from}
use Rattle.session.specs.Run.{run_of, run_to}
use Rattle.memory.proofs.Laws.Opened.{open_passes, room_buffers}
use Rattle.session.specs.Laws.Accepted.{Sound}
use Rattle.session.specs.Laws.Sound.{none_sound}
use Rattle.listing.specs.Opening.{opening_start, opening_search}
use Rattle.listing.specs.Page.{PageMemory}
use Rattle.listing.specs.Rows.{PageGuarded, page_binds}
use Rattle.listing.proofs.Laws.Start.{starts, Starts}

-- a page that passes its rows, and a budget of 32 bits
module _ (L : Limits) (b : List ℤ) (m : PageMemory) (start : ℕ) (g : PageGuarded L b m start) (preferred : List ℤ) (budget : ℕ) (word : budget < 4294967296) (n : ℕ) (ws : List ℕ) where
  -- the memory at the start of the opening's search, with some reasons, and the session that stands there
  abbrev begun : Memory
  begun = memory_of (opening_start (formula_of b) m.work n) ws

  abbrev fresh : Session
  fresh = session (first_group (prefix_of b)) 0 Open

  abbrev seen : Revision
  seen = record { 0 = 0 }

  begins : Starts (formula_of b) m.work n
  begins = starts (formula_of b) (page_binds L b m start g) m.work n g.lent

  passes : Sound b begun (first_group (prefix_of b)) → run_refusal L fresh b begun seen budget ≡ 0
  unfolding run_refusal open_refusal opening_start formula_of
  passes right =
      let r : Room (length (prefix_of b)) begun.trail = begins.kept.room in
      let v = prefix_length L b g.block in
      let o = open_passes L b (places begun) (room_buffers begun (record { block = g.block; room = record { lits = omega (arith, r.lits); kinds = omega (arith, r.kinds) } }) right.places) in
      let s : refusal_of (session_rows L fresh b begun seen) ≡ 0 = goes_on (open_rows L b (places begun)) (of_session fresh b begun seen) refl o ∙ rw (begins.kept.good, right.good) in
      goes_on (session_rows L fresh b begun seen) (of_run fresh b begun seen budget) refl s ∙ rw (le-ltb last_revision (0 + budget) (omega arith))

  pub search_is_run : Sound b begun (first_group (prefix_of b)) → let t = run_from (formula_of b) preferred budget (opening_start (formula_of b) m.work n) 0 in
      let u = opening_search (formula_of b) preferred budget m.work n in
      let w = why_from (formula_of b) preferred budget (opening_start (formula_of b) m.work n) (why ws 0) in
      run_of L fresh b begun seen budget preferred ≡ outcome (Ok (run_to (session u.count t.steps u.state) t.steps w.last)) (memory_of u w.reasons)
  unfolding run_of opening_start formula_of
  search_is_run right =
      let t = run_from (formula_of b) preferred budget (opening_start (formula_of b) m.work n) 0 in
      let z : 0 + t.steps ≡ t.steps = omega arith in
      rw (passes right, z)

-- such are reasons that are all 0
pub no_reasons : (b : List ℤ) (m : PageMemory) (n : ℕ)
    → Sound b (memory_of (opening_start (formula_of b) m.work n) (replicate (variables_of b) 0)) (first_group (prefix_of b))
no_reasons b m n = none_sound b (opening_start (formula_of b) m.work n) (first_group (prefix_of b))
