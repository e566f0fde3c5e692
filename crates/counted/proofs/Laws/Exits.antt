-- The two ways out of the counted run: refused it leaves everything, and accepted it is a run that has kept the numbers.
use Prim.Native.Nat.{ℕ, zero, suc, ◌+◌, ◌≤◌}
use Rattle.std.specs.Prelude.{◌≡◌, ◌||◌, List, ltb, ℤ, length, Result, Ok, Err}
use Rattle.std.proofs.Common.{ltb-false}
use native.Mathlib.Omega.{arith}
use Rattle.std.proofs.Math.ListN.{drop}
use Rattle.std.proofs.Math.Seq.{drop-drop}
use Rattle.words.specs.Laws.Bools.{or_fl, or_fr}
use Rattle.words.specs.declared.Refusal.{Refusal}
use Rattle.words.specs.Outcomes.{Outcome, outcome, unless, refused, by_row}
use Rattle.formula.specs.Check.{checked_of}
use Rattle.formula.specs.Limits.{limits}
use Rattle.formula.specs.Formula.{variables_of, clause_count_of, literal_count_of, literals_of}
use Rattle.session.specs.declared.Revision.{Revision}
use Rattle.session.specs.declared.Session.{Session}
use Rattle.session.specs.declared.Ran.{Ran}
use Rattle.search.specs.declared.searches.Searched.{Searched}
use Rattle.memory.specs.Memory.{Memory}
use Rattle.session.specs.Refusals.{last_revision}
use Rattle.session.specs.Outcome.{session}
use Rattle.session.specs.Run.{run_to}
use Rattle.session.specs.Laws.Accepted.{guarded, run_guarded}
use Rattle.search.proofs.Laws.Rounds.{steps_within}
use Rattle.session.specs.Laws.Exits.{run_moves}
use Rattle.counted.specs.Lent.{Lent, lent, past}
use Rattle.counted.specs.Refusals.{index_places, counted_refusal}
use Rattle.counted.specs.Counted.{accepted, counted_of, used_by}
use Rattle.counted.specs.Inner.Standing.{Roomy}
use Rattle.counted.specs.Inner.Search.{SearchedTo}
use Rattle.counted.proofs.Laws.Checked.{literals_few}
use Rattle.counted.proofs.Laws.Guards.{passes}

module _ (s : Session) (b : List ℤ) (w : Lent) (seen : Revision) (budget : ℕ) where
  pub counted_stops : (preferred : List ℤ) (e : Refusal) → Err e ≡ checked_of (counted_refusal limits s b w seen budget)
      → outcome (Err e) (past (used_by (counted_refusal limits s b w seen budget) b) w) ≡ counted_of limits s b w seen budget preferred
  unfolding counted_of checked_of
  counted_stops preferred e is = go (counted_refusal limits s b w seen budget) (accepted limits s b w seen budget preferred) is
    where
      go : (n : ℕ) (o : Outcome Lent (Result Ran Refusal)) → Err e ≡ checked_of n → outcome (Err e) (past (used_by n b) w) ≡ unless refused n w o
      go zero o is = absurd cc
      go (suc n) o is = let f : e ≡ by_row (suc n) = cc in rw f

  module _ (none : counted_refusal limits s b w seen budget ≡ 0) where
    -- the search has what it asks for
    pub search_asks : Roomy b w.memory s.length w.trues w.opens w.index
    search_asks =
        let p = passes limits s b w seen budget none in
        let g = guarded limits s b w.memory seen p.session in
        let C = clause_count_of b in
        let t = ltb (length w.trues) C in
        let o = ltb (length w.opens) C in
        let i = ltb (length w.index) (index_places b) in
        let index = ltb-false (length w.index) (index_places b) (or_fr (t || o) i p.roomy) in
        record {
          on = record { on = g.on; places = g.sound.places };
          trues_room = ltb-false (length w.trues) C (or_fl t o (or_fl (t || o) i p.roomy));
          opens_room = ltb-false (length w.opens) C (or_fr t o (or_fl (t || o) i p.roomy));
          index_room = omega (arith, index, literals_few b g.on.block);
        }

    below : s.revision.0 + budget ≤ last_revision
    below = (run_guarded limits s b w.memory seen budget (passes limits s b w seen budget none).run).below

    module _ (preferred : List ℤ) {m' : Memory} {found : Searched} {ts os : List ℕ} (d : SearchedTo b w.memory s.length budget preferred w.trues w.opens m' found ts os) where
      pub revision_fits : s.revision.0 + found.steps ≤ last_revision
      revision_fits =
          let g = guarded limits s b w.memory seen (passes limits s b w seen budget none).session in
          omega (arith, below, steps_within g.on budget preferred d.led)

      pub counted_moves : (index : List ℕ) → drop (length (literals_of b)) index ≡ drop (length (literals_of b)) w.index
          → {s' : Session} → s' ≡ session found.reached.count (s.revision.0 + found.steps) found.reached.state
          → outcome (Ok (run_to s' found.steps found.reason)) (past (used_by (counted_refusal limits s b w seen budget) b) (lent m' ts os index)) ≡ counted_of limits s b w seen budget preferred
      unfolding counted_of
      counted_moves index i {s'} q =
          let p = passes limits s b w seen budget none in
          let g = guarded limits s b w.memory seen p.session in
          let run = run_moves s b w.memory seen budget preferred p.session (omega (arith, below)) (omega (arith, below)) found.reached found.steps m'.trail d.led m'.reasons found.reason d.tells q in
          let t = literals_few b g.on.block in
          let u : literal_count_of b + variables_of b ≡ index_places b = omega arith in
          let i' : drop (literal_count_of b) index ≡ drop (literal_count_of b) w.index = rw t at i in
          let stays : drop (index_places b) index ≡ drop (index_places b) w.index = rw (← u, ← drop-drop (variables_of b) (literal_count_of b) index, ← drop-drop (variables_of b) (literal_count_of b) w.index, i') in
          rw (none, ← run, q, ← d.numbers.trues, ← d.numbers.opens, stays)
