-- What an accepted opening leaves: a fresh session, zeros in the first V places, and no other place written. By the laws of the wiped places.
use Rattle.words.specs.Outcomes.{unless_ok}
use Rattle.std.specs.Prelude.{ℕ, ◌≤◌, ◌<◌, ◌≡◌, List, ℤ, pos, length, get_or, Ok}
use Rattle.std.proofs.Common.{zero-le, inr}
use Rattle.formula.specs.Formula.{variables_of}
use Rattle.formula.specs.Limits.{Limits}
use Rattle.record.specs.declared.rule.State.TheVariants.{Open}
use Rattle.record.proofs.Laws.Wiped.{wiped_length, wiped_inside, wiped_outside}
use Rattle.session.specs.declared.Revision.{Revision}
use Rattle.session.specs.declared.Session.{Session}
use Rattle.memory.specs.Memory.{Memory, places}
use Rattle.memory.specs.Refusals.{open_refusal}
use Rattle.session.specs.Outcome.{session, open_outcome}
use Rattle.record.proofs.Laws.Wiped.{wiped_blank, wiped_other}
use Rattle.record.specs.Trail.{entry_at, no_entry}

pub record Fresh (b : List ℤ) (rev : Revision) (s : Session) (m m' : Memory) : Type 0 where
  -- [session.fresh]
  pub fresh : s ≡ session 0 rev.0 Open
  -- [opening.wipes]
  pub zeros : (j : ℕ) → j < variables_of b → (entry_at m'.trail j ≡ no_entry) × (get_or m'.reasons j 0 ≡ 0)
  -- [writes.nothing-else]
  pub untouched : (j : ℕ) → variables_of b ≤ j → (entry_at m'.trail j ≡ entry_at m.trail j) × (get_or m'.reasons j 0 ≡ get_or m.reasons j 0)
  pub lengths : (length m'.trail.lits ≡ length m.trail.lits) × (length m'.trail.kinds ≡ length m.trail.kinds) × (length m'.reasons ≡ length m.reasons)

pub accepted_open : (L : Limits) → (b : List ℤ) (m : Memory) (rev : Revision) (s : Session) → let o = open_outcome L b m rev in
    o.answer ≡ Ok s → Fresh b rev s m o.memory
unfolding open_outcome
accepted_open L b m rev s a =
    let e = unless_ok (open_refusal L b (places m)) m _ s a in
    let v = variables_of b in
    let a' = rw e at a in
    rw e
    (record {
      fresh = cc;
      zeros = λ j h. (wiped_blank m.trail 0 v j zero-le h, wiped_inside 0 m.reasons 0 v j zero-le h);
      untouched = λ j h. (wiped_other m.trail 0 v j (inr h), wiped_outside 0 m.reasons 0 v j 0 (inr h));
      lengths = (wiped_length (pos 0) m.trail.lits 0 v, wiped_length 0 m.trail.kinds 0 v, wiped_length 0 m.reasons 0 v);
    })
