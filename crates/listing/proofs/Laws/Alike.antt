-- A search depends on its record alone: two searches with the same record, the same count and the same state stay so from rule to rule, whatever
-- else their buffers hold. The due rule is the record's, and what a rule leaves in the record is said of the record.
use Prim.Native.Nat.{ℕ, zero, suc, ◌+◌, ◌<◌}
use Rattle.std.specs.Prelude.{◌≡◌, refl, List, [], ◌∷◌, ◌++◌, ℤ, neg_ℤ, length, get_or, take}
use Rattle.std.proofs.Common.{sym, ◌∙◌, arith, take-take}
use Rattle.std.proofs.Math.Path.{subst}
use Rattle.formula.specs.Formula.{Formula}
use Rattle.theory.specs.Record.{entry, true_in}
use Rattle.record.specs.declared.rule.State.{State}
use Rattle.record.specs.declared.rule.State.TheVariants.{Open, Valid, Unsat}
use Rattle.record.specs.declared.rule.Rule.{Rule}
use Rattle.record.specs.declared.rule.Rule.TheVariants.{BacktrackExists, Fail, Unit, Monotone, Decide, BacktrackForall, Succeed}
use Rattle.record.specs.Trail.{record_of, no_entry}
use Rattle.record.specs.Search.{Search, record_in}
use Rattle.rules.specs.Due.{due}
use Rattle.applied.specs.Apply.{append, flip, apply}
use Rattle.choice.specs.Preferred.{proposal_of}
use Rattle.record.specs.Inner.Ready.{KeptIn}
use Rattle.applied.specs.Inner.Fits.{Fitting}
use Rattle.record.proofs.Laws.Records.{kept_room, kept_more, record_get, record_put, record_cut}
use Rattle.rules.proofs.Laws.Steps.{due_fits}
use Rattle.search.specs.Run.{Trip, trip, while_open, advance, run_from}
use Rattle.search.proofs.Laws.Runs.{advance_keeps}

pub record Alike (t u : Search) : Type 0 where
  pub held : record_in t ≡ record_in u
  pub count : t.count ≡ u.count
  pub state : t.state ≡ u.state

-- what a cut leaves, said of the record
cut_record : (p : List ℤ) (t : Search) → KeptIn p t → (i : ℕ) → i < t.count → record_in (flip i t) ≡ take i (record_in t) ++ entry 0 (neg_ℤ (get_or (record_in t) i no_entry).literal) ∷ []
unfolding record_of
cut_record p t k i h =
    record_cut t.trail t.count i _ h (kept_room k)
    ∙ rw (record_get t.trail t.count (kept_room k) i h, take-take i t.count _ (omega arith))

module _ (p : List ℤ) {t u : Search} (k : KeptIn p t) (l : KeptIn p u) (a : Alike t u) where
  appended : (kind : ℕ) (x : ℤ) → t.count < length p → Alike (append kind x t) (append kind x u)
  appended kind x h =
      let c = a.count in
      record {
        held = record_put t.trail t.count (entry kind x) (kept_more k h) ∙ rw a.held (sym (record_put u.trail u.count (entry kind x) (kept_more l (omega arith))));
        count = omega arith;
        state = refl;
      }

  flipped : (i : ℕ) → i < t.count → Alike (flip i t) (flip i u)
  flipped i h =
      let c = a.count in
      record { held = cut_record p t k i h ∙ rw a.held (sym (cut_record p u l i (omega arith))); count = refl; state = refl }

  ended : (st : State) → Alike (record { trail = t.trail; count = t.count; state = st }) (record { trail = u.trail; count = u.count; state = st })
  ended st = record { held = a.held; count = a.count; state = refl }

  apply_alike : (rule : Rule) (x : ℤ) → Fitting p t.count rule → Alike (apply p rule x t) (apply p rule x u)
  unfolding apply
  apply_alike (BacktrackExists i c) x f = flipped i f
  apply_alike (Fail c) x f = ended Unsat
  apply_alike (Unit y c) x f = appended 0 y.0 f
  apply_alike (Monotone y) x f = appended 0 y.0 f
  apply_alike (Decide y) x f = appended _ _ f
  apply_alike (BacktrackForall i) x f = flipped i f
  apply_alike Succeed x f = ended Valid

module _ (F : Formula) (preferred : List ℤ) where
  advance_alike : {t u : Search} → KeptIn F.prefix t → KeptIn F.prefix u → Alike t u → Alike (advance F preferred t) (advance F preferred u)
  unfolding advance
  advance_alike {t} {u} k l a =
      rw (← a.held) (apply_alike F.prefix k l a (due F (record_in t)) (proposal_of F.prefix (true_in (record_in t)) preferred (due F (record_in t))) (due_fits F t k))

  pub run_alike : (n : ℕ) {t u : Search} (c : ℕ) → KeptIn F.prefix t → KeptIn F.prefix u → Alike t u → Alike (run_from F preferred n t c).reached (run_from F preferred n u c).reached
  unfolding run_from
  run_alike zero c k l a = a
  run_alike (suc n) {t} {u} c k l a =
      subst
      (λ st. Alike (while_open t.state (run_from F preferred n (advance F preferred t) (c + 1)) (trip t c)).reached (while_open st (run_from F preferred n (advance F preferred u) (c + 1)) (trip u c)).reached)
      a.state
      (go _ _ t.state (run_alike n (c + 1) (advance_keeps F preferred t k) (advance_keeps F preferred u l) (advance_alike k l a)))
    where
      go : (v w : Trip) (st : State) → Alike v.reached w.reached → Alike (while_open st v (trip t c)).reached (while_open st w (trip u c)).reached
      go v w Open r = r
      go v w Valid r = a
      go v w Unsat r = a
