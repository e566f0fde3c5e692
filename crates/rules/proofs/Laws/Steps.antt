-- The due rule is a rule of the theory: applied to the buffers it is a `Step` of the record in them, it has a place to write to, and it leaves
-- buffers as long as before whose record passes row 12. By the reason of each rule.
use Rattle.std.specs.Prelude.{ℕ, suc, ◌+◌, ◌<◌, ◌≡◌, refl, true, List, [], ◌∷◌, ◌++◌, eqb, ℤ, pos, neg_ℤ, nat_abs, length, get_or, drop}
use Rattle.std.proofs.Common.{sym, ap, ◌∙◌, inl, inr, arith, length-set, length-append, eq-eqb}
use Rattle.words.specs.Laws.Bools.{look, clash}
use Rattle.formula.specs.Formula.{Formula, universal}
use Rattle.formula.specs.Laws.Prefix.{stands_bound}
use Rattle.theory.specs.Record.{entry, Record, Assignment, true_in}
use Rattle.theory.specs.Tests.{monotone_open, is_open}
use Rattle.theory.specs.Rules.{going, Quiet, StepBy, Step}
use Rattle.theory.proofs.Laws.Tested.{open_e}
use Rattle.theory.proofs.Laws.Monotone.{open_within}
use Rattle.theory.proofs.Laws.Moves.{good_step}
use Rattle.theory.proofs.Laws.Work.{good_taken}
use Rattle.record.specs.Trail.{put, record_of}
use Rattle.record.specs.Search.{Search, record_in, standing_of}
use Rattle.record.specs.Found.{literal}
use Rattle.rules.specs.Due.{due}
use Rattle.applied.specs.Apply.{flip, kind_of, chosen, move_of, moved, apply}
use Rattle.record.specs.Inner.Ready.{KeptIn, Permitted}
use Rattle.applied.specs.Inner.Fits.{MoveFits, Fitting}
use Rattle.record.proofs.Laws.Wiped.{wiped_length}
use Rattle.record.proofs.Laws.Records.{kept_good, kept_room, kept_more, record_length, record_get, record_at, record_put, record_cut}
use Rattle.record.proofs.Laws.Last.{Last, last_none, last_at}
use Rattle.record.proofs.Laws.Good.{passed_good, good_kept}
use Rattle.rules.proofs.Laws.WhyDue.{Reason, backtrack_exists, fail, unit, monotone, decide, backtrack_forall, succeed, reason}
use Rattle.record.specs.declared.rule.Rule.{Rule}
use Rattle.applied.specs.declared.moves.Move.{Move}
use Rattle.applied.specs.declared.moves.Move.TheVariants.{Append, Flip}

-- ---- Decide takes an open literal, with the kind of its quantifier
chosen_open : (p : List ℤ) (ρ : Assignment) (l x : ℤ) → Permitted p ρ l → is_open p ρ x ≡ true → is_open p ρ (chosen l x) ≡ true
chosen_open p ρ l x (inl e) h = rw (eq-eqb (nat_abs l) 0 e) h
chosen_open p ρ l x (inr e) h = elim (look (eqb (nat_abs l) 0)) [ inl z ↦ rw z h | inr z ↦ rw z e ]

decide_step : (F : Formula) (r : Record) → Quiet F r → (x : ℤ) → is_open F.prefix (true_in r) x ≡ true → Step F r (going (r ++ entry (kind_of F.prefix x) x ∷ []))
decide_step F r q x o = elim (look (universal F.prefix x)) [
  | inl u ↦ rw u (StepBy.decide_forall q x o u)
  | inr u ↦ rw u (StepBy.decide_exists q x o (elim (stands_bound F.prefix x (open_e F.prefix (true_in r) x o).bound) [ inl e ↦ e | inr e ↦ clash e u ]))
]

-- ---- on the buffers of a guarded call
module _ (F : Formula) (t : Search) (k : KeptIn F.prefix t) where
  -- a move that is one of the theory's has a place to write to, and keeps what the guard has shown
  record Done (m : Move) : Type 0 where
    pub fits : MoveFits F.prefix t.count m
    pub step : Step F (record_in t) (standing_of (moved m t))
    pub keeps : KeptIn F.prefix (moved m t)

  -- an entry more has a place: with it the record has distinct variables of the prefix still
  module _ (kind : ℕ) (x : ℤ) (s : Step F (record_in t) (going (record_in t ++ entry kind x ∷ []))) where
    more : t.count < length F.prefix
    more =
        let g = good_taken F (record_in t ++ entry kind x ∷ []) (good_step open_within F (passed_good F t.trail t.count k) s) in
        let a = length-append (record_in t) (entry kind x ∷ []) in
        let b = record_length t.trail t.count (kept_room k) in
        omega arith

    abbrev longer : record_of (put t.trail t.count (entry kind x)) (t.count + 1) ≡ record_in t ++ entry kind x ∷ []
    longer = record_put t.trail t.count (entry kind x) (kept_more k more)

    appended : Done (Append kind (literal x))
    appended =
        let h = more in
        record {
          fits = h;
          step = rw longer s;
          keeps = record {
            prefix = k.prefix;
            room = record { lits = rw length-set k.room.lits; kinds = rw length-set k.room.kinds };
            good = good_kept F (put t.trail t.count (entry kind x)) (t.count + 1) k.prefix (omega arith) (rw longer (good_step open_within F (passed_good F t.trail t.count k) s));
          };
        }

  -- a cut is at the entry that the search found
  module _ (kind i : ℕ) (w : Last kind (record_in t) i) where
    inside : i < t.count
    inside = rw (record_length t.trail t.count (kept_room k)) at w.inside

    split : record_in t ≡ record_of t.trail i ++ entry kind (get_or t.trail.lits i (pos 0)) ∷ drop (suc i) (record_in t)
    split =
        let e : get_or t.trail.kinds i 0 ≡ kind = sym (ap (λ e. e.kind) (record_get t.trail t.count (kept_room k) i inside)) ∙ w.kind in
        rw e at (record_at t.trail t.count (kept_room k) i inside)

    abbrev shorter : record_of (flip i t).trail (i + 1) ≡ record_of t.trail i ++ entry 0 (neg_ℤ (get_or t.trail.lits i (pos 0))) ∷ []
    shorter = record_cut t.trail t.count i (entry 0 (neg_ℤ (get_or t.trail.lits i (pos 0)))) inside (kept_room k)

    flipped : Step F (record_in t) (going (record_of t.trail i ++ entry 0 (neg_ℤ (get_or t.trail.lits i (pos 0))) ∷ [])) → Done (Flip i)
    flipped s =
        let h = inside in
        let f = (kept_good k).few in
        record {
          fits = h;
          step = rw shorter s;
          keeps = record {
            prefix = k.prefix;
            room = record { lits = rw (length-set, wiped_length) k.room.lits; kinds = rw (length-set, wiped_length) k.room.kinds };
            good = good_kept F (flip i t).trail (i + 1) k.prefix (omega arith) (rw shorter (good_step open_within F (passed_good F t.trail t.count k) s));
          };
        }

  done : {rule : Rule} → Reason F (record_in t) rule → (l : ℤ) → Permitted F.prefix (true_in (record_in t)) l → Done (move_of F.prefix rule l)
  unfolding monotone_open
  done (backtrack_exists i c h e) l a =
      let w = last_at 1 (record_in t) i e in
      flipped 1 i w (StepBy.backtrack_exists h (record_of t.trail i) (drop (suc i) (record_in t)) (get_or t.trail.lits i (pos 0)) (split 1 i w) w.none_after)
  done (fail c h e) l a = record { fits = omega arith; step = StepBy.fail h (last_none 1 0 (record_in t) e); keeps = k }
  done (unit x c q u) l a = appended 0 x.0 (StepBy.unit q u.clause u.inside x.0 u.decides)
  done (monotone x q h) l a = appended 0 x.0 (StepBy.monotone q x.0 h)
  done (decide x q h) l a =
      let y = chosen l x.0 in
      appended (kind_of F.prefix y) y (decide_step F (record_in t) q y (chosen_open F.prefix (true_in (record_in t)) l x.0 a h))
  done (backtrack_forall i q f e) l a =
      let w = last_at 2 (record_in t) i e in
      flipped 2 i w (StepBy.backtrack_forall q f (record_of t.trail i) (drop (suc i) (record_in t)) (get_or t.trail.lits i (pos 0)) (split 2 i w) w.none_after)
  done (succeed q f e) l a = record { fits = omega arith; step = StepBy.succeed q f (last_none 2 0 (record_in t) e); keeps = k }

  -- ---- so does the due rule, with a permitted proposal
  pub due_fits : Fitting F.prefix t.count (due F (record_in t))
  due_fits = (done (reason F k.prefix (record_in t)) (pos 0) (inl refl)).fits

  module _ (l : ℤ) (a : Permitted F.prefix (true_in (record_in t)) l) where
    pub due_step : Step F (record_in t) (standing_of (apply F.prefix (due F (record_in t)) l t))
    unfolding apply
    due_step = (done (reason F k.prefix (record_in t)) l a).step

    pub due_keeps : KeptIn F.prefix (apply F.prefix (due F (record_in t)) l t)
    unfolding apply
    due_keeps = (done (reason F k.prefix (record_in t)) l a).keeps
