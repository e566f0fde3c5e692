-- One step of a counted search. What a rule leaves of the record stays counted, the entries that go are taken back, and the entry that it makes is one that
-- can be counted: the record that it leaves passes row 12.
use Rattle.std.specs.Prelude.{ℕ, ◌+◌, ◌≤◌, ◌≡◌, true, false, List, ℤ, pos, length, take, set}
use Rattle.std.proofs.Math.Path.{refl, subst}
use Rattle.std.proofs.Common.{sym, ◌∙◌, arith}
use Rattle.std.proofs.Math.Seq.{take-set-le}
use Rattle.formula.specs.Limits.{limits}
use Rattle.formula.specs.Formula.{prefix_of, literals_of, formula_of}
use Rattle.theory.specs.Record.{among}
use Rattle.rules.specs.Due.{due}
use Rattle.record.specs.Trail.{trail, record_of, wiped}
use Rattle.record.specs.Search.{Search, search, reached}
use Rattle.applied.specs.Apply.{apply}
use Rattle.choice.specs.Preferred.{decides, proposal_of}
use Rattle.record.specs.Inner.Ready.{Kept, KeptIn}
use Rattle.applied.specs.Inner.Fits.{Fitting}
use Rattle.record.proofs.Laws.Accepted.{accepted_bound, kept_written, prefix_few}
use Rattle.record.proofs.Laws.Records.{kept_room, kept_named}
use Rattle.record.proofs.Laws.Wiped.{wiped_before}
use Rattle.record.specs.declared.rule.State.TheVariants.{Open}
use Rattle.record.specs.declared.rule.Reached.{Reached}
use Rattle.record.specs.declared.rule.Rule.{Rule}
use Rattle.record.specs.declared.rule.Rule.TheVariants.{BacktrackExists, Fail, Unit, Monotone, Decide, BacktrackForall, Succeed}
use Rattle.memory.specs.Memory.{memory}
use Rattle.memory.specs.Reasons.{why, told}
use Rattle.search.specs.Run.{over, advance}
use Rattle.memory.specs.Inner.Reasons.{Tellable}
use Rattle.search.proofs.Laws.Named.{fitting, tellable}
use Rattle.search.proofs.Laws.Rounds.{advanced}
use Rattle.search.proofs.Laws.Runs.{advance_keeps}
use Rattle.counted.specs.Inner.Decided.{Enacting}
use Rattle.counted.specs.Inner.Entry.{Taking}
use Rattle.counted.specs.Inner.State.{Counted, SetFrom}
use Rattle.counted.specs.Inner.Standing.{clauses_of, kept_by, Standing, Sought}
use Rattle.counted.specs.Inner.Search.{Entrant, Recounting, counted_to, Advanced}
use Rattle.counted.proofs.Laws.Checked.{once}
use Rattle.counted.proofs.Laws.Entry.{free_last}
use Rattle.counted.specs.declared.walk.Bounds.{Bounds}

-- ---- what a rule leaves
cut_within : (p : List ℤ) (n : ℕ) (rule : Rule) → Fitting p n rule → kept_by rule n ≤ n
cut_within p n (BacktrackExists i c) h = omega arith
cut_within p n (Fail c) h = omega arith
cut_within p n (Unit l c) h = omega arith
cut_within p n (Monotone l) h = omega arith
cut_within p n (Decide l) h = omega arith
cut_within p n (BacktrackForall i) h = omega arith
cut_within p n Succeed h = omega arith

decide_keeps : (rule : Rule) (n : ℕ) → decides rule ≡ true → kept_by rule n ≡ n
decide_keeps (BacktrackExists i c) n d = let z : ◌≡◌ {A = ℕ} 0 1 = cc in absurd (omega arith)
decide_keeps (Fail c) n d = refl
decide_keeps (Unit l c) n d = refl
decide_keeps (Monotone l) n d = refl
decide_keeps (Decide l) n d = refl
decide_keeps (BacktrackForall i) n d = let z : ◌≡◌ {A = ℕ} 0 1 = cc in absurd (omega arith)
decide_keeps Succeed n d = refl

-- the words before the place stay, and the record ends with the entry there, or before it if the search has ended
pub record Cut (at : ℕ) (t u : Search) : Type 0 where
  pub before : take at u.trail.lits ≡ take at t.trail.lits
  pub ends : u.count ≡ counted_to at u.state

module _ (p : List ℤ) (l : ℤ) (t : Search) where
  flipped : (i : ℕ) (x : ℤ) → take i (set (wiped (pos 0) t.trail.lits (i + 1) t.count) i x) ≡ take i t.trail.lits
  flipped i x = take-set-le i (wiped (pos 0) t.trail.lits (i + 1) t.count) i x (omega arith) ∙ wiped_before (pos 0) t.trail.lits (i + 1) t.count i (omega arith)

  pub cut_by : (rule : Rule) → Cut (kept_by rule t.count) t (apply p rule l t)
  unfolding apply
  cut_by (BacktrackExists i c) = record { before = flipped i _; ends = refl }
  cut_by (Fail c) = record { before = refl; ends = refl }
  cut_by (Unit x c) = record { before = take-set-le t.count t.trail.lits t.count x.0 (omega arith); ends = refl }
  cut_by (Monotone x) = record { before = take-set-le t.count t.trail.lits t.count x.0 (omega arith); ends = refl }
  cut_by (Decide x) = record { before = take-set-le t.count t.trail.lits t.count _ (omega arith); ends = refl }
  cut_by (BacktrackForall i) = record { before = flipped i _; ends = refl }
  cut_by Succeed = record { before = refl; ends = refl }

-- ---- the step
module _
    (b lits : List ℤ) (ks ws : List ℕ) (n : ℕ) (levels quantifiers stops index statuses ts os : List ℕ) (was : Bounds)
    (st : Standing b (memory lits ks ws) n levels quantifiers stops index statuses ts os was)
  where
    abbrev pub sought : Sought b ks n levels stops index statuses ts os was
    sought = record { lits = lits; on = st.on.on; told = st.tables.told; indexed = st.tables.indexed; now_set = st.now_set }

    module _
        {rule : Rule} {looked : Bounds}
        (f : (rule ≡ due (formula_of b) (record_of (trail lits ks) n)) × Counted (prefix_of b) (clauses_of b) (among (take n lits)) ts os looked)
      where
        pub step_tells : Tellable (length ws) n rule
        step_tells = rw f.0 (tellable st.on)

        pub step_within : {at : ℕ} → at ≡ kept_by rule n → at ≤ n
        step_within is = rw is (cut_within (prefix_of b) n rule (rw f.0 (fitting st.on.on)))

        abbrev pub taking : Taking lits n stops index quantifiers statuses ts os looked
        taking = record {
          p = prefix_of b;
          m = clauses_of b;
          ls = literals_of b;
          indexed = st.tables.indexed;
          once = once b st.on.on.block;
          bound = accepted_bound b st.on.on.block;
          tabled = st.tables.quantified;
          room = (kept_room st.on.on.kept).lits;
          named = λ i h. kept_named st.on.on.kept h;
          different = (kept_written (prefix_of b) (trail lits ks) n st.on.on.kept (prefix_few limits b st.on.on.block)).once;
          now_set = record { long = st.now_set.long; sorts = st.now_set.sorts; counted = f.1 };
        }

        module _
            {at : ℕ} (is : at ≡ kept_by rule n) {statuses₁ ts₁ os₁ : List ℕ} {b₁ : Bounds}
            (cut : SetFrom (prefix_of b) (clauses_of b) (among (take at lits)) ts os statuses₁ ts₁ os₁ b₁)
          where
            pub enacting : Enacting b (trail lits ks) n rule levels quantifiers statuses₁
            enacting = record {
              on = st.on.on;
              is = f.0;
              told = st.tables.told;
              quantified = st.tables.quantified;
              sorted = λ d. let z : at ≡ n = is ∙ decide_keeps rule n d in rw z at cut.now_set.sorts;
            }

            module _
                (preferred : List ℤ) {r : Reached} {lits' : List ℤ} {ks' : List ℕ}
                (a : reached r (trail lits' ks') ≡ apply (prefix_of b) rule (proposal_of (prefix_of b) (among (take n lits)) preferred rule) (search (trail lits ks) n Open))
              where
                step_led : reached r (trail lits' ks') ≡ advance (formula_of b) preferred (search (trail lits ks) n Open)
                step_led = advanced st.on.on preferred f.0 refl a

                step_kept : Kept (prefix_of b) (trail lits' ks') r.count
                unfolding formula_of
                step_kept = subst (λ (u : Search). KeptIn (prefix_of b) u) (sym step_led) (advance_keeps (formula_of b) preferred (search (trail lits ks) n Open) st.on.on.kept)

                pub step_cut : Cut at (search (trail lits ks) n Open) (reached r (trail lits' ks'))
                step_cut = rw (is, a) (cut_by (prefix_of b) _ (search (trail lits ks) n Open) rule)

                pub step_entrant : over r.state ≡ false → Entrant (prefix_of b) lits' at
                step_entrant e =
                    let z : r.count ≡ at + 1 = step_cut.ends ∙ rw e in
                    let room = (kept_room step_kept).lits in
                    record {
                      inside = omega arith;
                      named = kept_named step_kept (omega arith);
                      free = free_last lits' r.count at room (omega arith) (kept_written (prefix_of b) (trail lits' ks') r.count step_kept (prefix_few limits b st.on.on.block)).once;
                    }

                abbrev pub recounting : Recounting lits' at r.state stops index statuses₁ ts₁ os₁ b₁
                recounting = record {
                  p = prefix_of b;
                  m = clauses_of b;
                  ls = literals_of b;
                  indexed = st.tables.indexed;
                  once = once b st.on.on.block;
                  room = (accepted_bound b st.on.on.block).room;
                  now_set = rw step_cut.before cut.now_set;
                  entrant = step_entrant;
                }

                pub step_done : {ws' : List ℕ} {w : ℕ} → why ws' w ≡ told rule n ws → {statuses₂ ts₂ os₂ : List ℕ} {b₂ : Bounds}
                    → SetFrom (prefix_of b) (clauses_of b) (among (take (counted_to at r.state) lits')) ts₁ os₁ statuses₂ ts₂ os₂ b₂
                    → Advanced b (memory lits ks ws) n preferred ts os (memory lits' ks' ws') (record { reached = r; reason = w; bounds = b₂ }) statuses₂ ts₂ os₂
                step_done v s = record {
                  led = step_led;
                  tells = rw (← f.0) v;
                  now_set = rw step_cut.ends s.now_set;
                  rest = record { trues = s.rest.trues ∙ cut.rest.trues; opens = s.rest.opens ∙ cut.rest.opens };
                }
