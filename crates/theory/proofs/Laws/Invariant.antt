-- What every record on a path keeps, over its start: each later entry carries the value before it. A forced entry: as much as with the entry.
-- A decision: what its quantifier asks of the entry and its opposite. From the laws; a backtrack goes up from what is known at the record's
-- end to the last decision of its kind, and there only the opposite can matter.
use Rattle.std.specs.Prelude.{◌≡◌, refl, Bool, not, ℕ, zero, suc, ℤ, neg_ℤ}
use Rattle.std.proofs.Common.{sym, ◌∙◌}
use Rattle.std.proofs.Math.Path.{ap}
use Rattle.std.proofs.Math.Bool.{true, false}
use mathlib.Core.List.{List, [], ◌∷◌, ◌++◌, append-nil, append_assoc}
use Rattle.std.proofs.Math.Dec.{eqb}
use Rattle.words.specs.Laws.Bools.{clash, and_l, and_r, not_t}
use Rattle.words.specs.Lists.{In, all}
use Rattle.words.specs.Laws.Lists.{past, all_append}
use Rattle.formula.specs.Formula.{Formula}
use Rattle.formula.specs.Laws.Prefix.{existential_universal}
use Rattle.formula.specs.Proper.{Proper}
use Rattle.formula.specs.Truth.{asked}
use Rattle.theory.specs.Record.{Entry, entry, Record, Assignment, true_in, without, forced}
use Rattle.theory.specs.Tests.{is_open}
use Rattle.theory.specs.Rules.{State, going, valid, unsat, MonotoneTest, Within, StepBy, backtrack_exists, fail, unit, monotone, decide_exists, decide_forall, backtrack_forall, succeed, PathBy, stop, take}
use Rattle.theory.proofs.Laws.Assignment.{true_append}
use Rattle.theory.specs.Grown.{put, after}
use Rattle.theory.proofs.Laws.Value.{value_of}
use Rattle.theory.proofs.Laws.Tested.{unit_e, open_neg, monotone_e}
use Rattle.theory.specs.Met.{UnitAt, MonotoneAt}
use Rattle.theory.proofs.Laws.Decide.{decide_law}
use Rattle.theory.proofs.Laws.Conflict.{conflict_law, leaf_law}
use Rattle.theory.proofs.Laws.Forced.{unit_law, monotone_law}

-- what a record is worth before an entry of a kind: x with the entry, y with its opposite
unfoldable pub worth : ℕ → Bool → Bool → Bool
worth zero x y = x
worth (suc zero) x y = asked false x y
worth (suc (suc zero)) x y = asked true x y
worth (suc (suc (suc k))) x y = x

-- why a literal of a kind stands where it does: it was open there, or Unit or Monotone forced it
pub data Placed (F : Formula) (ρ : Assignment) (l : ℤ) : ℕ → Type 0 where
  chosen : {k : ℕ} → is_open F.prefix ρ l ≡ true → Placed F ρ l k
  by_unit : (C : List ℤ) → In C F.clauses → UnitAt F.prefix C l ρ → Placed F ρ l 0
  by_monotone : MonotoneAt F.prefix F.clauses l ρ → Placed F ρ l 0

-- a decision was open, and so was its opposite
placed_flip : {F : Formula} {ρ : Assignment} {l : ℤ} {k : ℕ} → eqb k 0 ≡ false → Placed F ρ l k → Placed F ρ (neg_ℤ l) 0
placed_flip {F} {ρ} {l} d (chosen h) = chosen (open_neg F.prefix ρ l h)
placed_flip d (by_unit C i u) = clash refl d
placed_flip d (by_monotone u) = clash refl d

-- an entry, put in at ρ, carries the value at ρ; how it was placed is kept for what an ended record shows
pub record Carries (F : Formula) (ρ : Assignment) (e : Entry) : Type 0 where
  pub value : value_of F ρ ≡ worth e.kind (value_of F (put e.literal ρ)) (value_of F (put (neg_ℤ e.literal) ρ))
  pub placed : Placed F ρ e.literal e.kind

-- so does each entry of a list, put in after those before it
pub data Carried (F : Formula) : Assignment → Record → Type 0 where
  none : {ρ : Assignment} → Carried F ρ []
  more : {ρ : Assignment} {e : Entry} {s : Record} → Carries F ρ e → Carried F (put e.literal ρ) s → Carried F ρ (e ∷ s)

-- r is the start r0 and later entries that carry
pub record Invariant (F : Formula) (r0 r : Record) : Type 0 where
  pub later : Record
  pub whole : r ≡ r0 ++ later
  pub carried : Carried F (true_in r0) later

-- what holds of a state on a path from r0: the invariant, or the answer is that of the start
abbrev pub Holds : Formula → Record → State → Type 0
Holds F r0 (going r) = Invariant F r0 r
Holds F r0 valid = value_of F (true_in r0) ≡ true
Holds F r0 unsat = value_of F (true_in r0) ≡ false

carried_snoc : (F : Formula) (ρ : Assignment) (s : Record) (e : Entry) → Carried F ρ s → Carries F (after ρ s) e → Carried F ρ (s ++ e ∷ [])
unfolding after
carried_snoc F ρ [] e none h = more h none
carried_snoc F ρ (x ∷ s) e (more k ks) h = more k (carried_snoc F (put x.literal ρ) s e ks h)

-- ---- going back from a record worth v
-- the kind of the decisions that are flipped: existential ones at false, universal ones at true
abbrev pub flipped : Bool → ℕ
flipped false = 1
flipped true = 2

-- entries of other kinds pass v up; one of this kind hands the question to its opposite
passes : (v : Bool) (j : ℕ) (y : Bool) → eqb j (flipped v) ≡ false → worth j v y ≡ v
unfolding worth asked
passes v zero y h = refl
passes false (suc zero) y h = clash refl h
passes true (suc zero) y h = refl
passes false (suc (suc zero)) y h = refl
passes true (suc (suc zero)) y h = clash refl h
passes v (suc (suc (suc j))) y h = refl

hands : (v y : Bool) → worth (flipped v) v y ≡ y
unfolding worth asked
hands false y = refl
hands true y = refl

decision : (v : Bool) → eqb (flipped v) 0 ≡ false
decision false = refl
decision true = refl

module _ (F : Formula) (v : Bool) where
  -- with no entry of the kind the worth at the end is the worth at the start
  pub passed_up : (ρ : Assignment) (s : Record) → Carried F ρ s → without (flipped v) s ≡ true → value_of F (after ρ s) ≡ v → value_of F ρ ≡ v
  unfolding after without all
  passed_up ρ [] none h w = w
  passed_up ρ (e ∷ s) (more c ks) h w =
      let z = passed_up (put e.literal ρ) s ks (and_r (not (eqb e.kind (flipped v))) (without (flipped v) s) h) w in
      c.value ∙ rw z (passes v e.kind _ (not_t (eqb e.kind (flipped v)) (and_l (not (eqb e.kind (flipped v))) (without (flipped v) s) h)))

  -- at the last one the opposite, forced, carries the value before it
  flip : (ρ : Assignment) (a b : Record) (l : ℤ) → Carried F ρ (a ++ entry (flipped v) l ∷ b) → without (flipped v) b ≡ true
      → value_of F (after ρ (a ++ entry (flipped v) l ∷ b)) ≡ v → Carried F ρ (a ++ entry 0 (neg_ℤ l) ∷ [])
  unfolding after worth
  flip ρ [] b l (more c ks) h w = more {e = entry 0 (neg_ℤ l)} (record { value = c.value ∙ rw (passed_up (put l ρ) b ks h w) (hands v _); placed = placed_flip (decision v) c.placed }) none
  flip ρ (x ∷ a) b l (more c ks) h w = more c (flip (put x.literal ρ) a b l ks h w)

-- ---- the invariant, rule by rule
module _ (F : Formula) (r0 : Record) where
  -- what the record makes true, entry after entry
  true_now : {r : Record} (i : Invariant F r0 r) → true_in r ≡ after (true_in r0) i.later
  true_now i = ap true_in i.whole ∙ true_append r0 i.later

  -- the start
  pub invariant_start : Invariant F r0 r0
  invariant_start = record { later = []; whole = sym (append-nil r0); carried = none }

  -- one more entry
  invariant_grow : {r : Record} (e : Entry) → Invariant F r0 r → Carries F (true_in r) e → Invariant F r0 (r ++ e ∷ [])
  invariant_grow {r} e i h = record {
    later = i.later ++ e ∷ [];
    whole = ap (λ (s : Record). s ++ e ∷ []) i.whole ∙ append_assoc r0 i.later (e ∷ []);
    carried = carried_snoc F (true_in r0) i.later e i.carried (rw (true_now i) at h);
  }

  module _ (start : forced r0 ≡ true) (v : Bool) where
    -- the start has no decision, so the cut is past it
    invariant_cut : {r : Record} (a b : Record) (l : ℤ) → Invariant F r0 r → r ≡ a ++ entry (flipped v) l ∷ b → without (flipped v) b ≡ true → value_of F (true_in r) ≡ v
        → Invariant F r0 (a ++ entry 0 (neg_ℤ l) ∷ [])
    unfolding forced
    invariant_cut a b l i e h w =
        let (c, ea, es) = past (λ x. eqb x.kind 0) r0 i.later a b (entry (flipped v) l) start (decision v) (sym i.whole ∙ e) in
        record {
          later = c ++ entry 0 (neg_ℤ l) ∷ [];
          whole = ap (λ (s : Record). s ++ entry 0 (neg_ℤ l) ∷ []) ea ∙ append_assoc r0 c (entry 0 (neg_ℤ l) ∷ []);
          carried = flip F v (true_in r0) c b l (rw es at i.carried) h (rw (true_now i, es) at w);
        }

    invariant_end : {r : Record} → Invariant F r0 r → without (flipped v) r ≡ true → value_of F (true_in r) ≡ v → value_of F (true_in r0) ≡ v
    unfolding without
    invariant_end i h w =
        passed_up F v (true_in r0) i.later i.carried (and_r (without (flipped v) r0) (without (flipped v) i.later) (rw (i.whole, all_append) at h)) (rw (true_now i) at w)

  module _ {μ : MonotoneTest} (within : Within μ) (ok : Proper F) (start : forced r0 ≡ true) where
    -- each rule keeps it
    pub holds_step : {r : Record} {s : State} → Invariant F r0 r → StepBy μ F r s → Holds F r0 s
    unfolding worth
    holds_step {r} i (backtrack_exists c a b l e h) = invariant_cut start false a b l i e h (conflict_law F (true_in r) ok c)
    holds_step {r} i (fail c h) = invariant_end start false i h (conflict_law F (true_in r) ok c)
    holds_step {r} i (unit q C j l h) =
        let u = unit_e F.prefix (true_in r) C l h in
        invariant_grow (entry 0 l) i (record { value = unit_law F ok (true_in r) C j l u; placed = by_unit C j u })
    holds_step {r} i (monotone q l h) =
        let u = monotone_e F.prefix F.clauses (true_in r) l (within.wide F.prefix F.clauses (true_in r) l h) in
        invariant_grow (entry 0 l) i (record { value = monotone_law F ok (true_in r) l u; placed = by_monotone u })
    holds_step {r} i (decide_exists q l o e) =
        invariant_grow (entry 1 l) i (record { value = rw (existential_universal ok l e) at (decide_law F ok (true_in r) l o); placed = chosen o })
    holds_step {r} i (decide_forall q l o e) = invariant_grow (entry 2 l) i (record { value = rw e at (decide_law F ok (true_in r) l o); placed = chosen o })
    holds_step {r} i (backtrack_forall q f a b l e h) = invariant_cut start true a b l i e h (leaf_law F (true_in r) q f)
    holds_step {r} i (succeed q f h) = invariant_end start true i h (leaf_law F (true_in r) q f)

    -- and so does each path
    pub holds_path : {n : ℕ} {s t : State} → Holds F r0 s → PathBy μ F n s t → Holds F r0 t
    holds_path h stop = h
    holds_path h (take s p) = holds_path (holds_step h s) p
