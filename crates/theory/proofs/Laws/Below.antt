-- A record that is worth v, and all entries before its flipped kind with it: its entries at the levels below j, on their own, are worth v too.
-- The others are left out from the last to the first. One that Unit or Monotone forced is forced still when the later entries of lower
-- levels come before it; one that was open had all lower levels assigned before it, so that none of them comes later.
use Rattle.std.specs.Prelude.{◌≡◌, refl, Bool, true, false, not, cond, ◌&&◌, ◌||◌, ℕ, ◌≤◌, ◌<◌, ltb, eqb, ℤ, nat_abs}
use Rattle.std.proofs.Common.{sym, ◌∙◌, ap, arith, ltb-false}
use Rattle.std.proofs.Math.Logic.{inl, inr}
use Rattle.std.proofs.Math.Bool.{and-false}
use mathlib.Core.List.{List, [], ◌∷◌, ◌++◌}
use Rattle.std.proofs.Math.Dec.{ltb→lt}
use Rattle.words.specs.Laws.Bools.{look, eq→T, and_r, or_fl, or_fr, eqb_ne}
use Rattle.words.specs.Lists.{all}
use Rattle.words.specs.Words.{eq_z, mem}
use Rattle.words.specs.Laws.Words.{eq_z_eq}
use Rattle.formula.specs.Formula.{Formula, level}
use Rattle.formula.specs.Laws.Prefix.{stands, stands_e, existential_stands, level_var}
use Rattle.formula.specs.Proper.{Proper}
use Rattle.theory.specs.Record.{Entry, Record, literals, Assignment, true_in, assigned, without}
use Rattle.theory.specs.Tests.{is_open}
use Rattle.theory.specs.Witness.{below}
use Rattle.theory.proofs.Laws.Assignment.{put_comm, assigned_var, assigned_put}
use Rattle.theory.specs.Grown.{put, after}
use Rattle.theory.proofs.Laws.Value.{value_of}
use Rattle.theory.proofs.Laws.Tested.{still_unassigned, open_e, monotone_stands}
use Rattle.theory.specs.Met.{UnitAt, MonotoneAt}
use Rattle.theory.proofs.Laws.Decide.{Above}
use Rattle.theory.proofs.Laws.Forced.{unit_put, monotone_put, unit_law, monotone_law}
use Rattle.theory.proofs.Laws.Invariant.{Placed, chosen, by_unit, by_monotone, Carried, none, more, flipped, passed_up}

-- ---- what the entries below j make true: as the record does, at those levels
pub below_true : (p : List ℤ) (j : ℕ) (r : Record) (x : ℤ) → true_in (below p j r) x ≡ (true_in r x && ltb (level p x) j)
unfolding below literals mem
below_true p j [] x = refl
below_true p j (e ∷ r) x = go (ltb (level p e.literal) j) (eq_z x e.literal) refl refl (below_true p j r x)
  where
    same : eq_z x e.literal ≡ true → ltb (level p x) j ≡ ltb (level p e.literal) j
    same c = ap (λ (y : ℤ). ltb (level p y) j) (eq_z_eq x e.literal c)

    go : (b c : Bool) → ltb (level p e.literal) j ≡ b → eq_z x e.literal ≡ c → true_in (below p j r) x ≡ (true_in r x && ltb (level p x) j)
        → true_in (cond b (e ∷ below p j r) (below p j r)) x ≡ ((c || true_in r x) && ltb (level p x) j)
    go true true b c ih = rw (c, same c, b)
    go true false b c ih = rw c ih
    go false true b c ih = let z = same c ∙ b in ih ∙ rw (z, and-false (true_in r x))
    go false false b c ih = ih

-- ---- entries of variables of the prefix, each unassigned before its entry
pub data Fresh (p : List ℤ) : Assignment → Record → Type 0 where
  no_more : {ρ : Assignment} → Fresh p ρ []
  one_more : {ρ : Assignment} {e : Entry} {s : Record} → stands p e.literal ≡ true → assigned ρ e.literal ≡ false → Fresh p (put e.literal ρ) s → Fresh p ρ (e ∷ s)

placed_fresh : {F : Formula} {ρ : Assignment} {l : ℤ} {k : ℕ} → Placed F ρ l k → (stands F.prefix l ≡ true) × (assigned ρ l ≡ false)
placed_fresh {F} {ρ} {l} (chosen h) = let o = open_e F.prefix ρ l h in (o.bound, o.unset)
placed_fresh {F} {ρ} {l} (by_unit C i u) = (existential_stands F.prefix l u.exists, u.unset)
placed_fresh {F} {ρ} {l} (by_monotone u) = (monotone_stands F.prefix F.clauses l ρ u, u.unset)

-- so are those of a path, and any that are fresh after them
carried_fresh : {F : Formula} {ρ : Assignment} {s c : Record} → Carried F ρ s → Fresh F.prefix (after ρ s) c → Fresh F.prefix ρ (s ++ c)
unfolding after
carried_fresh none f = f
carried_fresh (more k ks) f = let (b, u) = placed_fresh k.placed in one_more b u (carried_fresh ks f)

after_put : (l : ℤ) (ρ : Assignment) (s : Record) → after (put l ρ) s ≡ put l (after ρ s)
unfolding after
after_put l ρ [] = refl
after_put l ρ (e ∷ s) = ap (λ (τ : Assignment). after τ s) (put_comm e.literal l ρ) ∙ after_put l (put e.literal ρ) s

-- ---- a fact that outlives the literals above l outlives the entries below j, l's level being j or more
module _ (P : List ℤ) (j : ℕ) (l : ℤ) (inner : j ≤ level P l) (Fact : Assignment → Type 0)
    (kept : (σ : Assignment) (y : ℤ) → Above P l σ y y → level P y < level P l → Fact σ → Fact (put y σ)) where
  -- ρ is what was true before the entries s, and σ leaves unassigned what ρ does
  stays : (ρ σ : Assignment) (s : Record) → Fresh P ρ s → ((x : ℤ) → assigned ρ x ≡ false → assigned σ x ≡ false) → Fact σ → Fact (after σ (below P j s))
  unfolding after below
  stays ρ σ [] no_more h f = f
  stays ρ σ (e ∷ s) (one_more b u fs) h f = elim (look (ltb (level P e.literal) j)) [
    | inl i ↦
        let d = ltb→lt (level P e.literal) j (eq→T i) in
        rw i (stays (put e.literal ρ) (put e.literal σ) s fs both (kept σ e.literal (above d) (omega arith) f))
    | inr i ↦ rw i (stays (put e.literal ρ) σ s fs (λ x a. h x (still_unassigned e.literal ρ x a)) f)
  ]
    where
      above : level P e.literal < j → Above P l σ e.literal e.literal
      above d = record {
        bound = b;
        higher = omega arith;
        group = λ z. absurd (omega arith);
        apart = eqb_ne _ _ (λ z. let k = level_var P e.literal l z in omega arith);
        unset = h e.literal u;
        own = refl;
      }

      both : (x : ℤ) → assigned (put e.literal ρ) x ≡ false → assigned (put e.literal σ) x ≡ false
      both x a = let z = rw (assigned_put e.literal ρ x) at a in
          rw (assigned_put e.literal σ x, or_fl (eqb (nat_abs e.literal) (nat_abs x)) (assigned ρ x) z) (h x (or_fr (eqb (nat_abs e.literal) (nat_abs x)) (assigned ρ x) z))

-- where l is open no variable of a lower level is unassigned
none_lower : (P : List ℤ) (ρ : Assignment) (l : ℤ) → is_open P ρ l ≡ true → (y : ℤ) → Above P l ρ y y → level P y < level P l → ⊥
none_lower P ρ l o y a d =
    let (w, i, z) = stands_e P y a.bound in
    let k = (open_e P ρ l o).lowest w i (sym (assigned_var ρ y w z) ∙ a.unset) in
    let e = level_var P y w z in omega arith

module _ (F : Formula) (ok : Proper F) (j : ℕ) (v : Bool) where
  -- ---- one entry l at level j or more, left out before the entries below j that come after it
  left_out : (ρ : Assignment) (s : Record) (l : ℤ) {k : ℕ} → Placed F ρ l k → Fresh F.prefix (put l ρ) s → j ≤ level F.prefix l → value_of F ρ ≡ v
      → value_of F (put l (after ρ (below F.prefix j s))) ≡ v → value_of F (after ρ (below F.prefix j s)) ≡ v
  left_out ρ s l c fs d before with = go c
    where
      go : {k : ℕ} → Placed F ρ l k → value_of F (after ρ (below F.prefix j s)) ≡ v
      go (chosen o) =
          ap (value_of F) (stays F.prefix j l d (λ σ. σ ≡ ρ) (λ σ y a b e. absurd (none_lower F.prefix ρ l o y (rw e at a) b)) (put l ρ) ρ s fs (still_unassigned l ρ) refl) ∙ before
      go (by_unit C i u) =
          unit_law F ok _ C i l (stays F.prefix j l d (UnitAt F.prefix C l) (λ σ y a b. unit_put F.prefix C l σ y y a) (put l ρ) ρ s fs (still_unassigned l ρ) u) ∙ with
      go (by_monotone u) =
          monotone_law F ok _ l (stays F.prefix j l d (MonotoneAt F.prefix F.clauses l) (λ σ y a b. monotone_put F.prefix F.clauses l σ y y a) (put l ρ) ρ s fs (still_unassigned l ρ) u)
          ∙ with

  -- ---- all of them, with any fresh entries c below j after the record
  module _ (c : Record) (low : below F.prefix j c ≡ c) where
    pub leave_out : (ρ : Assignment) (s : Record) → Carried F ρ s → Fresh F.prefix (after ρ s) c → without (flipped v) s ≡ true
        → value_of F (after ρ s) ≡ v → value_of F (after ρ (s ++ c)) ≡ v → value_of F (after ρ (below F.prefix j (s ++ c))) ≡ v
    unfolding after below without all
    leave_out ρ [] none f h w u = rw low u
    leave_out ρ (e ∷ s) (more k ks) f h w u =
        let z = leave_out (put e.literal ρ) s ks f (and_r (not (eqb e.kind (flipped v))) (without (flipped v) s) h) w u in
        elim (look (ltb (level F.prefix e.literal) j)) [
          | inl b ↦ rw b z
          | inr b ↦ rw b (left_out ρ (s ++ c) e.literal k.placed (carried_fresh ks f) (ltb-false (level F.prefix e.literal) j b)
              (passed_up F v ρ (e ∷ s) (more k ks) h w) (rw (after_put e.literal ρ (below F.prefix j (s ++ c))) at z))
        ]
