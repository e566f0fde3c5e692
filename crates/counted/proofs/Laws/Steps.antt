-- What joins the steps of a counted run: checked clauses, a bound raised by a look, a record with one entry more.
use Prim.Native.Nat.{ℕ, zero, suc, ◌+◌, ◌≤◌, ◌<◌}
use Rattle.std.proofs.Math.Path.{◌≡◌}
use Rattle.std.specs.Prelude.{◌⊎◌, Bool, true, ℤ, pos, nat_abs, length, get_or, Some, None}
use Rattle.std.proofs.Common.{inl, inr, arith, length-take, length-drop}
use Rattle.std.proofs.Math.Bool.{false}
use mathlib.Core.List.{List, [], ◌∷◌}
use Rattle.words.specs.Lists.{In, any, here, there}
use Rattle.words.specs.Laws.Bools.{look}
use Rattle.words.specs.Laws.Lists.{in_at, any_none, at_in}
use Rattle.formula.specs.Limits.{limits}
use Rattle.formula.specs.Formula.{clauses_from}
use Rattle.formula.specs.Block.{repeats}
use Rattle.formula.specs.Laws.Clauses.{clauses_in}
use Rattle.theory.specs.Record.{Assignment}
use Rattle.clauses.specs.Lowest.{lowest}
use Rattle.rules.specs.Due.{is_unit}
use Rattle.clauses.proofs.Laws.Lowest.{lowest_none}
use Rattle.counted.specs.Inner.Index.{Few}
use Rattle.counted.specs.Inner.State.{AllOnce, Counted}
use Rattle.counted.specs.declared.walk.Bounds.{Bounds}

-- ---- checked clauses, in which no literal stands twice
clause_short : (ls : List ℤ) (from : ℕ) (es : List ℤ) {C : List ℤ} → In C (clauses_from ls from es) → length C ≤ length ls
unfolding clauses_from
clause_short ls from (e ∷ es) (here q) = rw q (simp (length-take, length-drop) (omega arith))
clause_short ls from (e ∷ es) (there i) = clause_short ls (nat_abs e) es i
clause_short ls from [] {C = C} x' = elim x' [ ]

pub all_once : (es ls : List ℤ) → Few es ls → any repeats (clauses_from ls 0 es) ≡ false → AllOnce (clauses_from ls 0 es)
all_once es ls f h C i = record {
  once = any_none repeats (clauses_from ls 0 es) h i;
  placed = λ j. small (clauses_in ls 0 es i j);
  short = omega (arith, clause_short ls 0 es i, f.few_literals);
}
  where
    small : {x : ℤ} → In x ls → nat_abs x ≤ limits.variables
    small {x} j = let r = at_in (pos 0) j in rw (← r.2) (f.clauses.placed r.0)

-- ---- what a search says of the clauses before what it found
module _ {A : Type 0} (f : A → Bool) (d : A) where
  pub below_found : (n c : ℕ) (m : List A) → lowest f n m ≡ Some c → (k : ℕ) → n + k < c → f (get_or m k d) ≡ false
  unfolding lowest
  below_found n c [] e k h = let z : ◌≡◌ {A = ℕ} 0 1 = cc in absurd (omega arith)
  below_found n c (x ∷ m) e k h = by (look (f x)) k h (below_found (suc n) c m)
    where
      by : (f x ≡ true) ⊎ (f x ≡ false) → (k : ℕ) → n + k < c → (lowest f (suc n) m ≡ Some c → (k : ℕ) → suc n + k < c → f (get_or m k d) ≡ false) → f (get_or (x ∷ m) k d) ≡ false
      by (inl t) k h ih = let z : Some n ≡ Some c = rw t at e in let y : n ≡ c = cc in absurd (omega arith)
      by (inr t) zero h ih = t
      by (inr t) (suc k) h ih = ih (rw t at e) k (omega arith)

  pub none_found : (n : ℕ) (m : List A) → lowest f n m ≡ None → (k : ℕ) → k < length m → f (get_or m k d) ≡ false
  none_found n m e k h = any_none f m (lowest_none f n m e) (in_at m k d h)

-- ---- the bound of the unit clauses rises to what the look found, or to the number of clauses
module _ (p : List ℤ) (m : List (List ℤ)) (ρ : Assignment) (ts os : List ℕ) (b b' : Bounds) (s : Counted p m ρ ts os b) (same : b'.conflict ≡ b.conflict) where
  pub unit_raised : b'.unit ≤ length m → ((k : ℕ) → k < b'.unit → is_unit p ρ (get_or m k []) ≡ false) → Counted p m ρ ts os b'
  unit_raised h n = record {
    trues_room = s.trues_room;
    opens_room = s.opens_room;
    numbers = s.numbers;
    conflict_most = omega (arith, s.conflict_most);
    conflict = λ c k. s.conflict c (omega arith);
    unit_most = h;
    unit = n;
  }
