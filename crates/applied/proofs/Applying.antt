-- One rule applied, in the words of the code: a cut, the literal of a decision and its kind, and the place of each move.
use Prim.Native.Nat.{ℕ, ◌+◌, ◌≤◌, ◌<◌}
use mathlib.Core.Path.{◌≡◌}
use mathlib.Core.List.{List}
use native.Mathlib.Omega.{arith}
use borrow.Author.Tests.{ne_eqb}
use lib.ListN.{length, get_or}
use Rattle.record.specs.Trail.{Trail, put, wiped_trail}
use Rattle.applied.specs.Inner.Fits.{Cuttable, MoveFits, Fitting}
use mathlib.Core.Bool.{cond}
use lib.Dec.{eqb}
use lib.IntN.{ℤ, pos, nat_abs}
use Rattle.words.specs.Words.{opposite}
use Rattle.words.specs.Laws.Words.{opposite_is}
use Rattle.formula.specs.Limits.{limits}
use Rattle.formula.specs.Laws.Limits.{variables_small}
use Rattle.theory.specs.Record.{entry}
use Rattle.record.specs.Search.{search}
use Rattle.applied.specs.Apply.{flip, kind_of, move_of}
use Rattle.record.specs.Inner.Tables.{Quantifiers}
use Rattle.record.specs.Inner.Ready.{Bound, Kept}
use Rattle.record.proofs.Laws.Filled.{quantifier_in}
use Rattle.record.proofs.Laws.Records.{kept_room, kept_named}
use Rattle.record.specs.declared.rule.State.TheVariants.{Open}
use Rattle.record.specs.declared.rule.Rule.{Rule}
use Rattle.record.specs.declared.rule.Rule.TheVariants.{BacktrackExists, Fail, Unit, Monotone, Decide, BacktrackForall, Succeed}

-- a variable is far from the least word, so an entry's literal has an opposite
pub cuttable : {p : List ℤ} {t : Trail} {n i : ℕ} → Kept p t n → length p ≤ limits.variables → i < n → Cuttable i n t
cuttable k few h =
    let e = kept_named k h in
    record { inside = h; room = kept_room k; small = omega (arith, variables_small, few, e.most) }

-- a cut: the rest is set to 0, and the opposite x stands at its place
pub flipped : {i n : ℕ} {t : Trail} → Cuttable i n t → {t' : Trail} {x : ℤ} → t' ≡ wiped_trail t (i + 1) n → x ≡ opposite (get_or t.lits i (pos 0)) → search (put t' i (entry 0 x)) (i + 1) Open ≡ flip i (search t n Open)
flipped {i} {n} {t} h w e = rw (w, e, opposite_is (get_or t.lits i (pos 0)) h.small)

-- its kind: the table says it, of a variable past the last one too
module _ (p : List ℤ) (b : Bound p) (l : ℤ) (t : List ℕ) (said : Quantifiers p t) (v : ℕ) (is : v ≡ nat_abs l) where
  kind_by : cond (eqb (get_or t v 0) 2) 2 1 ≡ kind_of p l
  kind_by = rw (is, quantifier_in p b t said l)

  pub kind_two : get_or t v 0 ≡ 2 → 2 ≡ kind_of p l
  kind_two e = rw (← kind_by, e)

  pub kind_one : (get_or t v 0 ≡ 2 → ⊥) → 1 ≡ kind_of p l
  kind_one k = rw (← kind_by, ne_eqb (get_or t v 0) 2 k)

-- whatever the proposal, a rule that fits makes a move that does
pub fitting : (p : List ℤ) (n : ℕ) (rule : Rule) (l : ℤ) → Fitting p n rule → MoveFits p n (move_of p rule l)
fitting p n (BacktrackExists i c) l h = h
fitting p n (Fail c) l h = h
fitting p n (Unit x c) l h = h
fitting p n (Monotone x) l h = h
fitting p n (Decide x) l h = h
fitting p n (BacktrackForall i) l h = h
fitting p n Succeed l h = h
