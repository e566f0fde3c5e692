-- [counted] A counted run is a run: accepted, it answers what a run answers and leaves a run's memory. [table.leaves] [demand.1.leaves] Refused, it leaves
-- everything. By the two cases of the number, 0 and not 0.
use Rattle.std.proofs.Math.Path.{◌≡◌, refl, sym, ap}
use Rattle.std.specs.Prelude.{List, ℤ, Result, Ok}
use Prim.Native.Nat.{ℕ, zero, suc}
use Rattle.std.proofs.Common.{arith}
use Rattle.words.specs.declared.Refusal.{Refusal}
use Rattle.words.specs.Outcomes.{Outcome, unless, refused, refused_told, ok_none, Left}
use Rattle.formula.specs.Limits.{Limits}
use Rattle.formula.specs.Formula.{formula_of}
use Rattle.record.specs.Trail.{record_of}
use Rattle.session.specs.declared.Revision.{Revision}
use Rattle.session.specs.declared.Session.{Session}
use Rattle.session.specs.declared.Ran.{Ran}
use Rattle.memory.specs.Memory.{Memory}
use Rattle.session.specs.Run.{run_of, run_to}
use Rattle.counted.specs.Lent.{Lent}
use Rattle.counted.specs.Refusals.{counted_refusal}
use Rattle.counted.specs.Counted.{trues_of, opens_of, laid, entries_of, accepted, counted_of}
use Rattle.counted.proofs.Laws.Guards.{passes}

module _ (L : Limits) (s : Session) (b : List ℤ) (w : Lent) (seen : Revision) (budget : ℕ) (preferred : List ℤ) where
  abbrev plain : Outcome Memory (Result Ran Refusal)
  plain = run_of L s b w.memory seen budget preferred

  -- an accepted one is accepted as a run
  answers : counted_refusal L s b w seen budget ≡ 0 → (n : ℕ) → plain.answer ≡ refused n → ⊥
  unfolding run_of
  answers e n a = let p = passes L s b w seen budget e in ok_none _ n (rw p.run at a)

  pub counted_is_run : (s' : Session) (c k : ℕ) → let o = counted_of L s b w seen budget preferred in
      o.answer ≡ Ok (run_to s' c k) → (plain.answer ≡ Ok (run_to s' c k)) × (o.memory.memory ≡ plain.memory)
  unfolding counted_of
  counted_is_run s' c k = go (counted_refusal L s b w seen budget)
    where
      go : (n : ℕ) → let o = unless refused n w (accepted L s b w seen budget preferred) in o.answer ≡ Ok (run_to s' c k) → (plain.answer ≡ Ok (run_to s' c k)) × (o.memory.memory ≡ plain.memory)
      go zero a = (a, refl)
      go (suc n) a = let z : ◌≡◌ {A = ℕ} 0 1 = cc in absurd (omega arith)

  -- [counted.trues] [counted.opens] and it leaves the fresh count of each clause, under the record that the answered session has
  pub counted_numbers : (s' : Session) (c k : ℕ) → let o = counted_of L s b w seen budget preferred in
      o.answer ≡ Ok (run_to s' c k) → let r = record_of o.memory.memory.trail s'.length in
      (o.memory.trues ≡ laid (trues_of (formula_of b) r) w.trues) × (o.memory.opens ≡ laid (opens_of (formula_of b) r) w.opens)
  unfolding counted_of
  counted_numbers s' c k = go (counted_refusal L s b w seen budget)
    where
      go : (n : ℕ) → let o = unless refused n w (accepted L s b w seen budget preferred) in o.answer ≡ Ok (run_to s' c k) → let r = record_of o.memory.memory.trail s'.length in
          (o.memory.trues ≡ laid (trues_of (formula_of b) r) w.trues) × (o.memory.opens ≡ laid (opens_of (formula_of b) r) w.opens)
      go zero a = let z : entries_of plain.answer ≡ s'.length = ap entries_of a in rw z (refl, refl)
      go (suc n) a = let z : ◌≡◌ {A = ℕ} 0 1 = cc in absurd (omega arith)

  pub counted_refused_leaves : (n : ℕ) → let o = counted_of L s b w seen budget preferred in
      o.answer ≡ refused n → Left (counted_refusal L s b w seen budget) n w o.memory
  unfolding counted_of
  counted_refused_leaves n = go (counted_refusal L s b w seen budget) answers
    where
      go : (k : ℕ) → (k ≡ 0 → (n : ℕ) → plain.answer ≡ refused n → ⊥) → let o = unless refused k w (accepted L s b w seen budget preferred) in o.answer ≡ refused n → Left k n w o.memory
      go zero f a = absurd (f refl n a)
      go (suc k) f a = record { number = sym (refused_told (suc k) n a); memory = refl }
