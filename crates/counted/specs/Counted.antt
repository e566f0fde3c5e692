-- [counted] A counted run: it answers and leaves what a run does, and the numbers of the clauses under the record that it leaves.
use Rattle.std.specs.Prelude.{ℕ, zero, suc, List, ◌++◌, map, ℤ, length, drop, Result, Ok, Err}
use Rattle.words.specs.declared.Refusal.{Refusal}
use Rattle.words.specs.Outcomes.{Outcome, outcome, unless, refused}
use Rattle.formula.specs.Limits.{Limits}
use Rattle.formula.specs.Formula.{Formula, formula_of}
use Rattle.theory.specs.Record.{Record, true_in}
use Rattle.record.specs.Trail.{record_of}
use Rattle.session.specs.declared.Revision.{Revision}
use Rattle.session.specs.declared.Session.{Session}
use Rattle.session.specs.declared.Ran.{Ran}
use Rattle.memory.specs.Memory.{Memory}
use Rattle.session.specs.Run.{run_of}
use Rattle.counted.specs.Fresh.{trues, opens}
use Rattle.counted.specs.Lent.{Lent, lent}
use Rattle.counted.specs.Refusals.{index_places, counted_refusal}

-- [counted.trues] of each clause the true literals, under a record
abbrev pub trues_of : Formula → Record → List ℕ
trues_of F r = map (trues (true_in r)) F.clauses

-- [counted.opens] and the unassigned existential ones
abbrev pub opens_of : Formula → Record → List ℕ
opens_of F r = map (opens F.prefix (true_in r)) F.clauses

-- numbers in a buffer's first places: the others stay
abbrev pub laid : List ℕ → List ℕ → List ℕ
laid ns xs = ns ++ drop (length ns) xs

-- how many entries a run leaves
abbrev pub entries_of : Result Ran Refusal → ℕ
entries_of (Ok r) = r.session.length
entries_of (Err e) = 0

-- what is left where a run leaves the memory m and n entries: [counted.index] of the index what no one has written
abbrev pub left : List ℤ → Lent → Memory → ℕ → Lent
left b w m n =
    let r = record_of m.trail n in
    lent m (laid (trues_of (formula_of b) r) w.trues) (laid (opens_of (formula_of b) r) w.opens) (drop (index_places b) w.index)

module _ (L : Limits) (s : Session) (b : List ℤ) (w : Lent) (seen : Revision) (budget : ℕ) (preferred : List ℤ) where
  -- a run's answer and memory, and the numbers
  abbrev pub accepted : Outcome Lent (Result Ran Refusal)
  accepted = let o = run_of L s b w.memory seen budget preferred in outcome o.answer (left b w o.memory (entries_of o.answer))

  -- [table.leaves] else the number, and all as it was
  unfoldable pub counted_of : Outcome Lent (Result Ran Refusal)
  counted_of = unless refused (counted_refusal L s b w seen budget) w accepted

-- [counted.index] how many places of the index may have been written: none by a call that is refused with a number
abbrev pub used_by : ℕ → List ℤ → ℕ
used_by zero b = index_places b
used_by (suc n) b = 0
