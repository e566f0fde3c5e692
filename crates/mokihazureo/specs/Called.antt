-- A call from another language: numbers in; a status, and the answer's numbers in a lent array, out. The calls themselves are those of the
-- crates below, by the same definitions.
use Rattle.std.specs.Prelude.{ℕ, List, ℤ}
use Rattle.words.specs.Outcomes.{Outcome, outcome}
use Rattle.formula.specs.Limits.{Limits}
use Rattle.record.specs.Found.{literal}
use Rattle.session.specs.declared.Revision.{Revision}
use Rattle.session.specs.declared.Session.{Session}
use Rattle.record.specs.Trail.{Trail}
use Rattle.memory.specs.Memory.{Memory}
use Rattle.session.specs.Outcome.{open_outcome, step_outcome}
use Rattle.session.specs.Run.{run_of}
use Rattle.counted.specs.Lent as counted
use Rattle.counted.specs.Counted.{counted_of}
use Rattle.listing.specs.Page.{PageMemory, page_of}
use Rattle.shown.specs.Shown.{shown_of}
use Rattle.plain.specs.Solve.{solve_of}
use Rattle.writer.specs.Write.{write_of}
use Rattle.answers.specs.Answers.{telling, opened_status, opened_numbers, stepped_status, stepped_numbers, ran_status, ran_numbers, paged_status, paged_numbers, showed_status, showed_numbers, solved_status, solved_numbers, wrote_status, wrote_numbers}

-- what is lent: the call's own memory, and the array for the answer's numbers
pub record Lent (M : Type 0) : Type 0 where
  pub memory : M
  pub answer : List ℕ

abbrev pub lent : {M : Type 0} → M → List ℕ → Lent M
lent m a = record { memory = m; answer = a }

-- what the call below leaves, its answer told by a status and by numbers in the array's first places
abbrev pub told : {M A : Type 0} → (A → ℕ) → (A → List ℕ) → List ℕ → Outcome M A → Outcome (Lent M) ℕ
told status numbers a o = let t = telling status numbers a o.answer in outcome t.answer (lent o.memory t.memory)

abbrev pub revision : ℕ → Revision
revision n = record { 0 = n }

-- ---- opening: status 0 and the session's numbers, or the refusal's number and none
abbrev pub open_call : Limits → List ℤ → Memory → ℕ → List ℕ → Outcome (Lent Memory) ℕ
open_call L b m first a = told opened_status opened_numbers a (open_outcome L b m (revision first))

-- ---- a step: its reason is a fourth number
abbrev pub step_call : Limits → Session → List ℤ → Memory → ℕ → ℤ → List ℕ → Outcome (Lent Memory) ℕ
step_call L s b m seen l a = told stepped_status stepped_numbers a (step_outcome L s b m (revision seen) (literal l))

-- ---- a run: the count of accepted steps is a fourth number, and the last one's reason a fifth
abbrev pub run_call : Limits → Session → List ℤ → Memory → ℕ → ℕ → List ℤ → List ℕ → Outcome (Lent Memory) ℕ
run_call L s b m seen budget preferred a = told ran_status ran_numbers a (run_of L s b m (revision seen) budget preferred)

-- ---- [calls.counted] a counted run: as a run's
abbrev pub counted_call : Limits → Session → List ℤ → counted.Lent → ℕ → ℕ → List ℤ → List ℕ → Outcome (Lent counted.Lent) ℕ
counted_call L s b w seen budget preferred a = told ran_status ran_numbers a (counted_of L s b w (revision seen) budget preferred)

-- ---- a page: where the next one begins, the entries written, and 1 for paused, else 0
abbrev pub page_call : Limits → List ℤ → PageMemory → ℕ → List ℤ → ℕ → List ℕ → Outcome (Lent PageMemory) ℕ
page_call L b m start preferred budget a = told paged_status paged_numbers a (page_of L b m start preferred budget)

-- ---- [calls.shown] what an ended session shows, and how many values that is; t is the record in its buffers, which are only read
abbrev pub shown_call : Limits → Session → List ℤ → Trail → List ℤ → List ℕ → Outcome (Lent (List ℤ)) ℕ
shown_call L s b t o a = told showed_status showed_numbers a (shown_of L s b t o)

-- ---- [calls.plain] a second opinion, which is lent no other memory: the number of the state that it tells
abbrev pub plain_call : Limits → List ℤ → List ℕ → Outcome (List ℕ) ℕ
plain_call L b a = telling solved_status solved_numbers a (solve_of L b)

-- ---- [calls.write] a block written as a text: status 0 and the text's length, or the refusal's number and none
abbrev pub write_call : Limits → List ℤ → List ℕ → List ℕ → Outcome (Lent (List ℕ)) ℕ
write_call L b o a = told wrote_status wrote_numbers a (write_of L b o)
