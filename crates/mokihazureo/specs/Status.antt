-- The status of a call is the number of its table, 0 exactly if it is accepted; and with another status every lent buffer, the answer's array among
-- them, is as it was. By the two cases of the number, 0 and not 0. Reading a text is the exception: with another status its output is 0.
use Rattle.std.specs.Prelude.{◌≡◌, refl, ◌⊎◌, Bool, List, [], ℕ, zero, suc, ℤ, length, Ok}
use Rattle.std.proofs.Common.{ap, inl, inr, suc-ne-zero}
use Rattle.std.proofs.lemmas.List.Edits.{sets}
use Rattle.words.specs.Outcomes.{Outcome, outcome, unless, refused}
use Rattle.formula.specs.Limits.{Limits}
use Rattle.formula.specs.Formula.{formula_of}
use Rattle.formula.specs.Truth.{true?}
use Rattle.session.specs.declared.Session.{Session}
use Rattle.memory.specs.Memory.{Memory, places}
use Rattle.memory.specs.Refusals.{open_refusal}
use Rattle.session.specs.Refusals.{step_refusal, run_refusal}
use Rattle.session.specs.Outcome.{open_outcome, step_outcome}
use Rattle.session.specs.Run.{run_of}
use Rattle.counted.specs.Lent as counted
use Rattle.counted.specs.Refusals.{counted_refusal}
use Rattle.counted.specs.Counted.{counted_of}
use Rattle.counted.proofs.Laws.Guards.{passes}
use Rattle.record.specs.Found.{literal}
use Rattle.listing.specs.Page.{PageMemory, page_refusal, page_of}
use Rattle.record.specs.Trail.{Trail}
use Rattle.shown.specs.Shown.{shown_refusal, shown_of}
use Rattle.plain.specs.Solve.{plain_refusal, opinion_of, solve_of}
use Rattle.grammar.specs.Reads.{Read, spelled, misfit, reads}
use Rattle.text.specs.Tree.{Reading, text_refused, block_refused, zeros, text_refusal, row_of, text_of, answered, read_of}
use Rattle.text.proofs.Meaning.{accepted_or_wiped}
use Rattle.writer.specs.Write.{write_refusal, write_of}
use Rattle.answers.specs.Answers.{opened_status, opened_numbers, stepped_status, stepped_numbers, ran_status, ran_numbers, paged_status, paged_numbers, showed_status, showed_numbers, solved_status, solved_numbers, read_status, wrote_status, wrote_numbers}
use Rattle.mokihazureo.specs.Called.{Lent, lent, told, revision, open_call, step_call, run_call, counted_call, page_call, shown_call, plain_call, write_call}
use Rattle.mokihazureo.specs.Reading.{read_call}

-- the status is the table's number n, and unless that is 0 all is as it was
pub record Stated {M : Type 0} (n : ℕ) (m : M) (a : List ℕ) (u : Outcome (Lent M) ℕ) : Type 0 where
  pub status : u.answer ≡ n
  pub leaves : (n ≡ 0 → ⊥) → u.memory ≡ lent m a

stated : {M A : Type 0} (status : A → ℕ) (numbers : A → List ℕ) (number : ℕ → A) → ((n : ℕ) → status (number n) ≡ n) → ((n : ℕ) → numbers (number n) ≡ [])
    → (n : ℕ) (m : M) (a : List ℕ) (o : Outcome M A) → (n ≡ 0 → status o.answer ≡ 0) → Stated n m a (told status numbers a (unless number n m o))
stated status numbers number tells none zero m a o e = record { status = e refl; leaves = λ f. absurd (f refl) }
stated status numbers number tells none (suc n) m a o e = record { status = tells (suc n); leaves = λ f. rw (none (suc n)) }

pub open_stated : (L : Limits) → (b : List ℤ) (m : Memory) (first : ℕ) (a : List ℕ) → Stated (open_refusal L b (places m)) m a (open_call L b m first a)
unfolding open_outcome
open_stated L b m first a = stated opened_status opened_numbers refused (λ n. refl) (λ n. refl) (open_refusal L b (places m)) m a _ (λ e. refl)

module _ (L : Limits) (s : Session) (b : List ℤ) (m : Memory) (seen : ℕ) (a : List ℕ) where
  pub step_stated : (l : ℤ) → Stated (step_refusal L s b m (revision seen) (literal l)) m a (step_call L s b m seen l a)
  unfolding step_outcome
  step_stated l = stated stepped_status stepped_numbers refused (λ n. refl) (λ n. refl) (step_refusal L s b m (revision seen) (literal l)) m a _ (λ e. refl)

  pub run_stated : (budget : ℕ) (preferred : List ℤ) → Stated (run_refusal L s b m (revision seen) budget) m a (run_call L s b m seen budget preferred a)
  unfolding run_of
  run_stated budget preferred = stated ran_status ran_numbers refused (λ n. refl) (λ n. refl) (run_refusal L s b m (revision seen) budget) m a _ (λ e. refl)

-- an accepted counted run is a run that is accepted
pub counted_stated : (L : Limits) (s : Session) (b : List ℤ) (w : counted.Lent) (seen budget : ℕ) (preferred : List ℤ) (a : List ℕ) → Stated (counted_refusal L s b w (revision seen) budget) w a (counted_call L s b w seen budget preferred a)
unfolding counted_of run_of
counted_stated L s b w seen budget preferred a =
    stated ran_status ran_numbers refused (λ n. refl) (λ n. refl) (counted_refusal L s b w (revision seen) budget) w a _
    (λ e. rw (passes L s b w (revision seen) budget e).run)

pub page_stated : (L : Limits) → (b : List ℤ) (m : PageMemory) (start : ℕ) (preferred : List ℤ) (budget : ℕ) (a : List ℕ) → Stated (page_refusal L b m start) m a (page_call L b m start preferred budget a)
unfolding page_of
page_stated L b m start preferred budget a = stated paged_status paged_numbers refused (λ n. refl) (λ n. refl) (page_refusal L b m start) m a _ (λ e. refl)

-- [calls.write] a block that is written
pub write_stated : (L : Limits) (b : List ℤ) (o a : List ℕ) → Stated (write_refusal L b (length o)) o a (write_call L b o a)
unfolding write_of
write_stated L b o a = stated wrote_status wrote_numbers refused (λ n. refl) (λ n. refl) (write_refusal L b (length o)) o a _ (λ e. refl)

-- [calls.shown]
pub shown_stated : (L : Limits) (s : Session) (b : List ℤ) (t : Trail) (o : List ℤ) (a : List ℕ) → Stated (shown_refusal L s b t (length o)) o a (shown_call L s b t o a)
unfolding shown_of
shown_stated L s b t o a = stated showed_status showed_numbers refused (λ n. refl) (λ n. refl) (shown_refusal L s b t (length o)) o a _ (λ e. refl)

-- a second opinion is lent the answer's array alone
pub plain_stated : (L : Limits) (b : List ℤ) (a : List ℕ) → ((plain_call L b a).answer ≡ plain_refusal L b) × ((plain_refusal L b ≡ 0 → ⊥) → (plain_call L b a).memory ≡ a)
unfolding solve_of opinion_of
plain_stated L b a = by (plain_refusal L b) (true? (formula_of b))
  where
    by : (n : ℕ) (t : Bool) → let o = opinion_of n t in (solved_status o ≡ n) × ((n ≡ 0 → ⊥) → sets a 0 (solved_numbers o) ≡ a)
    by zero t = (refl, λ f. absurd (f refl))
    by (suc n) t = (refl, λ f. refl)

-- ---- [calls.read] a text: with status 0 it is accepted, and [text.wiped] with any other all of the output is 0
pub record ReadStated (o : List ℤ) (r : Outcome (List ℤ) Reading) (u : Outcome (Lent (List ℤ)) ℕ) : Type 0 where
  pub accepted : u.answer ≡ 0 → (n : ℕ) × (r.answer ≡ Ok n)
  pub wiped : (u.answer ≡ 0 → ⊥) → u.memory.memory ≡ zeros (length o)

accepted_at_zero : (L : Limits) (bs : List ℕ) (o : List ℤ) → read_status (read_of L bs o).answer ≡ 0 → (n : ℕ) × ((read_of L bs o).answer ≡ Ok n)
unfolding read_of answered text_of
accepted_at_zero L bs o = by (reads bs)
  where
    rows : (k : ℕ) (m z : List ℤ) (table row : ℕ) → let u = unless text_refused table z (unless block_refused row z (outcome (Ok k) m)) in read_status u.answer ≡ 0 → (n : ℕ) × (u.answer ≡ Ok n)
    rows k m z zero zero e = (k, refl)
    rows k m z zero (suc row) e = absurd (suc-ne-zero 30 e)
    rows k m z (suc table) row e = absurd (suc-ne-zero table e)

    by : (t : Read) → read_status (answered L t o).answer ≡ 0 → (n : ℕ) × ((answered L t o).answer ≡ Ok n)
    by (misfit i) e = absurd (suc-ne-zero 26 e)
    by (spelled t) e = rows _ _ (zeros (length o)) (text_refusal L t (length o)) (row_of t) e

pub read_stated : (L : Limits) (bs : List ℕ) (o : List ℤ) (a : List ℕ) → ReadStated o (read_of L bs o) (read_call L bs o a)
read_stated L bs o a = record { accepted = accepted_at_zero L bs o; wiped = by (accepted_or_wiped L bs o) }
  where
    by : ((n : ℕ) × ((read_of L bs o).answer ≡ Ok n)) ⊎ ((read_of L bs o).memory ≡ zeros (length o)) → (read_status (read_of L bs o).answer ≡ 0 → ⊥) → (read_of L bs o).memory ≡ zeros (length o)
    by (inl (n, e)) f = absurd (f (ap read_status e))
    by (inr e) f = e
