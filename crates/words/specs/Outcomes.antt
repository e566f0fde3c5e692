-- What a call does: its answer, of the type A, and what it leaves in the memory lent to it, of the type M. Said once, for every call.
use Rattle.std.specs.Prelude.{◌≡◌, refl, ℕ, zero, suc, Result, Ok, Err}
use Rattle.std.proofs.Common.{sym, ◌∙◌, ap}
use Rattle.words.specs.declared.Refusal.{Refusal}

pub record Outcome (M A : Type 0) : Type 0 where
  pub answer : A
  pub memory : M

abbrev pub outcome : {M A : Type 0} → A → M → Outcome M A
outcome a m = record { answer = a; memory = m }

-- ---- a refused call answers a number
abbrev pub by_row : ℕ → Refusal
by_row n = record { 0 = n }

abbrev pub refused : {A : Type 0} → ℕ → Result A Refusal
refused n = Err (by_row n)

-- different numbers have different answers, and an accepted answer is no number's
module _ {A : Type 0} where
  pub refused_told : (j n : ℕ) → refused {A = A} j ≡ refused {A = A} n → j ≡ n
  refused_told j n e = let f : by_row j ≡ by_row n = cc in ap (λ (r : Refusal). r.0) f

  pub ok_none : (x : A) (n : ℕ) → Ok x ≡ refused n → ⊥
  ok_none x n e = cc

-- [table.leaves] a call whose number is not 0 answers that number, and the memory is as it was: `number` is the answer with a number, `refused`
-- for every call but the one that has further answers
abbrev pub unless : {M A : Type 0} → (ℕ → A) → ℕ → M → Outcome M A → Outcome M A
unless number zero m o = o
unless number (suc n) m o = outcome (number (suc n)) m

-- a number other than 0 is answered, and nothing is written
pub unless_number : {M A : Type 0} (number : ℕ → A) (n : ℕ) (m : M) (o : Outcome M A) → (n ≡ 0 → ⊥) → outcome (number n) m ≡ unless number n m o
unless_number number zero m o f = absurd (f refl)
unless_number number (suc n) m o f = refl

-- ---- a refused call: the number given, n, is the table's, and the memory is as it was
pub record Left {M : Type 0} (table n : ℕ) (m m' : M) : Type 0 where
  pub number : n ≡ table
  pub memory : m' ≡ m

module _ {M A : Type 0} where
  pub unless_left : (table : ℕ) (m : M) (o : Outcome M (Result A Refusal)) (n : ℕ) → (o.answer ≡ refused n → ⊥)
      → let u = unless refused table m o in u.answer ≡ refused n → Left table n m u.memory
  unless_left zero m o n none e = absurd (none e)
  unless_left (suc j) m o n none e = record { number = sym (refused_told (suc j) n e); memory = refl }

  -- an accepted answer is given only where no row applies
  pub unless_ok : (table : ℕ) (m : M) (o : Outcome M (Result A Refusal)) (x : A) → (unless refused table m o).answer ≡ Ok x → table ≡ 0
  unless_ok zero m o x e = refl
  unless_ok (suc n) m o x e = absurd (ok_none x (suc n) (sym e))

-- ---- a promise is an equation with a definition, so two answers, or two outcomes, that meet it are equal [only]
pub only_one {ℓ} : {A : Type ℓ} {r r' promised : A} → r ≡ promised → r' ≡ promised → r ≡ r'
only_one p q = p ∙ sym q

-- an equation of outcomes is one of answers, and one of what is left
module _ {M A : Type 0} {a a' : A} {m m' : M} (e : outcome a m ≡ outcome a' m') where
  pub same_answer : a ≡ a'
  same_answer = ap (λ (o : Outcome M A). o.answer) e

  pub same_memory : m ≡ m'
  same_memory = ap (λ (o : Outcome M A). o.memory) e

pub both_same : {M A : Type 0} {a a' : A} {m m' : M} → a ≡ a' → m ≡ m' → outcome a m ≡ outcome a' m'
both_same e f = rw (e, f)

pub record Same {M A : Type 0} (a a' : A) (m m' : M) : Type 0 where
  pub answer : a ≡ a'
  pub memory : m ≡ m'

pub same : {M A : Type 0} {a a' : A} {m m' : M} {o : Outcome M A} → outcome a m ≡ o → outcome a' m' ≡ o → Same a a' m m'
same p q = let e = only_one p q in record { answer = same_answer e; memory = same_memory e }
