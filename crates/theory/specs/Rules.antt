-- The rules as one relation [order.rules]: what may be done in an open state. A solver's own order picks one of its cases in each state.
use Rattle.std.specs.Prelude.{◌≡◌, Bool, true, false, List, [], ◌∷◌, ◌++◌, ℕ, suc, ◌^◌, ℤ, neg_ℤ, length}
use Rattle.words.specs.Lists.{In}
use Rattle.formula.specs.Formula.{Formula, existential, universal}
use Rattle.theory.specs.Record.{entry, Record, Assignment, true_in, without}
use Rattle.theory.specs.Tests.{conflict, unit_on, monotone_open, monotone_wide, is_open, all_assigned}

-- open, Valid or Unsat: an open state goes on from its record
pub data State : Type 0 where
  going : Record → State
  valid unsat : State

-- the answer to a formula that is true, and to one that is false
abbrev pub verdict : Bool → State
verdict true = valid
verdict false = unsat

module _ (F : Formula) where
  -- what holds of a record: some clause in conflict, or none; everything assigned
  abbrev pub Conflict : Record → Type 0
  Conflict r = conflict F.prefix F.clauses (true_in r) ≡ true

  abbrev pub Quiet : Record → Type 0
  Quiet r = conflict F.prefix F.clauses (true_in r) ≡ false

  abbrev pub Full : Record → Type 0
  Full r = all_assigned F.prefix (true_in r) ≡ true

-- [order.monotone] A test of Monotone: of a prefix, clauses, what is true, and a literal that the rule may append.
abbrev pub MonotoneTest : Type 0
MonotoneTest = List ℤ → List (List ℤ) → Assignment → ℤ → Bool

-- [order.monotone] It passes no literal but those of the widest that is sound.
pub record Within (μ : MonotoneTest) : Type 0 where
  pub wide : (p : List ℤ) (m : List (List ℤ)) (ρ : Assignment) (l : ℤ) → μ p m ρ l ≡ true → monotone_wide p m ρ l ≡ true

module _ (μ : MonotoneTest) (F : Formula) where
  -- [order.rules] A constructor for each rule: when it applies, with which literal, and what it makes of the record.
  pub data StepBy : Record → State → Type 0 where
    -- [backtrack-exists]
    backtrack_exists : {r : Record} → Conflict F r → (a b : Record) (l : ℤ) → r ≡ a ++ entry 1 l ∷ b → without 1 b ≡ true → StepBy r (going (a ++ entry 0 (neg_ℤ l) ∷ []))
    -- [fail]
    fail : {r : Record} → Conflict F r → without 1 r ≡ true → StepBy r unsat
    -- [unit] Without the levels, or on a universal literal, it would give wrong answers: cases I and J, in Examples.
    unit : {r : Record} → Quiet F r → (C : List ℤ) → In C F.clauses → (l : ℤ) → unit_on F.prefix (true_in r) C l ≡ true → StepBy r (going (r ++ entry 0 l ∷ []))
    -- [monotone] where the test passes the literal
    monotone : {r : Record} → Quiet F r → (l : ℤ) → μ F.prefix F.clauses (true_in r) l ≡ true → StepBy r (going (r ++ entry 0 l ∷ []))
    -- [decide] any open literal; kind 1 or 2, by the quantifier
    decide_exists : {r : Record} → Quiet F r → (l : ℤ) → is_open F.prefix (true_in r) l ≡ true → existential F.prefix l ≡ true → StepBy r (going (r ++ entry 1 l ∷ []))
    decide_forall : {r : Record} → Quiet F r → (l : ℤ) → is_open F.prefix (true_in r) l ≡ true → universal F.prefix l ≡ true → StepBy r (going (r ++ entry 2 l ∷ []))
    -- [backtrack-forall]
    backtrack_forall : {r : Record} → Quiet F r → Full F r → (a b : Record) (l : ℤ) → r ≡ a ++ entry 2 l ∷ b → without 2 b ≡ true → StepBy r (going (a ++ entry 0 (neg_ℤ l) ∷ []))
    -- [succeed]
    succeed : {r : Record} → Quiet F r → Full F r → without 2 r ≡ true → StepBy r valid

  -- a path of n rules
  pub data PathBy : ℕ → State → State → Type 0 where
    stop : {s : State} → PathBy 0 s s
    take : {n : ℕ} {r : Record} {s t : State} → StepBy r s → PathBy n s t → PathBy (suc n) (going r) t

-- [order.rules] the rules as they stand: [monotone] counts only clauses with no true literal
abbrev pub Step : Formula → Record → State → Type 0
Step = StepBy monotone_open

abbrev pub Path : Formula → ℕ → State → State → Type 0
Path = PathBy monotone_open

-- [order.ends] every path from the empty record has fewer rules than this
abbrev pub most_rules : Formula → ℕ
most_rules F = 2 ^ suc (length F.prefix)
