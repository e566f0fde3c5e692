-- The numbers of the clauses, as two lent lists have them: by the literals' status.
use Rattle.std.specs.Prelude.{ℕ, ◌+◌, ◌*◌, ◌≤◌, ◌<◌, ◌≡◌, List, [], eqb, ℤ, length, get_or, drop}
use Rattle.counted.specs.Fresh.{count_if}
use Rattle.counted.specs.Inner.Index.{Few}
use Rattle.counted.specs.declared.numbers.Numbers.{Numbers}

-- how many literals of a clause have the status k
unfoldable pub with_status : (ℤ → ℕ) → ℕ → List ℤ → ℕ
with_status st k C = count_if (λ x. eqb (st x) k) C

-- a clause's numbers: how many literals are true, and how many are unassigned existential ones
unfoldable pub numbers_of : (ℤ → ℕ) → List ℤ → Numbers
numbers_of st C = record { trues = with_status st 1 C; opens = with_status st 2 C }

-- two lent lists with a place for each clause
pub record Fillable (es ls : List ℤ) (ts os : List ℕ) : Type 0 where
  pub few : Few es ls
  pub trues_room : length es ≤ length ts
  pub opens_room : length es ≤ length os

-- what two lists hold past their first n places stays
pub record Rest (n : ℕ) (ts₀ os₀ ts os : List ℕ) : Type 0 where
  pub trues : drop n ts ≡ drop n ts₀
  pub opens : drop n os ≡ drop n os₀

-- the numbers of the clauses m, each at its clause's number
pub record Filled (st : ℤ → ℕ) (m : List (List ℤ)) (ts₀ os₀ ts os : List ℕ) : Type 0 where
  pub trues_room : length m ≤ length ts
  pub opens_room : length m ≤ length os
  pub said : (c : ℕ) → c < length m → (get_or ts c 0 ≡ with_status st 1 (get_or m c [])) × (get_or os c 0 ≡ with_status st 2 (get_or m c []))
  pub rest : Rest (length m) ts₀ os₀ ts os

-- a clause's key is twice its true literals and its open ones: the key that stands at c
abbrev pub key_at : List ℕ → List ℕ → ℕ → ℕ
key_at ts os c = 2 * get_or ts c 0 + get_or os c 0

-- of the numbers from `from` to below `most`: none has the wanted key; or c is the least that has it
abbrev pub NoneFrom : List ℕ → List ℕ → ℕ → ℕ → ℕ → Type 0
NoneFrom ts os from most wanted = (k : ℕ) → from ≤ k → k < most → key_at ts os k ≡ wanted → ⊥

pub record Least (ts os : List ℕ) (from most wanted c : ℕ) : Type 0 where
  pub least : from ≤ c
  pub within : c < most
  pub found : key_at ts os c ≡ wanted
  pub others : NoneFrom ts os from c wanted
