-- [record] The record: literals with kinds, oldest first, and what it makes true.
use Rattle.std.specs.Prelude.{ℕ, Bool, not, ◌||◌, List, [], ◌∷◌, eqb, ℤ, neg_ℤ}
use Rattle.words.specs.Lists.{all}
use Rattle.words.specs.Words.{mem}

-- [kinds] a literal and its kind: 0 forced, 1 an existential decision, 2 a universal one
pub record Entry : Type 0 where
  pub literal : ℤ
  pub kind : ℕ

abbrev pub entry : ℕ → ℤ → Entry
entry k l = record { literal = l; kind = k }

abbrev pub Record : Type 0
Record = List Entry

unfoldable pub literals : Record → List ℤ
literals [] = []
literals (e ∷ r) = e.literal ∷ literals r

-- which literals are true
abbrev pub Assignment : Type 0
Assignment = ℤ → Bool

-- a literal is true if it is one of the list's
abbrev pub among : List ℤ → Assignment
among σ x = mem x σ

abbrev pub true_in : Record → Assignment
true_in r = among (literals r)

-- the variable of l has a value
unfoldable pub assigned : Assignment → ℤ → Bool
assigned ρ l = ρ l || ρ (neg_ℤ l)

-- no entry has the kind
unfoldable pub without : ℕ → Record → Bool
without k r = all (λ e. not (eqb e.kind k)) r

-- every entry is forced
unfoldable pub forced : Record → Bool
forced r = all (λ e. eqb e.kind 0) r
