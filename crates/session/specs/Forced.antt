-- [demand.2.reasons] What a reason says: the clause that it names did force the entry's literal, given the entries before it.
use Rattle.std.specs.Prelude.{ℕ, suc, ◌<◌, ◌≡◌, ◌⊎◌, true, false, [], ℤ, neg_ℤ, length, get_or}
use Rattle.words.specs.Lists.{In}
use Rattle.formula.specs.Formula.{Formula, universal, level}
use Rattle.theory.specs.Record.{Entry, Record, true_in, assigned}

-- beside l, a literal x of its clause is false under the entries r, or it is universal, unassigned and at a higher level
abbrev pub Aside : Formula → Record → ℤ → ℤ → Type 0
Aside F r l x =
    (true_in r (neg_ℤ x) ≡ true)
    ⊎ ((universal F.prefix x ≡ true) × (assigned (true_in r) x ≡ false) × (level F.prefix l < level F.prefix x))

-- the clause c holds l, which the entries r leave unassigned, and every other literal of it stands aside
pub record Forced (F : Formula) (r : Record) (l : ℤ) (c : ℕ) : Type 0 where
  pub clause : c < length F.clauses
  pub holds : In l (get_or F.clauses c [])
  pub unassigned : assigned (true_in r) l ≡ false
  pub others : (x : ℤ) → In x (get_or F.clauses c []) → (x ≡ l → ⊥) → Aside F r l x

-- an entry after the entries r: a reason that is not 0 names such a clause
abbrev pub Explained : Formula → Record → Entry → ℕ → Type 0
Explained F r e w = (c : ℕ) → w ≡ suc c → Forced F r e.literal c
