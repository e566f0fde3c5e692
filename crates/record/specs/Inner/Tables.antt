-- Tables by variable: what each place of a table says.
use Rattle.std.specs.Prelude.{ℕ, suc, ◌≤◌, ◌≡◌, false, cond, List, ℤ, pos, negsuc, neg_ℤ, length, get_or, take}
use Rattle.words.specs.Lists.{any}
use Rattle.formula.specs.Limits.{limits, max_variables}
use Rattle.formula.specs.Block.{no_variable, twice}
use Rattle.theory.specs.Record.{Assignment, among}

-- a table has a place for each variable, and place 0
abbrev pub places : ℕ
places = suc max_variables

-- 1 for a positive word, 2 for a negative one
abbrev pub sign_of : ℤ → ℕ
sign_of (pos n) = 1
sign_of (negsuc n) = 2

-- what a table of values holds for a variable: 0 unassigned, 1 true, 2 false
abbrev pub value_in : Assignment → ℕ → ℕ
value_in ρ v = cond (ρ (pos v)) 1 (cond (ρ (neg_ℤ (pos v))) 2 0)

-- each table, at every variable
abbrev pub Values : Assignment → List ℕ → Type 0
Values ρ t = (v : ℕ) → get_or t v 0 ≡ value_in ρ v

-- of the prefix's own words: 1 existential, 2 universal
abbrev pub Quantifiers : List ℤ → List ℕ → Type 0
Quantifiers p t = Values (among p) t

-- every word names a variable for which a table has a place
abbrev pub Known : List ℤ → Type 0
Known ls = any (no_variable limits.variables) ls ≡ false

-- the first n words of a buffer, which name different variables
pub record Written (ls : List ℤ) (n : ℕ) : Type 0 where
  pub room : n ≤ length ls
  pub named : Known (take n ls)
  pub once : twice (take n ls) ≡ false
