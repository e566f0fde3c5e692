-- A table of refusals: a row is a number with a test, a call's table is one list of rows in the table's order, and the refusal is the number
-- of the first row that applies.
use Rattle.std.specs.Prelude.{◌≡◌, ◌↔◌, Bool, true, false, cond, List, [], ◌∷◌, ◌++◌, ℕ, zero, suc, eqb}
use Rattle.words.specs.Lists.{In}

pub data Row : Type 0 where
  row : ℕ → Bool → Row

-- the number of the first row that applies, and 0 where none does
abbrev pub refusal_of : List Row → ℕ
refusal_of [] = 0
refusal_of (row n t ∷ rs) = cond t n (refusal_of rs)

-- the numbers, in the table's order. 0 is no row's: it says that none applies
abbrev pub numbers : List Row → List ℕ
numbers [] = []
numbers (row n t ∷ rs) = n ∷ numbers rs

abbrev pub positive : List Row → Bool
positive [] = true
positive (row zero t ∷ rs) = false
positive (row (suc n) t ∷ rs) = positive rs

-- a row by its number: its test, and the numbers up to it
abbrev pub test : ℕ → List Row → Bool
test k [] = false
test k (row n t ∷ rs) = cond (eqb k n) t (test k rs)

abbrev pub up_to : ℕ → List Row → List ℕ
up_to k [] = []
up_to k (row n t ∷ rs) = n ∷ cond (eqb k n) [] (up_to k rs)

-- ---- which number a table gives, exactly
-- no row applies
abbrev pub NoRow : List Row → Type 0
NoRow rs = (n : ℕ) → In (row n true) rs → ⊥

-- row n applies, and no row before it in the list
pub record Foremost (rs : List Row) (n : ℕ) : Type 0 where
  pub before : List Row
  pub behind : List Row
  pub order : rs ≡ before ++ row n true ∷ behind
  pub none : NoRow before

pub record Numbered (rs : List Row) (n : ℕ) : Type 0 where
  pub none : (n ≡ 0) ↔ NoRow rs
  pub some : (k : ℕ) → (n ≡ suc k) ↔ Foremost rs (suc k)
