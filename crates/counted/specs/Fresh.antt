-- The fresh count: a clause's two numbers under an assignment, as they are counted from its literals.
use Rattle.std.specs.Prelude.{ℕ, ◌+◌, Bool, true, false, List, [], ◌∷◌, ℤ}
use Rattle.theory.specs.Record.{Assignment}
use Rattle.theory.specs.Tests.{unassigned_existential}

-- 1 for a test that holds
abbrev pub bit : Bool → ℕ
bit true = 1
bit false = 0

-- how many words of a list pass a test
unfoldable pub count_if : (ℤ → Bool) → List ℤ → ℕ
count_if f [] = 0
count_if f (x ∷ xs) = bit (f x) + count_if f xs

-- [counted.trues] how many literals of a clause are true
abbrev pub trues : Assignment → List ℤ → ℕ
trues ρ C = count_if ρ C

-- [counted.opens] how many are unassigned existential ones; p is the prefix
abbrev pub opens : List ℤ → Assignment → List ℤ → ℕ
opens p ρ C = count_if (unassigned_existential p ρ) C
