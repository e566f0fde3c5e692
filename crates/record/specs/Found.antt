-- What a search of the record finds, and a word as a literal.
use Rattle.std.specs.Prelude.{ℕ, suc, cond, [], ◌∷◌, eqb, ℤ, Option, Some, None}
use Rattle.words.specs.declared.Literal.{Literal}
use Rattle.theory.specs.Record.{Record}

abbrev pub literal : ℤ → Literal
literal l = record { 0 = l }

-- what follows a search
abbrev pub on_found : {A B : Type 0} → Option A → (A → B) → B → B
on_found (Some x) f b = f x
on_found None f b = b

-- the place of the last entry of kind k, the first being at n
unfoldable pub last : ℕ → ℕ → Record → Option ℕ
last k n [] = None
last k n (e ∷ r) = on_found (last k (suc n) r) Some (cond (eqb e.kind k) (Some n) None)
