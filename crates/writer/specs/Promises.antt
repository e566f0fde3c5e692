-- What writing promises of everything at entry, r being its answer and o' the output that it leaves; and [only] that the promise fits one answer and one
-- content of the output. A promise is an equation with a definition.
use Rattle.std.specs.Prelude.{◌≡◌, List, ℕ, ℤ, Result}
use Rattle.words.specs.declared.Refusal.{Refusal}
use Rattle.words.specs.Outcomes.{outcome, Same, same}
use Rattle.formula.specs.Limits.{limits}
use Rattle.writer.specs.Write.{write_of}

-- [calls.write] a block as a text
abbrev pub WritePromise : List ℤ → List ℕ → Result ℕ Refusal → List ℕ → Type 0
WritePromise b o r o' = outcome r o' ≡ write_of limits b o

pub only_write : {r r' : Result ℕ Refusal} {o' o'' : List ℕ} (b : List ℤ) (o : List ℕ) → WritePromise b o r o' → WritePromise b o r' o'' → Same r r' o' o''
only_write b o = same
