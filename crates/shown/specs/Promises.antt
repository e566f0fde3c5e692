-- What the call promises of everything at entry, r being its answer and o' the output that it leaves; and [only] that the promise fits one answer and one
-- content of the output. A promise is an equation with a definition.
use Rattle.std.specs.Prelude.{◌≡◌, ℕ, List, ℤ, Result}
use Rattle.words.specs.Outcomes.{outcome, Same, same}
use Rattle.formula.specs.Limits.{limits}
use Rattle.record.specs.Trail.{Trail}
use Rattle.session.specs.declared.Session.{Session}
use Rattle.words.specs.declared.Refusal.{Refusal}
use Rattle.shown.specs.Shown.{shown_of}

abbrev pub ShownPromise : Session → List ℤ → Trail → List ℤ → Result ℕ Refusal → List ℤ → Type 0
ShownPromise s b t o r o' = outcome r o' ≡ shown_of limits s b t o

pub only_shown : {r r' : Result ℕ Refusal} {o' o'' : List ℤ} (s : Session) (b : List ℤ) (t : Trail) (o : List ℤ) → ShownPromise s b t o r o' → ShownPromise s b t o r' o'' → Same r r' o' o''
only_shown s b t o = same
