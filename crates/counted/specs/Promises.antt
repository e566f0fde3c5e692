-- What the counted run promises of everything at entry, r being its answer and w' the memory that it leaves; and [only] that the promise fits one
-- answer and one content of every lent buffer, but for the places of the index that it works in.
use Rattle.std.specs.Prelude.{◌≡◌, List, ℕ, ℤ, Result}
use Rattle.words.specs.declared.Refusal.{Refusal}
use Rattle.words.specs.Outcomes.{outcome, Same, same}
use Rattle.formula.specs.Limits.{limits}
use Rattle.session.specs.declared.Revision.{Revision}
use Rattle.session.specs.declared.Session.{Session}
use Rattle.session.specs.declared.Ran.{Ran}
use Rattle.counted.specs.Lent.{Lent, past}
use Rattle.counted.specs.Refusals.{counted_refusal}
use Rattle.counted.specs.Counted.{counted_of, used_by}

-- [counted.index] the places of the index that are the call's own: 0 where it is refused
abbrev pub used : Session → List ℤ → Lent → Revision → ℕ → ℕ
used s b w seen budget = used_by (counted_refusal limits s b w seen budget) b

abbrev pub CountedPromise : Session → List ℤ → Lent → Revision → ℕ → List ℤ → Result Ran Refusal → Lent → Type 0
CountedPromise s b w seen budget preferred r w' = outcome r (past (used s b w seen budget) w') ≡ counted_of limits s b w seen budget preferred

pub only_counted : {r r' : Result Ran Refusal} (w' w'' : Lent) (s : Session) (b : List ℤ) (w : Lent) (seen : Revision) (budget : ℕ) (preferred : List ℤ)
    → CountedPromise s b w seen budget preferred r w' → CountedPromise s b w seen budget preferred r' w''
    → let n = used s b w seen budget in Same r r' (past n w') (past n w'')
only_counted w' w'' s b w seen budget preferred = same
