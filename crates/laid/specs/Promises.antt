-- What the function promises of everything at entry, o' being the output that it leaves; and [only] that the promise fits one content of the output.
use Rattle.std.specs.Prelude.{◌≡◌, List, ℕ, ℤ}
use Rattle.words.specs.Outcomes.{only_one}
use Rattle.laid.specs.Block.{laid_in}

-- an inner door: at a text's end the reader has the parts of the block laid out
abbrev pub LayPromise : List ℤ → ℕ → ℕ → ℕ → ℕ → List ℤ → Type 0
LayPromise o v bound c t o' = o' ≡ laid_in o v bound c t

pub only_lay : {o' o'' : List ℤ} (o : List ℤ) (v bound c t : ℕ) → LayPromise o v bound c t o' → LayPromise o v bound c t o'' → o' ≡ o''
only_lay o v bound c t = only_one
