-- What each function promises of everything at entry, r being its answer and o' the output that it leaves; and [only] that the promise fits one answer and
-- one content of the output.
use Rattle.std.specs.Prelude.{◌≡◌, List, ℕ, ℤ}
use Rattle.words.specs.Outcomes.{outcome, Same, same, only_one}
use Rattle.reader.specs.declared.Reader.{Reader}
use Rattle.reader.specs.Keep.{capped}
use Rattle.reader.specs.Byte.{byte_of}

-- an inner door: a text is read byte by byte
abbrev pub TakePromise : Reader → List ℤ → ℕ → Reader → List ℤ → Type 0
TakePromise s o b r o' = outcome r o' ≡ byte_of s o b

pub only_take : {r r' : Reader} {o' o'' : List ℤ} (s : Reader) (o : List ℤ) (b : ℕ) → TakePromise s o b r o' → TakePromise s o b r' o'' → Same r r' o' o''
only_take s o b = same

-- an inner door: a state's numbers that come from outside are capped as the text's own are
abbrev pub CappedPromise : ℕ → ℕ → Type 0
CappedPromise n r = r ≡ capped n

pub only_capped : {r r' : ℕ} (n : ℕ) → CappedPromise n r → CappedPromise n r' → r ≡ r'
only_capped n = only_one
