-- What each public function promises of everything at entry, r being its answer and s' the numbers that it leaves; and [only] that the promise fits one
-- result. A promise is an equation with a definition.
use Rattle.std.specs.Prelude.{◌≡◌, List, ℕ}
use Rattle.words.specs.Outcomes.{only_one}
use Rattle.reader.specs.declared.Reader.{Reader}
use Rattle.saved.specs.Numbers.{reader_of, written}

abbrev pub ReaderOfPromise : List ℕ → Reader → Type 0
ReaderOfPromise s r = r ≡ reader_of s

abbrev pub WriteReaderPromise : Reader → List ℕ → List ℕ → Type 0
WriteReaderPromise x s s' = s' ≡ written x s

pub only_reader_of : {r r' : Reader} (s : List ℕ) → ReaderOfPromise s r → ReaderOfPromise s r' → r ≡ r'
only_reader_of s = only_one

pub only_write_reader : {s' s'' : List ℕ} (x : Reader) (s : List ℕ) → WriteReaderPromise x s s' → WriteReaderPromise x s s'' → s' ≡ s''
only_write_reader x s = only_one
