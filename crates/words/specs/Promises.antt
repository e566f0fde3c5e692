-- What each function promises of every word and index, r being its answer; and that this leaves one answer. [only]
use Rattle.std.specs.Prelude.{◌≡◌, Bool, List, ℕ, ℤ, pos, nat_abs, get_or, take, drop}
use Rattle.words.specs.Words.{negative, opposite}
use Rattle.words.specs.Outcomes.{only_one}

abbrev pub NegativePromise : ℤ → Bool → Type 0
NegativePromise x r = r ≡ negative x

-- [literal.least] the least word has a size too
abbrev pub SizePromise : ℤ → ℕ → Type 0
SizePromise x r = r ≡ nat_abs x

abbrev pub OppositePromise : ℤ → ℤ → Type 0
OppositePromise x r = r ≡ opposite x

-- past the end of the list stands the word 0
abbrev pub SizeAtPromise : List ℤ → ℕ → ℕ → Type 0
SizeAtPromise ws i r = r ≡ nat_abs (get_or ws i (pos 0))

abbrev pub NegativeAtPromise : List ℤ → ℕ → Bool → Type 0
NegativeAtPromise ws i r = r ≡ negative (get_or ws i (pos 0))

abbrev pub TakePromise : List ℤ → ℕ → List ℤ → Type 0
TakePromise ws n r = r ≡ take n ws

abbrev pub DropPromise : List ℤ → ℕ → List ℤ → Type 0
DropPromise ws n r = r ≡ drop n ws

-- ---- each leaves one answer
pub only_negative : {r r' : Bool} (x : ℤ) → NegativePromise x r → NegativePromise x r' → r ≡ r'
only_negative x = only_one

pub only_size : {r r' : ℕ} (x : ℤ) → SizePromise x r → SizePromise x r' → r ≡ r'
only_size x = only_one

pub only_opposite : {r r' : ℤ} (x : ℤ) → OppositePromise x r → OppositePromise x r' → r ≡ r'
only_opposite x = only_one

module _ (ws : List ℤ) (i : ℕ) where
  pub only_size_at : {r r' : ℕ} → SizeAtPromise ws i r → SizeAtPromise ws i r' → r ≡ r'
  only_size_at = only_one

  pub only_negative_at : {r r' : Bool} → NegativeAtPromise ws i r → NegativeAtPromise ws i r' → r ≡ r'
  only_negative_at = only_one

  pub only_take : {r r' : List ℤ} → TakePromise ws i r → TakePromise ws i r' → r ≡ r'
  only_take = only_one

  pub only_drop : {r r' : List ℤ} → DropPromise ws i r → DropPromise ws i r' → r ≡ r'
  only_drop = only_one
