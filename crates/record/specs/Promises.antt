-- What each public function promises of everything at entry, r being its answer and t' the record's buffers as it leaves them; and [only] that
-- the promise fits one answer and one content of each lent buffer. A promise is an equation with a definition.
use Rattle.std.specs.Prelude.{◌≡◌, Bool, List, ℕ, ℤ, pos, neg_ℤ, nat_abs, length, get_or, take, Option}
use Rattle.std.proofs.Common.{ext_get_or}
use Rattle.words.specs.Outcomes.{only_one}
use Rattle.words.specs.declared.Literal.{Literal}
use Rattle.formula.specs.Formula.{prefix_of}
use Rattle.theory.specs.Record.{among}
use Rattle.record.specs.Trail.{Trail, wiped, wiped_trail}
use Rattle.record.specs.Found.{literal}
use Rattle.record.specs.Check.{bad_record}
use Rattle.record.specs.Inner.Tables.{sign_of, Values}
use Rattle.record.specs.Inner.Buffers.{last_kind}

-- ---- what is read from a list of words: past its end there is the word 0
abbrev pub LiteralAtPromise : List ℤ → ℕ → Literal → Type 0
LiteralAtPromise ws i r = r ≡ literal (get_or ws i (pos 0))

abbrev pub OppositeAtPromise : List ℤ → ℕ → Literal → Type 0
OppositeAtPromise ws i r = r ≡ literal (neg_ℤ (get_or ws i (pos 0)))

abbrev pub TrueAtPromise : List ℤ → ℕ → Literal → Type 0
TrueAtPromise ws i r = r ≡ literal (pos (nat_abs (get_or ws i (pos 0))))

abbrev pub SignPromise : ℤ → ℕ → Type 0
SignPromise w r = r ≡ sign_of w

abbrev pub SignAtPromise : List ℤ → ℕ → ℕ → Type 0
SignAtPromise ws i r = r ≡ sign_of (get_or ws i (pos 0))

-- the value that the first n words give each variable
abbrev pub ValuesOfPromise : List ℤ → ℕ → List ℕ → Type 0
ValuesOfPromise ls n r = Values (among (take n ls)) r

pub only_literal_at : {r r' : Literal} (ws : List ℤ) (i : ℕ) → LiteralAtPromise ws i r → LiteralAtPromise ws i r' → r ≡ r'
only_literal_at ws i = only_one

pub only_opposite_at : {r r' : Literal} (ws : List ℤ) (i : ℕ) → OppositeAtPromise ws i r → OppositeAtPromise ws i r' → r ≡ r'
only_opposite_at ws i = only_one

pub only_true_at : {r r' : Literal} (ws : List ℤ) (i : ℕ) → TrueAtPromise ws i r → TrueAtPromise ws i r' → r ≡ r'
only_true_at ws i = only_one

pub only_sign : {r r' : ℕ} (w : ℤ) → SignPromise w r → SignPromise w r' → r ≡ r'
only_sign w = only_one

pub only_sign_at : {r r' : ℕ} (ws : List ℤ) (i : ℕ) → SignAtPromise ws i r → SignAtPromise ws i r' → r ≡ r'
only_sign_at ws i = only_one

pub only_values_of : {r r' : List ℕ} (ls : List ℤ) (n : ℕ) → length r ≡ length r' → ValuesOfPromise ls n r → ValuesOfPromise ls n r' → r ≡ r'
only_values_of {r} {r'} ls n e p q = ext_get_or 0 r r' e (λ v h. only_one (p v) (q v))

-- ---- what is asked of a record of n entries
abbrev pub LastKindPromise : List ℕ → ℕ → ℕ → Option ℕ → Type 0
LastKindPromise ks n k r = r ≡ last_kind ks k n

abbrev pub BadRecordPromise : List ℤ → Trail → ℕ → Bool → Type 0
BadRecordPromise b t n r = r ≡ bad_record (prefix_of b) t n

pub only_last_kind : {r r' : Option ℕ} (ks : List ℕ) (n k : ℕ) → LastKindPromise ks n k r → LastKindPromise ks n k r' → r ≡ r'
only_last_kind ks n k = only_one

pub only_bad_record : {r r' : Bool} (b : List ℤ) (t : Trail) (n : ℕ) → BadRecordPromise b t n r → BadRecordPromise b t n r' → r ≡ r'
only_bad_record b t n = only_one

-- ---- what is written
abbrev pub WipePlacesPromise : {A : Type 0} → List A → ℕ → ℕ → A → List A → Type 0
WipePlacesPromise ws from to z ws' = ws' ≡ wiped z ws from to

abbrev pub WipePromise : Trail → ℕ → ℕ → Trail → Type 0
WipePromise t from to t' = t' ≡ wiped_trail t from to

abbrev pub ClearPromise : Trail → ℕ → Trail → Type 0
ClearPromise t n t' = t' ≡ wiped_trail t 0 n

pub only_wipe_places : {A : Type 0} {ws' ws'' : List A} (ws : List A) (from to : ℕ) (z : A) → WipePlacesPromise ws from to z ws' → WipePlacesPromise ws from to z ws'' → ws' ≡ ws''
only_wipe_places ws from to z = only_one

pub only_wipe : {t' t'' : Trail} (t : Trail) (from to : ℕ) → WipePromise t from to t' → WipePromise t from to t'' → t' ≡ t''
only_wipe t from to = only_one

pub only_clear : {t' t'' : Trail} (t : Trail) (n : ℕ) → ClearPromise t n t' → ClearPromise t n t'' → t' ≡ t''
only_clear t n = only_one
