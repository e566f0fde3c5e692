-- The record in its two lent buffers. [record]
use Rattle.std.specs.Prelude.{ℕ, ◌-◌, ℤ, pos, get_or, take, set, replicate}
use mathlib.Core.List.{List, zip_with}
use Rattle.std.proofs.lemmas.List.Edits.{sets}
use Rattle.theory.specs.Record.{Entry, entry, Record}

pub record Trail : Type 0 where
  pub lits : List ℤ
  pub kinds : List ℕ

abbrev pub trail : List ℤ → List ℕ → Trail
trail ls ks = record { lits = ls; kinds = ks }

-- what both buffers hold, place by place, and its first n entries
unfoldable pub entries : Trail → Record
entries t = zip_with (λ l k. entry k l) t.lits t.kinds

unfoldable pub record_of : Trail → ℕ → Record
record_of t n = take n (entries t)

-- the entry at a place, and that of a place with zeros
abbrev pub entry_at : Trail → ℕ → Entry
entry_at t i = entry (get_or t.kinds i 0) (get_or t.lits i (pos 0))

abbrev pub no_entry : Entry
no_entry = entry 0 (pos 0)

-- an entry at a place
abbrev pub put : Trail → ℕ → Entry → Trail
put t i e = trail (set t.lits i e.literal) (set t.kinds i e.kind)

-- z at the places from .. to; and zeros there in both buffers, as a cut leaves them [cut.wipes]
unfoldable pub wiped {ℓ} : {A : Type ℓ} → A → List A → ℕ → ℕ → List A
wiped z l from to = sets l from (replicate (to - from) z)

abbrev pub wiped_trail : Trail → ℕ → ℕ → Trail
wiped_trail t from to = trail (wiped (pos 0) t.lits from to) (wiped 0 t.kinds from to)
