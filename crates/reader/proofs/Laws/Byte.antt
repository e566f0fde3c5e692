-- One byte follows the machine: that numbers are capped makes no difference to what is kept.
use Rattle.std.specs.Prelude.{◌≡◌, refl, Bool, true, false, cond, List, ℕ, suc, min, ℤ}
use Rattle.std.proofs.Common.{arith}
use Rattle.words.specs.Outcomes.{outcome}
use Rattle.grammar.specs.declared.State.{State}
use Rattle.grammar.specs.Machine.{alive, move, shift, events}
use Rattle.reader.specs.declared.Kept.{Kept}
use Rattle.reader.specs.declared.Reader.{Reader}
use Rattle.reader.specs.Keep.{capped, keeps}
use Rattle.reader.specs.Byte.{last_place, counted, byte_of}
use Rattle.reader.proofs.Laws.Capped.{capped_shift, cap_shift}
use Rattle.reader.proofs.Laws.Kept.{events_cap}

-- a state whose number is capped, and its count of bytes
abbrev pub reader : State → ℕ → ℕ → Kept → Reader
reader s n a k = record { state = s; number = capped n; at = min a last_place; kept = k }

pub byte_follows : (s : State) (n a : ℕ) (k : Kept) (o : List ℤ) (b : ℕ)
    → let z = keeps k o (events (move s b).says n) in
    byte_of (reader s n a k) o b ≡ outcome (reader (move s b).to (shift s b n) (cond (alive (move s b).to) (suc a) a) z.answer) z.memory
unfolding byte_of capped_shift
byte_follows s n a k o b = rw (cap_shift s b n, events_cap k o (move s b).says n, at (alive (move s b).to))
  where
    at : (c : Bool) → counted c (min a last_place) ≡ min (cond c (suc a) a) last_place
    at true = omega arith
    at false = refl
