-- What is kept, whatever the events: capped numbers leave the same, and the output keeps its length.
use Rattle.std.specs.Prelude.{◌≡◌, refl, List, [], ◌∷◌, ◌++◌, ℕ, ℤ, length}
use Rattle.std.proofs.Common.{◌∙◌, length-set}
use Rattle.grammar.specs.declared.Slot.{Slot}
use Rattle.grammar.specs.declared.Slot.TheVariants.{OfVariables, OfCount, OfGroup, OfClause}
use Rattle.grammar.specs.declared.Says.{Says}
use Rattle.grammar.specs.declared.Says.TheVariants.{Nothing, Zero, Value, Forall, Exists, Ends}
use Rattle.grammar.specs.Machine.{Event, announces, counts, opens, binds, holds, ends, numbered, events}
use Rattle.reader.specs.declared.Kept.{Kept}
use Rattle.reader.specs.Keep.{capped, keep, keeps}
use Rattle.reader.proofs.Laws.Capped.{cap_cap, same_word}

-- ---- capped numbers
keep_cap : (k : Kept) (o : List ℤ) (f : Slot) (n : ℕ) → keep k o (numbered f (capped n)) ≡ keep k o (numbered f n)
unfolding keep
keep_cap k o OfVariables n = rw (cap_cap n)
keep_cap k o OfCount n = rw (cap_cap n)
keep_cap k o OfGroup n = rw (cap_cap n)
keep_cap k o (OfClause s) n = let w = same_word n s in rw (w.word, w.large)

pub events_cap : (k : Kept) (o : List ℤ) (w : Says) (n : ℕ) → keeps k o (events w (capped n)) ≡ keeps k o (events w n)
unfolding keeps
events_cap k o Nothing n = refl
events_cap k o (Zero f) n = refl
events_cap k o (Value f) n = keep_cap k o f n
events_cap k o Forall n = refl
events_cap k o Exists n = refl
events_cap k o Ends n = refl

-- ---- many events
pub keeps_append : (k : Kept) (o : List ℤ) (es fs : List Event) → keeps k o (es ++ fs) ≡ keeps (keeps k o es).answer (keeps k o es).memory fs
unfolding keeps
keeps_append k o [] fs = refl
keeps_append k o (e ∷ es) fs = keeps_append (keep k o e).answer (keep k o e).memory es fs

-- ---- the output keeps its length
keep_length : (k : Kept) (o : List ℤ) (e : Event) → length (keep k o e).memory ≡ length o
unfolding keep
keep_length k o (announces n) = refl
keep_length k o (counts n) = refl
keep_length k o (opens q) = refl
keep_length k o (binds n) = simp length-set
keep_length k o (holds l) = simp length-set
keep_length k o ends = simp length-set

pub keeps_length : (k : Kept) (o : List ℤ) (es : List Event) → length (keeps k o es).memory ≡ length o
unfolding keeps
keeps_length k o [] = refl
keeps_length k o (e ∷ es) = keeps_length (keep k o e).answer (keep k o e).memory es ∙ keep_length k o e
