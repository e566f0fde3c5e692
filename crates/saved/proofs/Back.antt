-- What goes out comes back in: the reader of a reader's numbers is that reader.
use Rattle.std.specs.Prelude.{◌≡◌, refl, Bool, true, false, List, [], ◌∷◌, ℕ, ◌≤◌, ℤ, length}
use Rattle.std.proofs.Common.{◌∙◌, ap}
use Rattle.std.proofs.lemmas.List.Edits.{sets-eq}
use mir.Val.{bool_byte}
use Rattle.grammar.specs.declared.Place.{Place}
use Rattle.grammar.specs.declared.Place.TheVariants.{AtHead, AtCnf, AtFirst, AtSecond, AtLine, AtNumber, AtNumbers, AtLiterals, AtEnd}
use Rattle.grammar.specs.declared.Slot.{Slot}
use Rattle.grammar.specs.declared.Slot.TheVariants.{OfVariables, OfCount, OfGroup, OfClause}
use Rattle.grammar.specs.declared.State.{State}
use Rattle.grammar.specs.declared.State.TheVariants.{Dead, Fresh, Before, Parted, InNumber, Remark, AfterC, AfterCn, AfterMinus}
use Rattle.reader.specs.declared.Kept.{Kept}
use Rattle.reader.specs.declared.Reader.{Reader}
use Rattle.grammar.specs.Machine.{Event, announces, counts, opens, binds, holds, ends, move, events}
use Rattle.reader.specs.Keep.{capped, keep, keeps}
use Rattle.reader.specs.Byte.{byte_of}
use Rattle.reader.proofs.Laws.Capped.{cap_cap}
use Rattle.text.specs.Pieces.{piece_of, begun}
use Rattle.saved.specs.Numbers.{bit_of, bit_number, place_of, place_number, slot_of, slot_number, state_of, kind_number, held_number, kept_of, reader_numbers, reader_of, written}
use Rattle.saved.specs.Within.{KeptWithin, Within}

-- a truth as a byte
pub bit : (p : Bool) → bit_number p ≡ bool_byte p
bit true = refl
bit false = refl

-- ---- a state
bit_back : (p : Bool) → bit_of (bit_number p) ≡ p
bit_back true = refl
bit_back false = refl

place_back : (k : Place) → place_of (place_number k) ≡ k
unfolding place_of
place_back AtHead = refl
place_back AtCnf = refl
place_back AtFirst = refl
place_back AtSecond = refl
place_back (AtLine true) = refl
place_back (AtLine false) = refl
place_back AtNumber = refl
place_back AtNumbers = refl
place_back AtLiterals = refl
place_back (AtEnd true) = refl
place_back (AtEnd false) = refl

slot_back : (f : Slot) → slot_of (slot_number f) ≡ f
unfolding slot_of
slot_back OfVariables = refl
slot_back OfCount = refl
slot_back OfGroup = refl
slot_back (OfClause true) = refl
slot_back (OfClause false) = refl

state_back : (s : State) → state_of (kind_number s) (held_number s) ≡ s
unfolding state_of
state_back (Fresh more) = ap Fresh (bit_back more)
state_back (Before k) = ap Before (place_back k)
state_back (Parted k) = ap Parted (place_back k)
state_back (InNumber f) = ap InNumber (slot_back f)
state_back Remark = refl
state_back AfterC = refl
state_back AfterCn = refl
state_back AfterMinus = refl
state_back Dead = refl

pub comes_back : (r : Reader) (s : List ℕ) → Within r → 12 ≤ length s → reader_of (written r s) ≡ r
unfolding reader_of kept_of
comes_back r s w h =
    let k = w.kept in
    ap reader_of (sets-eq (reader_numbers r) s 0 h)
    ∙ rw
    (state_back r.state, w.number, k.variables, k.count, k.bound, k.clauses, k.literals, bit_back r.kept.universal, bit_back r.kept.large, bit_back r.kept.over)

-- ---- all that the calls give are within it
keep_within : (k : Kept) (o : List ℤ) (e : Event) → KeptWithin k → KeptWithin (keep k o e).answer
unfolding keep
keep_within k o (announces n) w = record { variables = cap_cap n; count = w.count; bound = w.bound; clauses = w.clauses; literals = w.literals }
keep_within k o (counts n) w = record { variables = w.variables; count = cap_cap n; bound = w.bound; clauses = w.clauses; literals = w.literals }
keep_within k o (opens q) w = record { variables = w.variables; count = w.count; bound = w.bound; clauses = w.clauses; literals = w.literals }
keep_within k o (binds n) w = record { variables = w.variables; count = w.count; bound = cap_cap _; clauses = w.clauses; literals = w.literals }
keep_within k o (holds l) w = record { variables = w.variables; count = w.count; bound = w.bound; clauses = w.clauses; literals = cap_cap _ }
keep_within k o ends w = record { variables = w.variables; count = w.count; bound = w.bound; clauses = cap_cap _; literals = w.literals }

keeps_within : (k : Kept) (o : List ℤ) (es : List Event) → KeptWithin k → KeptWithin (keeps k o es).answer
unfolding keeps
keeps_within k o [] w = w
keeps_within k o (e ∷ es) w = keeps_within (keep k o e).answer (keep k o e).memory es (keep_within k o e w)

byte_within : (r : Reader) (o : List ℤ) (b : ℕ) → Within r → Within (byte_of r o b).answer
unfolding byte_of
byte_within r o b w = record { number = cap_cap _; kept = keeps_within r.kept o (events (move r.state b).says r.number) w.kept }

pub piece_within : (bs : List ℕ) (r : Reader) (o : List ℤ) → Within r → Within (piece_of bs r o).answer
unfolding piece_of
piece_within [] r o w = w
piece_within (b ∷ bs) r o w = piece_within bs (byte_of r o b).answer (byte_of r o b).memory (byte_within r o b w)

pub reader_within : (s : List ℕ) → Within (reader_of s)
unfolding reader_of kept_of
reader_within s = record { number = cap_cap _; kept = record { variables = cap_cap _; count = cap_cap _; bound = cap_cap _; clauses = cap_cap _; literals = cap_cap _ } }

pub begun_within : Within begun
unfolding begun capped
begun_within = record { number = refl; kept = record { variables = refl; count = refl; bound = refl; clauses = refl; literals = refl } }
