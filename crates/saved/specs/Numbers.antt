-- A reader between two pieces as twelve numbers, out and in.
use Rattle.std.specs.Prelude.{ℕ, suc, Bool, true, false, cond, List, [], ◌∷◌, eqb, get_or}
use Rattle.std.proofs.lemmas.List.Edits.{sets}
use Rattle.grammar.specs.declared.Place.{Place}
use Rattle.grammar.specs.declared.Place.TheVariants.{AtHead, AtCnf, AtFirst, AtSecond, AtLine, AtNumber, AtNumbers, AtLiterals, AtEnd}
use Rattle.grammar.specs.declared.Slot.{Slot}
use Rattle.grammar.specs.declared.Slot.TheVariants.{OfVariables, OfCount, OfGroup, OfClause}
use Rattle.grammar.specs.declared.State.{State}
use Rattle.grammar.specs.declared.State.TheVariants.{Dead, Fresh, Before, Parted, InNumber, Remark, AfterC, AfterCn, AfterMinus}
use Rattle.reader.specs.declared.Kept.{Kept}
use Rattle.reader.specs.declared.Reader.{Reader}
use Rattle.reader.specs.Keep.{capped}

-- ---- [calls.pieces] the reader's state as two numbers, a kind and what it holds. Of what it holds a number over the last one counts as the last one;
-- a number that is no kind's counts as 0, Dead: no text goes on so
-- what stands at place n of a list that begins at i, and elsewhere z
abbrev pub pick : {A : Type 0} → List A → A → ℕ → ℕ → A
pick [] z i n = z
pick (x ∷ xs) z i n = cond (eqb n i) x (pick xs z (suc i) n)

abbrev pub bit_of : ℕ → Bool
bit_of n = pick (false ∷ []) true 0 n

unfoldable pub place_of : ℕ → Place
place_of n = pick (AtHead ∷ AtCnf ∷ AtFirst ∷ AtSecond ∷ AtLine false ∷ AtLine true ∷ AtNumber ∷ AtNumbers ∷ AtLiterals ∷ AtEnd false ∷ []) (AtEnd true) 0 n

unfoldable pub slot_of : ℕ → Slot
slot_of n = pick (OfVariables ∷ OfCount ∷ OfGroup ∷ OfClause false ∷ []) (OfClause true) 0 n

unfoldable pub state_of : ℕ → ℕ → State
state_of k n = pick (Fresh (bit_of n) ∷ Before (place_of n) ∷ Parted (place_of n) ∷ InNumber (slot_of n) ∷ Remark ∷ AfterC ∷ AfterCn ∷ AfterMinus ∷ []) Dead 1 k

abbrev pub bit_number : Bool → ℕ
bit_number p = cond p 1 0

abbrev pub place_number : Place → ℕ
place_number AtHead = 0
place_number AtCnf = 1
place_number AtFirst = 2
place_number AtSecond = 3
place_number (AtLine more) = cond more 5 4
place_number AtNumber = 6
place_number AtNumbers = 7
place_number AtLiterals = 8
place_number (AtEnd more) = cond more 10 9

abbrev pub slot_number : Slot → ℕ
slot_number OfVariables = 0
slot_number OfCount = 1
slot_number OfGroup = 2
slot_number (OfClause s) = cond s 4 3

abbrev pub kind_number : State → ℕ
kind_number Dead = 0
kind_number (Fresh more) = 1
kind_number (Before k) = 2
kind_number (Parted k) = 3
kind_number (InNumber f) = 4
kind_number Remark = 5
kind_number AfterC = 6
kind_number AfterCn = 7
kind_number AfterMinus = 8

abbrev pub held_number : State → ℕ
held_number (Fresh more) = bit_number more
held_number (Before k) = place_number k
held_number (Parted k) = place_number k
held_number (InNumber f) = slot_number f
held_number Remark = 0
held_number AfterC = 0
held_number AfterCn = 0
held_number AfterMinus = 0
held_number Dead = 0

-- ---- the whole reader as twelve numbers, out and in
abbrev pub kept_numbers : Kept → List ℕ
kept_numbers k =
    k.variables ∷ k.count ∷ bit_number k.universal ∷ k.bound ∷ k.clauses ∷ k.literals ∷ bit_number k.large ∷ bit_number k.over ∷ []

abbrev pub reader_numbers : Reader → List ℕ
reader_numbers r = kind_number r.state ∷ held_number r.state ∷ r.number ∷ r.at ∷ kept_numbers r.kept

unfoldable pub kept_of : List ℕ → Kept
kept_of s = record {
  variables = capped (get_or s 4 0);
  count = capped (get_or s 5 0);
  universal = bit_of (get_or s 6 0);
  bound = capped (get_or s 7 0);
  clauses = capped (get_or s 8 0);
  literals = capped (get_or s 9 0);
  large = bit_of (get_or s 10 0);
  over = bit_of (get_or s 11 0);
}

unfoldable pub reader_of : List ℕ → Reader
reader_of s = record { state = state_of (get_or s 0 0) (get_or s 1 0); number = capped (get_or s 2 0); at = get_or s 3 0; kept = kept_of s }

-- in an array, at its first places
abbrev pub written : Reader → List ℕ → List ℕ
written r s = sets s 0 (reader_numbers r)
