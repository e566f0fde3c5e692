-- The machine that reads a text byte by byte: a state, which remembers where in a line it is, and a number, the value of the digits so far. What it has
-- read it says, in events. What may begin at a place is a table.
use Rattle.std.specs.Prelude.{Bool, true, false, cond, ◌||◌, List, [], ◌∷◌, ◌++◌, ℕ, ◌+◌, ◌*◌, ◌-◌, eqb, ℤ, pos, neg_ℤ}
use Rattle.grammar.specs.Grammar.{Quantifier, forall, exists, tab, feed, space, '-', '0', 'a', 'c', 'e', 'f', 'n', 'p', digit, nonzero, printable}
use Rattle.grammar.specs.declared.Place.{Place}
use Rattle.grammar.specs.declared.Place.TheVariants.{AtHead, AtCnf, AtFirst, AtSecond, AtLine, AtNumber, AtNumbers, AtLiterals, AtEnd}
use Rattle.grammar.specs.declared.Slot.{Slot}
use Rattle.grammar.specs.declared.Slot.TheVariants.{OfVariables, OfCount, OfGroup, OfClause}
use Rattle.grammar.specs.declared.State.{State}
use Rattle.grammar.specs.declared.State.TheVariants.{Dead, Fresh, Before, Parted, InNumber, Remark, AfterC, AfterCn, AfterMinus}
use Rattle.grammar.specs.declared.Says.{Says}
use Rattle.grammar.specs.declared.Says.TheVariants.{Nothing, Zero, Value, Forall, Exists, Ends}
use Rattle.grammar.specs.declared.Move.{Move}

-- a number is at its end: what comes then
abbrev pub after : Slot → State
after OfVariables = Parted AtSecond
after OfCount = Before (AtEnd true)
after OfGroup = Parted AtNumbers
after (OfClause s) = Parted AtLiterals

-- ---- one byte: the next state, and what is said
abbrev pub saying : Says → State → Move
saying w s = record { to = s; says = w }

abbrev pub silent : State → Move
silent s = saying Nothing s

-- what a word may begin with at a place: a byte, or a digit but 0
pub data Row : Type 0 where
  on : ℕ → Move → Row
  starts : Slot → Row

abbrev pub clause_rows : List Row → List Row
clause_rows rs = starts (OfClause false) ∷ on '0' (saying Ends (Before (AtEnd false))) ∷ on '-' (silent AfterMinus) ∷ rs

unfoldable pub rows : Place → List Row
rows AtHead = on 'c' (silent Remark) ∷ on 'p' (silent (Parted AtCnf)) ∷ []
rows AtCnf = on 'c' (silent AfterC) ∷ []
rows AtFirst = starts OfVariables ∷ on '0' (saying (Zero OfVariables) (Parted AtSecond)) ∷ []
rows AtSecond = starts OfCount ∷ on '0' (saying (Zero OfCount) (Before (AtEnd true))) ∷ []
rows (AtLine true) = clause_rows (on 'a' (saying Forall (Parted AtNumber)) ∷ on 'e' (saying Exists (Parted AtNumber)) ∷ [])
rows (AtLine false) = clause_rows []
rows AtNumber = starts OfGroup ∷ []
rows AtNumbers = starts OfGroup ∷ on '0' (silent (Before (AtEnd true))) ∷ []
rows AtLiterals = clause_rows []
rows (AtEnd more) = on feed (silent (Fresh more)) ∷ []

unfoldable pub choose : List Row → ℕ → Move
choose [] b = silent Dead
choose (on x m ∷ rs) b = cond (eqb b x) m (choose rs b)
choose (starts f ∷ rs) b = cond (nonzero b) (silent (InNumber f)) (choose rs b)

unfoldable pub blank : ℕ → Bool
blank b = eqb b space || eqb b tab

-- before a word: blanks may stand, or one must
unfoldable pub between : Place → ℕ → Move
between k b = cond (blank b) (silent (Before k)) (choose (rows k) b)

unfoldable pub parted : Place → ℕ → State
parted k b = cond (blank b) (Before k) Dead

-- past a number
unfoldable pub past : Slot → ℕ → State
past OfVariables b = parted AtSecond b
past OfCount b = (between (AtEnd true) b).to
past OfGroup b = parted AtNumbers b
past (OfClause s) b = parted AtLiterals b

unfoldable pub move : State → ℕ → Move
move Dead b = silent Dead
move (Fresh more) b = between (AtLine more) b
move (Before k) b = between k b
move (Parted k) b = silent (parted k b)
move (InNumber f) b = cond (digit b) (silent (InNumber f)) (saying (Value f) (past f b))
move Remark b = silent (cond (printable b) Remark (cond (eqb b feed) (Before AtHead) Dead))
move AfterC b = silent (cond (eqb b 'n') AfterCn Dead)
move AfterCn b = silent (cond (eqb b 'f') (Parted AtFirst) Dead)
move AfterMinus b = silent (cond (nonzero b) (InNumber (OfClause true)) Dead)

-- ---- what the code asks of a state: a number is being read; the text may end here; no text goes on so
abbrev pub inside : State → Bool
inside (InNumber f) = true
inside Dead = false
inside (Fresh more) = false
inside (Before k) = false
inside (Parted k) = false
inside Remark = false
inside AfterC = false
inside AfterCn = false
inside AfterMinus = false

unfoldable pub fresh : State → Bool
fresh (Fresh more) = true
fresh Dead = false
fresh (Before k) = false
fresh (Parted k) = false
fresh (InNumber f) = false
fresh Remark = false
fresh AfterC = false
fresh AfterCn = false
fresh AfterMinus = false

unfoldable pub alive : State → Bool
alive Dead = false
alive (Fresh more) = true
alive (Before k) = true
alive (Parted k) = true
alive (InNumber f) = true
alive Remark = true
alive AfterC = true
alive AfterCn = true
alive AfterMinus = true

-- the number: a first digit, or one more; outside of a number it is 0
abbrev pub if_inside : State → ℕ → ℕ
if_inside s n = cond (inside s) n 0

abbrev pub one_more : State → ℕ → ℕ → ℕ
one_more s d n = cond (inside s) (n * 10 + d) d

unfoldable pub shift : State → ℕ → ℕ → ℕ
shift s b n = if_inside (move s b).to (one_more s (b - '0') n)

abbrev pub start : State
start = Before AtHead

-- ---- events: the problem line's two numbers; a quantifier, and each number that it binds; each literal, and a clause's end
pub data Event : Type 0 where
  announces counts : ℕ → Event
  opens : Quantifier → Event
  binds : ℕ → Event
  holds : ℤ → Event
  ends : Event

abbrev pub signed : Bool → ℕ → ℤ
signed true n = neg_ℤ (pos n)
signed false n = pos n

abbrev pub numbered : Slot → ℕ → Event
numbered OfVariables n = announces n
numbered OfCount n = counts n
numbered OfGroup n = binds n
numbered (OfClause s) n = holds (signed s n)

abbrev pub events : Says → ℕ → List Event
events Nothing n = []
events (Zero f) n = numbered f 0 ∷ []
events (Value f) n = numbered f n ∷ []
events Forall n = opens forall ∷ []
events Exists n = opens exists ∷ []
events Ends n = ends ∷ []

-- ---- many bytes: the state that they lead to; and with it all that is said
unfoldable pub reach : State → List ℕ → State
reach s [] = s
reach s (b ∷ bs) = reach (move s b).to bs

pub record Trace : Type 0 where
  pub last : State
  pub said : List Event

abbrev pub before : List Event → Trace → Trace
before es r = record { last = r.last; said = es ++ r.said }

unfoldable pub trace : State → ℕ → List ℕ → Trace
trace s n [] = record { last = s; said = [] }
trace s n (b ∷ bs) = before (events (move s b).says n) (trace (move s b).to (shift s b n) bs)
