-- Sound: what the machine takes is of the grammar, and what it says is that text's. `Left s n bs es` says, in the grammar's words, that the bytes bs
-- bring the state s, with the number n, to a text's end, and that they say es.
use Rattle.std.specs.Prelude.{◌≡◌, Bool, cond, ℕ, ◌+◌, ◌*◌, ◌-◌, ℤ, pos, neg_ℤ}
use Rattle.std.proofs.Math.Path.{refl}
use Rattle.std.proofs.Common.{ap, inl, inr}
use Rattle.std.proofs.Math.Bool.{true, false}
use mathlib.Core.List.{List, [], ◌∷◌, ◌++◌}
use Rattle.std.proofs.Math.Dec.{eqb}
use Rattle.words.specs.Laws.Bools.{or_e, eqb_eq}
use Rattle.grammar.specs.Grammar.{Quantifier, Group, Text, tab, feed, space, '-', '0', 'c', 'f', 'n', 'p', digit, nonzero, printable}
use Rattle.grammar.specs.Grammar.{Blank, a_space, a_tab, Blanks, no_blank, a_blank, Gap, gap, Close, close, Digits, no_digit, a_digit, Positive, positive, Number, nought, above, Literal, plain, minus, Printables, no_more, a_byte, Comment, comment, problem, Numbers, no_number, a_number, Letter, all, some, GroupLine, group, Literals, no_literal, a_literal, ClauseLine, clause, no_comment, a_comment, Groups, no_group, a_group, Clauses, no_clause, a_clause, Spells, text}
use Rattle.grammar.specs.declared.Place.{Place}
use Rattle.grammar.specs.declared.Place.TheVariants.{AtHead, AtCnf, AtFirst, AtSecond, AtLine, AtNumber, AtNumbers, AtLiterals, AtEnd}
use Rattle.grammar.specs.declared.Slot.{Slot}
use Rattle.grammar.specs.declared.Slot.TheVariants.{OfVariables, OfCount, OfGroup, OfClause}
use Rattle.grammar.specs.declared.State.{State}
use Rattle.grammar.specs.declared.State.TheVariants.{Dead, Fresh, Before, Parted, InNumber, Remark, AfterC, AfterCn, AfterMinus}
use Rattle.grammar.specs.declared.Says.TheVariants.{Value}
use Rattle.grammar.specs.Machine.{Event, announces, counts, opens, binds, holds, ends, after, silent, saying, Row, on, starts, rows, choose, blank, between, parted, past, move, start, trace, numbered, if_inside, shift, events}
use Rattle.grammar.specs.Events.{say_numbers, say_literals, say_groups, say_clauses, say}

-- ---- what is left at a line's start, at a place and in a state

pub data Lines : Bool → List ℕ → List Event → Type 0 where
  any_lines : {bs r : List ℕ} {gs : List Group} {cs : List (List ℤ)} {es : List Event} → Groups bs gs r → Clauses r cs [] → say_groups gs (say_clauses cs) ≡ es → Lines true bs es
  clause_lines_lem : {bs : List ℕ} {cs : List (List ℤ)} {es : List Event} → Clauses bs cs [] → say_clauses cs ≡ es → Lines false bs es

pub data At : Place → List ℕ → List Event → Type 0 where
  at_comment : {x y r : List ℕ} {es : List Event} → Printables x (feed ∷ y) → Blanks y r → At AtHead r es → At AtHead ('c' ∷ x) es
  at_problem : {x y : List ℕ} {es : List Event} → Gap x y → At AtCnf y es → At AtHead ('p' ∷ x) es
  at_cnf : {x y : List ℕ} {es : List Event} → Gap x y → At AtFirst y es → At AtCnf ('c' ∷ 'n' ∷ 'f' ∷ x) es
  at_first : {bs x y : List ℕ} {m : ℕ} {es : List Event} → Number bs m x → Gap x y → At AtSecond y es → At AtFirst bs (announces m ∷ es)
  at_second : {bs x y : List ℕ} {n : ℕ} {es : List Event} → Number bs n x → Blanks x y → At (AtEnd true) y es → At AtSecond bs (counts n ∷ es)
  at_letter : {b : ℕ} {x y : List ℕ} {q : Quantifier} {es : List Event} → Letter b q → Gap x y → At AtNumber y es → At (AtLine true) (b ∷ x) (opens q ∷ es)
  at_clause : {more : Bool} {bs : List ℕ} {es : List Event} → At AtLiterals bs es → At (AtLine more) bs es
  at_number : {bs x y : List ℕ} {n : ℕ} {es : List Event} → Positive bs n x → Gap x y → At AtNumbers y es → At AtNumber bs (binds n ∷ es)
  at_more : {bs x y : List ℕ} {n : ℕ} {es : List Event} → Positive bs n x → Gap x y → At AtNumbers y es → At AtNumbers bs (binds n ∷ es)
  at_group_end : {x y : List ℕ} {es : List Event} → Blanks x y → At (AtEnd true) y es → At AtNumbers ('0' ∷ x) es
  at_literal : {bs x y : List ℕ} {l : ℤ} {es : List Event} → Literal bs l x → Gap x y → At AtLiterals y es → At AtLiterals bs (holds l ∷ es)
  at_clause_end : {x y : List ℕ} {es : List Event} → Blanks x y → At (AtEnd false) y es → At AtLiterals ('0' ∷ x) (ends ∷ es)
  at_ending : {more : Bool} {r : List ℕ} {es : List Event} → Lines more r es → At (AtEnd more) (feed ∷ r) es

pub data Left : State → ℕ → List ℕ → List Event → Type 0 where
  left_lines : {v : ℕ} {more : Bool} {bs : List ℕ} {es : List Event} → Lines more bs es → Left (Fresh more) v bs es
  left_blanks : {v : ℕ} {k : Place} {bs r : List ℕ} {es : List Event} → Blanks bs r → At k r es → Left (Before k) v bs es
  left_gap : {v : ℕ} {k : Place} {bs r : List ℕ} {es : List Event} → Gap bs r → At k r es → Left (Parted k) v bs es
  left_digits : {v : ℕ} {f : Slot} {n m : ℕ} {bs r : List ℕ} {es : List Event} → Digits n bs m r → Left (after f) v r es → Left (InNumber f) n bs (numbered f m ∷ es)
  left_remark : {v : ℕ} {bs x r : List ℕ} {es : List Event} → Printables bs (feed ∷ x) → Blanks x r → At AtHead r es → Left Remark v bs es
  left_c : {v : ℕ} {x y : List ℕ} {es : List Event} → Gap x y → At AtFirst y es → Left AfterC v ('n' ∷ 'f' ∷ x) es
  left_cn : {v : ℕ} {x y : List ℕ} {es : List Event} → Gap x y → At AtFirst y es → Left AfterCn v ('f' ∷ x) es
  left_minus : {v : ℕ} {bs x y : List ℕ} {n : ℕ} {es : List Event} → Positive bs n x → Gap x y → At AtLiterals y es → Left AfterMinus v bs (holds (neg_ℤ (pos n)) ∷ es)

nothing_left {ℓ} : {v : ℕ} {A : Type ℓ} {bs : List ℕ} {es : List Event} → Left Dead v bs es → A
nothing_left l = elim l [ ]

-- ---- every row of the table: a word that begins at the place
abbrev Back : Place → Row → Type 0
Back k (on x m) = (n v : ℕ) (bs : List ℕ) (es : List Event) → Left m.to v bs es → At k (x ∷ bs) (events m.says n ++ es)
Back k (starts f) = (n v : ℕ) (bs r : List ℕ) (es : List Event) → Positive bs n r → Left (after f) v r es → At k bs (numbered f n ∷ es)

abbrev AllBack : Place → List Row → Type 0
AllBack k [] = Unit {0}
AllBack k (r ∷ rs) = Back k r × AllBack k rs

remark_at : {v : ℕ} {bs : List ℕ} {es : List Event} → Left Remark v bs es → At AtHead ('c' ∷ bs) es
remark_at (left_remark p b a) = at_comment p b a

cnf_at : {v : ℕ} {bs : List ℕ} {es : List Event} → Left AfterC v bs es → At AtCnf ('c' ∷ bs) es
cnf_at (left_c g a) = at_cnf g a

minus_at : {v : ℕ} {bs : List ℕ} {es : List Event} → Left AfterMinus v bs es → At AtLiterals ('-' ∷ bs) es
minus_at (left_minus p g a) = at_literal (minus p) g a

ending_at : {v : ℕ} {more : Bool} {bs : List ℕ} {es : List Event} → Left (Fresh more) v bs es → At (AtEnd more) (feed ∷ bs) es
ending_at (left_lines l) = at_ending l

-- what blanks that may stand, or must, have behind them
may : {v : ℕ} {k : Place} {bs : List ℕ} {es : List Event} → Left (Before k) v bs es → (r : List ℕ) × Blanks bs r × At k r es
may (left_blanks {r = r} b a) = (r, b, a)

must : {v : ℕ} {k : Place} {bs : List ℕ} {es : List Event} → Left (Parted k) v bs es → (r : List ℕ) × Gap bs r × At k r es
must (left_gap {r = r} g a) = (r, g, a)

word_at : {v : ℕ} {bs r : List ℕ} {es : List Event} {n : ℕ} → Positive bs n r → Left (Parted AtLiterals) v r es → At AtLiterals bs (holds (pos n) ∷ es)
word_at p l = let (r, g, a) = must l in at_literal (plain p) g a

zero_at : {v : ℕ} {bs : List ℕ} {es : List Event} → Left (Before (AtEnd false)) v bs es → At AtLiterals ('0' ∷ bs) (ends ∷ es)
zero_at l = let (r, b, a) = may l in at_clause_end b a

letter_at : {v : ℕ} {b : ℕ} {bs : List ℕ} {es : List Event} {q : Quantifier} → Letter b q → Left (Parted AtNumber) v bs es → At (AtLine true) (b ∷ bs) (opens q ∷ es)
letter_at q l = let (r, g, a) = must l in at_letter q g a

rows_back : (k : Place) → AllBack k (rows k)
unfolding rows
rows_back AtHead = (λ _ _ _ _ l. remark_at l, (λ _ _ _ _ l. let (r, g, a) = must l in at_problem g a, tt))
rows_back AtCnf = (λ _ _ _ _ l. cnf_at l, tt)
rows_back AtFirst = (λ _ _ _ _ _ p l. let (r, g, a) = must l in at_first (above p) g a, (λ _ _ _ _ l. let (r, g, a) = must l in at_first nought g a, tt))
rows_back AtSecond = (λ _ _ _ _ _ p l. let (r, b, a) = may l in at_second (above p) b a, (λ _ _ _ _ l. let (r, b, a) = may l in at_second nought b a, tt))
rows_back (AtLine true) = (λ _ _ _ _ _ p l. at_clause (word_at p l), (λ _ _ _ _ l. at_clause (zero_at l), (λ _ _ _ _ l. at_clause (minus_at l), (λ _ _ _ _ l. letter_at all l, (λ _ _ _ _ l. letter_at some l, tt)))))
rows_back (AtLine false) = (λ _ _ _ _ _ p l. at_clause (word_at p l), (λ _ _ _ _ l. at_clause (zero_at l), (λ _ _ _ _ l. at_clause (minus_at l), tt)))
rows_back AtNumber = (λ _ _ _ _ _ p l. let (r, g, a) = must l in at_number p g a, tt)
rows_back AtNumbers = (λ _ _ _ _ _ p l. let (r, g, a) = must l in at_more p g a, (λ _ _ _ _ l. let (r, b, a) = may l in at_group_end b a, tt))
rows_back AtLiterals = (λ _ _ _ _ _ p l. word_at p l, (λ _ _ _ _ l. zero_at l, (λ _ _ _ _ l. minus_at l, tt)))
rows_back (AtEnd more) = (λ _ _ _ _ l. ending_at l, tt)

choose_back : (k : Place) (rs : List Row) → AllBack k rs → (n b : ℕ) (bs : List ℕ) (es : List Event) → Left (choose rs b).to (if_inside (choose rs b).to (b - '0')) bs es → At k (b ∷ bs) (events (choose rs b).says n ++ es)
unfolding choose
choose_back k [] h n b bs es l = nothing_left l
choose_back k (on x m ∷ rs) h n b bs es l = by (eqb b x) refl l (choose_back k rs h.1 n b bs es)
  where
    by : (c : Bool) → eqb b x ≡ c → Left (cond c m (choose rs b)).to (if_inside (cond c m (choose rs b)).to (b - '0')) bs es → (Left (choose rs b).to (if_inside (choose rs b).to (b - '0')) bs es → At k (b ∷ bs) (events (choose rs b).says n ++ es)) → At k (b ∷ bs) (events (cond c m (choose rs b)).says n ++ es)
    by true e l ih = let z : b ≡ x = eqb_eq b x e in rw z (h.0 n (if_inside m.to (b - '0')) bs es l)
    by false e l ih = ih l
choose_back k (starts f ∷ rs) h n b bs es l = by (nonzero b) refl l (choose_back k rs h.1 n b bs es)
  where
    value : nonzero b ≡ true → {es : List Event} → Left (InNumber f) (b - '0') bs es → At k (b ∷ bs) es
    value e (left_digits d l) = h.0 _ _ (b ∷ bs) _ _ (positive e d) l

    by : (c : Bool) → nonzero b ≡ c → Left (cond c (silent (InNumber f)) (choose rs b)).to (if_inside (cond c (silent (InNumber f)) (choose rs b)).to (b - '0')) bs es → (Left (choose rs b).to (if_inside (choose rs b).to (b - '0')) bs es → At k (b ∷ bs) (events (choose rs b).says n ++ es)) → At k (b ∷ bs) (events (cond c (silent (InNumber f)) (choose rs b)).says n ++ es)
    by true e l ih = value e l
    by false e l ih = ih l

-- ---- a line more
group_more : {bs r : List ℕ} {g : Group} {es : List Event} → GroupLine bs g r → Lines true r es → Lines true bs (opens g.quantifier ∷ say_numbers g.numbers es)
unfolding say_groups
group_more {g} l (any_lines gs cs e) = any_lines (a_group l gs) cs (ap (λ x. opens g.quantifier ∷ say_numbers g.numbers x) e)

clause_more : (more : Bool) {bs r : List ℕ} {ls : List ℤ} {es : List Event} → ClauseLine bs ls r → Lines false r es → Lines more bs (say_literals ls es)
unfolding say_groups say_clauses
clause_more true {ls} l (clause_lines_lem cs e) = any_lines no_group (a_clause l cs) (ap (say_literals ls) e)
clause_more false {ls} l (clause_lines_lem cs e) = clause_lines_lem (a_clause l cs) (ap (say_literals ls) e)

-- the words up to the 0, and the lines after it
pub record GroupRest (bs : List ℕ) (es : List Event) : Type 0 where
  words : List ℕ
  zero : List ℕ
  rest : List ℕ
  later : List Event
  are : Numbers bs words ('0' ∷ zero)
  closed : Close zero rest
  lines : Lines true rest later
  said : say_numbers words later ≡ es

pub record ClauseRest (bs : List ℕ) (es : List Event) : Type 0 where
  words : List ℤ
  zero : List ℕ
  rest : List ℕ
  later : List Event
  are : Literals bs words ('0' ∷ zero)
  closed : Close zero rest
  lines : Lines false rest later
  said : say_literals words later ≡ es

group_rest : {bs : List ℕ} {es : List Event} → At AtNumbers bs es → GroupRest bs es
unfolding say_numbers
group_rest (at_more {n = n} p g a) =
    let r = group_rest a in
    record { words = n ∷ r.words; zero = r.zero; rest = r.rest; later = r.later; are = a_number p g r.are; closed = r.closed; lines = r.lines; said = ap (λ x. binds n ∷ x) r.said }
group_rest (at_group_end {x = x} {es = es} b (at_ending {r = r} l)) =
    record { words = []; zero = x; rest = r; later = es; are = no_number; closed = close b; lines = l; said = refl }

clause_rest : {bs : List ℕ} {es : List Event} → At AtLiterals bs es → ClauseRest bs es
unfolding say_literals
clause_rest (at_literal {l = l} p g a) =
    let r = clause_rest a in
    record { words = l ∷ r.words; zero = r.zero; rest = r.rest; later = r.later; are = a_literal p g r.are; closed = r.closed; lines = r.lines; said = ap (λ x. holds l ∷ x) r.said }
clause_rest (at_clause_end {x = x} {es = es} b (at_ending {r = r} l)) =
    record { words = []; zero = x; rest = r; later = es; are = no_literal; closed = close b; lines = l; said = refl }

line_lines : {v : ℕ} {more : Bool} {bs : List ℕ} {es : List Event} → Left (Before (AtLine more)) v bs es → Lines more bs es
unfolding say_numbers
line_lines (left_blanks s (at_letter {q = q} l g (at_number {n = n} p h a))) =
    let r = group_rest a in
    rw (← r.said) (group_more (group s l g (a_number p h r.are) r.closed) r.lines)
line_lines {more} (left_blanks s (at_clause a)) =
    let r = clause_rest a in
    rw (← r.said) (clause_more more (clause s r.are r.closed) r.lines)

-- ---- every byte
the_blank : (b : ℕ) → blank b ≡ true → Blank b
unfolding blank
the_blank b h = elim (or_e (eqb b space) (eqb b tab) h) [ inl e ↦ rw (eqb_eq b space e) a_space | inr e ↦ rw (eqb_eq b tab e) a_tab ]

c_back : {v w : ℕ} {bs : List ℕ} {es : List Event} → Left AfterCn v bs es → Left AfterC w ('n' ∷ bs) es
c_back (left_cn g a) = left_c g a

minus_back : {v w : ℕ} {bs r : List ℕ} {n : ℕ} {es : List Event} → Positive bs n r → Left (Parted AtLiterals) v r es → Left AfterMinus w bs (holds (neg_ℤ (pos n)) ∷ es)
minus_back p (left_gap g a) = left_minus p g a

module _ (n b : ℕ) (bs : List ℕ) where
  between_back : (k : Place) (es : List Event) → Left (between k b).to (if_inside (between k b).to (b - '0')) bs es → Left (Before k) n (b ∷ bs) (events (between k b).says n ++ es)
  unfolding between
  between_back k es l = by (blank b) refl l
    where
      by : (c : Bool) → blank b ≡ c → Left (cond c (silent (Before k)) (choose (rows k) b)).to (if_inside (cond c (silent (Before k)) (choose (rows k) b)).to (b - '0')) bs es → Left (Before k) n (b ∷ bs) (events (cond c (silent (Before k)) (choose (rows k) b)).says n ++ es)
      by true e (left_blanks s a) = left_blanks (a_blank (the_blank b e) s) a
      by false e l = left_blanks no_blank (choose_back k (rows k) (rows_back k) n b bs es l)

  parted_back : (k : Place) (v : ℕ) (es : List Event) → Left (parted k b) v bs es → Left (Parted k) n (b ∷ bs) es
  unfolding parted
  parted_back k v es l = by (blank b) refl l
    where
      by : (c : Bool) → blank b ≡ c → Left (cond c (Before k) Dead) v bs es → Left (Parted k) n (b ∷ bs) es
      by true e (left_blanks s a) = left_gap (gap (the_blank b e) s) a
      by false e l = nothing_left l

  end_back : (more : Bool) (v : ℕ) (es : List Event) → Left (between (AtEnd more) b).to v bs es → Left (Before (AtEnd more)) n (b ∷ bs) es
  unfolding between choose rows
  end_back more v es l = by (blank b) (eqb b feed) refl refl l
    where
      by : (c d : Bool) → blank b ≡ c → eqb b feed ≡ d → Left (cond c (silent (Before (AtEnd more))) (cond d (silent (Fresh more)) (silent Dead))).to v bs es → Left (Before (AtEnd more)) n (b ∷ bs) es
      by true d e f (left_blanks s a) = left_blanks (a_blank (the_blank b e) s) a
      by false true e f l = rw (eqb_eq b feed f) (left_blanks no_blank (ending_at l))
      by false false e f l = nothing_left l

  past_back : (f : Slot) (v : ℕ) (es : List Event) → Left (past f b) v bs es → Left (after f) n (b ∷ bs) es
  unfolding past
  past_back OfVariables v es l = parted_back AtSecond v es l
  past_back OfCount v es l = end_back true v es l
  past_back OfGroup v es l = parted_back AtNumbers v es l
  past_back (OfClause s) v es l = parted_back AtLiterals v es l

  move_back : (s : State) (es : List Event) → Left (move s b).to (shift s b n) bs es → Left s n (b ∷ bs) (events (move s b).says n ++ es)
  unfolding move shift
  move_back Dead es l = nothing_left l
  move_back (Fresh more) es l = left_lines (line_lines (between_back (AtLine more) es l))
  move_back (Before k) es l = between_back k es l
  move_back (Parted k) es l = parted_back k _ es l
  move_back (InNumber f) es l = by (digit b) refl l
    where
      further : digit b ≡ true → {es : List Event} → Left (InNumber f) (n * 10 + (b - '0')) bs es → Left (InNumber f) n (b ∷ bs) es
      further e (left_digits d l) = left_digits (a_digit e d) l

      by : (c : Bool) → digit b ≡ c → Left (cond c (silent (InNumber f)) (saying (Value f) (past f b))).to (if_inside (cond c (silent (InNumber f)) (saying (Value f) (past f b))).to (n * 10 + (b - '0'))) bs es → Left (InNumber f) n (b ∷ bs) (events (cond c (silent (InNumber f)) (saying (Value f) (past f b))).says n ++ es)
      by true e l = further e l
      by false e l = left_digits no_digit (past_back f _ es l)
  move_back Remark es l = by (printable b) (eqb b feed) refl refl l
    where
      by : (c d : Bool) → printable b ≡ c → eqb b feed ≡ d → Left (cond c Remark (cond d (Before AtHead) Dead)) (if_inside (cond c Remark (cond d (Before AtHead) Dead)) (b - '0')) bs es → Left Remark n (b ∷ bs) es
      by true d e f (left_remark p s a) = left_remark (a_byte e p) s a
      by false true e f (left_blanks s a) = rw (eqb_eq b feed f) (left_remark no_more s a)
      by false false e f l = nothing_left l
  move_back AfterC es l = by (eqb b 'n') refl l
    where
      by : (c : Bool) → eqb b 'n' ≡ c → Left (cond c AfterCn Dead) (if_inside (cond c AfterCn Dead) (b - '0')) bs es → Left AfterC n (b ∷ bs) es
      by true e l = rw (eqb_eq b 'n' e) (c_back l)
      by false e l = nothing_left l
  move_back AfterCn es l = by (eqb b 'f') refl l
    where
      by : (c : Bool) → eqb b 'f' ≡ c → Left (cond c (Parted AtFirst) Dead) (if_inside (cond c (Parted AtFirst) Dead) (b - '0')) bs es → Left AfterCn n (b ∷ bs) es
      by true e (left_gap g a) = rw (eqb_eq b 'f' e) (left_cn g a)
      by false e l = nothing_left l
  move_back AfterMinus es l = by (nonzero b) refl l
    where
      value : nonzero b ≡ true → {es : List Event} → Left (InNumber (OfClause true)) (b - '0') bs es → Left AfterMinus n (b ∷ bs) es
      value e (left_digits d l) = minus_back (positive e d) l

      by : (c : Bool) → nonzero b ≡ c → Left (cond c (InNumber (OfClause true)) Dead) (if_inside (cond c (InNumber (OfClause true)) Dead) (b - '0')) bs es → Left AfterMinus n (b ∷ bs) es
      by true e l = value e l
      by false e l = nothing_left l

-- ---- the whole text
all_read : (more : Bool) → Lines more [] []
unfolding say_groups say_clauses
all_read true = any_lines no_group no_clause refl
all_read false = clause_lines_lem no_clause refl

trace_back : (s : State) (n : ℕ) (bs : List ℕ) (more : Bool) → (trace s n bs).last ≡ Fresh more → Left s n bs (trace s n bs).said
unfolding trace
trace_back s n [] more e = rw e (left_lines (all_read more))
trace_back s n (b ∷ bs) more e = move_back n b bs s (trace (move s b).to (shift s b n) bs).said (trace_back (move s b).to (shift s b n) bs more e)

-- the bytes spell a text, and the events are the text's
pub record Spelt (bs : List ℕ) (es : List Event) : Type 0 where
  pub text : Text
  pub spells : Spells bs text
  pub said : say text ≡ es

commented : {bs x : List ℕ} {t : Text} → Comment bs x → Spells x t → Spells bs t
commented c (text cs p g l) = text (a_comment c cs) p g l

head_spelt : {bs r : List ℕ} {es : List Event} → Blanks bs r → At AtHead r es → Spelt bs es
unfolding say
head_spelt s (at_comment p b a) = let r = head_spelt b a in record { text = r.text; spells = commented (comment s p) r.spells; said = r.said }
head_spelt s (at_problem g (at_cnf h (at_first {m = m} i j (at_second {n = n} k b (at_ending (any_lines {gs = gs} {cs = cs} gl cl e)))))) = record {
  text = record { variables = m; count = n; groups = gs; clauses = cs };
  spells = text no_comment (problem s g h i j k (close b)) gl cl;
  said = ap (λ x. announces m ∷ counts n ∷ x) e;
}

-- what brings the machine from the start to a text's end spells a text, and says it
pub sound : (bs : List ℕ) (more : Bool) → (trace start 0 bs).last ≡ Fresh more → Spelt bs (trace start 0 bs).said
sound bs more e = let (r, b, a) = may (trace_back start 0 bs more e) in head_spelt b a
