-- Complete: the machine takes what is of the grammar, and says it. Each relation of the grammar brings it from one state to another.
use Rattle.std.specs.Prelude.{◌≡◌, refl, Bool, true, false, List, [], ◌∷◌, ℕ, ◌≤◌, leb, ℤ, pos, neg_ℤ}
use Rattle.std.proofs.Common.{◌∙◌, ap, arith, leb-true, ne_eqb}
use Rattle.words.specs.Laws.Bools.{and_l}
use Rattle.grammar.specs.Grammar.{Quantifier, forall, exists, Group, Text, tab, space, '0', digit, nonzero, printable}
use Rattle.grammar.specs.Grammar.{a_space, a_tab, Blanks, no_blank, a_blank, Gap, gap, Close, close, Digits, no_digit, a_digit, Positive, positive, Number, nought, above, Literal, plain, minus, Printables, no_more, a_byte, comment, Problem, problem, Numbers, no_number, a_number, Letter, all, some, GroupLine, group, Literals, no_literal, a_literal, ClauseLine, clause, Comments, no_comment, a_comment, Groups, no_group, a_group, Clauses, no_clause, a_clause, Spells, text}
use Rattle.grammar.specs.declared.Place.{Place}
use Rattle.grammar.specs.declared.Place.TheVariants.{AtHead, AtCnf, AtFirst, AtSecond, AtLine, AtNumber, AtNumbers, AtLiterals, AtEnd}
use Rattle.grammar.specs.declared.Slot.{Slot}
use Rattle.grammar.specs.declared.Slot.TheVariants.{OfVariables, OfCount, OfGroup, OfClause}
use Rattle.grammar.specs.declared.State.TheVariants.{Fresh, Before, Parted, InNumber, Remark}
use Rattle.grammar.specs.Machine.{Event, announces, counts, opens, binds, holds, ends, after, Row, starts, clause_rows, rows, choose, blank, between, parted, past, move, start, Trace, before, trace, numbered, shift}
use Rattle.grammar.specs.Events.{say_numbers, say_literals, say_groups, say_clauses, say}

-- one event more

abbrev then : Event → Trace → Trace
then e r = before (e ∷ []) r

-- ---- blanks
blanks_run : {bs r : List ℕ} (k : Place) → Blanks bs r → trace (Before k) 0 bs ≡ trace (Before k) 0 r
unfolding trace move between blank shift
blanks_run k no_blank = refl
blanks_run k (a_blank a_space h) = blanks_run k h
blanks_run k (a_blank a_tab h) = blanks_run k h

gap_run : {bs r : List ℕ} (k : Place) → Gap bs r → trace (Parted k) 0 bs ≡ trace (Before k) 0 r
unfolding trace move parted blank shift
gap_run k (gap a_space h) = blanks_run k h
gap_run k (gap a_tab h) = blanks_run k h

close_run : {bs r : List ℕ} (more : Bool) → Close bs r → trace (Before (AtEnd more)) 0 bs ≡ trace (Fresh more) 0 r
unfolding trace move between blank choose rows shift
close_run more (close b) = blanks_run (AtEnd more) b

-- ---- numbers
digits_run : {n m : ℕ} {bs r : List ℕ} (f : Slot) → Digits n bs m r → trace (InNumber f) n bs ≡ trace (InNumber f) m r
unfolding trace move shift
digits_run f no_digit = refl
digits_run f (a_digit e d) = rw e (digits_run f d)

-- a number ends before a blank or a line feed, and is said
gap_ends : {bs r : List ℕ} (n : ℕ) (f : Slot) → Gap bs r → trace (InNumber f) n bs ≡ then (numbered f n) (trace (after f) 0 bs)
unfolding trace move digit past parted between blank shift
gap_ends n OfVariables (gap a_space h) = refl
gap_ends n OfVariables (gap a_tab h) = refl
gap_ends n OfCount (gap a_space h) = refl
gap_ends n OfCount (gap a_tab h) = refl
gap_ends n OfGroup (gap a_space h) = refl
gap_ends n OfGroup (gap a_tab h) = refl
gap_ends n (OfClause s) (gap a_space h) = refl
gap_ends n (OfClause s) (gap a_tab h) = refl

close_ends : {bs r : List ℕ} (n : ℕ) → Close bs r → trace (InNumber OfCount) n bs ≡ then (counts n) (trace (Before (AtEnd true)) 0 bs)
unfolding trace move digit past between blank choose rows shift
close_ends n (close no_blank) = refl
close_ends n (close (a_blank a_space h)) = refl
close_ends n (close (a_blank a_tab h)) = refl

no_blank_digit : (b : ℕ) → nonzero b ≡ true → blank b ≡ false
unfolding nonzero blank
no_blank_digit b h =
    let k : 49 ≤ b = leb-true 49 b (and_l (leb 49 b) (leb b 57) h) in
    let z : b ≡ space → ⊥ = λ e. omega arith in
    let y : b ≡ tab → ⊥ = λ e. omega arith in
    rw (ne_eqb b space z, ne_eqb b tab y)

-- where a number may begin; and a whole one, up to the gap after it
positive_run : {n : ℕ} {bs r : List ℕ} (k : Place) (f : Slot) (rs : List Row) → rows k ≡ starts f ∷ rs → Positive bs n r → trace (Before k) 0 bs ≡ trace (InNumber f) n r
unfolding trace move between choose shift
positive_run k f rs e (positive {b = b} h d) = rw (no_blank_digit b h, e, h) (digits_run f d)

word_run : {n : ℕ} {bs x y : List ℕ} (k : Place) (f : Slot) (rs : List Row) → rows k ≡ starts f ∷ rs → Positive bs n x → Gap x y → trace (Before k) 0 bs ≡ then (numbered f n) (trace (after f) 0 x)
word_run {n} k f rs e p g = positive_run k f rs e p ∙ gap_ends n f g

-- ---- the problem line
first_run : {m : ℕ} {bs x y : List ℕ} → Number bs m x → Gap x y → trace (Before AtFirst) 0 bs ≡ then (announces m) (trace (Before AtSecond) 0 y)
unfolding trace move between blank choose rows nonzero shift
first_run nought g = ap (then (announces 0)) (gap_run AtSecond g)
first_run {m} (above p) g = word_run AtFirst OfVariables _ refl p g ∙ ap (then (announces m)) (gap_run AtSecond g)

second_run : {n : ℕ} {bs x r : List ℕ} → Number bs n x → Close x r → trace (Before AtSecond) 0 bs ≡ then (counts n) (trace (Fresh true) 0 r)
unfolding trace move between blank choose rows nonzero shift
second_run nought c = ap (then (counts 0)) (close_run true c)
second_run {n} (above p) c = positive_run AtSecond OfCount _ refl p ∙ close_ends n c ∙ ap (then (counts n)) (close_run true c)

problem_run : {m n : ℕ} {bs r : List ℕ} → Problem bs m n r → trace start 0 bs ≡ then (announces m) (then (counts n) (trace (Fresh true) 0 r))
unfolding trace move between blank choose rows shift
problem_run {m} (problem b g h i j k c) = blanks_run AtHead b ∙ gap_run AtCnf g ∙ gap_run AtFirst h ∙ first_run i j ∙ ap (then (announces m)) (second_run k c)

printables_run : {bs r : List ℕ} → Printables bs r → trace Remark 0 bs ≡ trace Remark 0 r
unfolding trace move shift
printables_run no_more = refl
printables_run (a_byte e p) = rw e (printables_run p)

comments_run : {bs r : List ℕ} → Comments bs r → trace start 0 bs ≡ trace start 0 r
unfolding trace move between blank choose rows printable shift
comments_run no_comment = refl
comments_run (a_comment (comment b p) c) = blanks_run AtHead b ∙ printables_run p ∙ comments_run c

-- ---- a group's line
fresh_blanks : {bs r : List ℕ} (more : Bool) → Blanks bs r → trace (Fresh more) 0 r ≡ trace (Before (AtLine more)) 0 r → trace (Fresh more) 0 bs ≡ trace (Before (AtLine more)) 0 r
unfolding trace move between blank shift
fresh_blanks more no_blank e = e
fresh_blanks more (a_blank a_space h) e = blanks_run (AtLine more) h
fresh_blanks more (a_blank a_tab h) e = blanks_run (AtLine more) h

-- what a text's end says, with events before it
abbrev Done : Trace → List Event → Type 0
Done r es = (more : Bool) × (r ≡ record { last = Fresh more; said = es })

numbers_end : {bs ns z r : List ℕ} {es : List Event} → Numbers bs ns ('0' ∷ z) → Close z r → Done (trace (Fresh true) 0 r) es → Done (trace (Before AtNumbers) 0 bs) (say_numbers ns es)
unfolding trace move between blank choose rows nonzero say_numbers shift
numbers_end no_number c (more, e) = (more, close_run true c ∙ e)
numbers_end (a_number {n = n} p g h) c e =
    let (more, f) = numbers_end h c e in
    (more, word_run AtNumbers OfGroup _ refl p g ∙ ap (then (binds n)) (gap_run AtNumbers g ∙ f))

letter_run : {b : ℕ} {x y : List ℕ} {q : Quantifier} → Letter b q → Gap x y → trace (Before (AtLine true)) 0 (b ∷ x) ≡ then (opens q) (trace (Before AtNumber) 0 y)
unfolding trace move between blank choose rows nonzero shift
letter_run all g = ap (then (opens forall)) (gap_run AtNumber g)
letter_run some g = ap (then (opens exists)) (gap_run AtNumber g)

group_end : {bs r : List ℕ} {g : Group} {es : List Event} → GroupLine bs g r → Done (trace (Fresh true) 0 r) es → Done (trace (Fresh true) 0 bs) (opens g.quantifier ∷ say_numbers g.numbers es)
unfolding trace move rows say_numbers shift
group_end (group {n = n} {q = q} b l g (a_number p h m) c) e =
    let (more, f) = numbers_end m c e in
    (more, fresh_blanks true b refl ∙ letter_run l g ∙ ap (then (opens q)) (word_run AtNumber OfGroup [] refl p h ∙ ap (then (binds n)) (gap_run AtNumbers h ∙ f)))

-- ---- a clause's line
literal_run : {bs x y : List ℕ} {l : ℤ} (k : Place) (rs : List Row) → rows k ≡ clause_rows rs → Literal bs l x → Gap x y → trace (Before k) 0 bs ≡ then (holds l) (trace (Before AtLiterals) 0 y)
unfolding trace move between blank choose nonzero shift
literal_run k rs e (plain {n = n} p) g = word_run k (OfClause false) _ e p g ∙ ap (then (holds (pos n))) (gap_run AtLiterals g)
literal_run k rs e (minus (positive {n = n} h d)) g =
    rw (e, h) (digits_run (OfClause true) d ∙ gap_ends n (OfClause true) g ∙ ap (then (holds (neg_ℤ (pos n)))) (gap_run AtLiterals g))

literals_end : {bs z r : List ℕ} {ls : List ℤ} {es : List Event} (k : Place) (rs : List Row) → rows k ≡ clause_rows rs → Literals bs ls ('0' ∷ z) → Close z r → Done (trace (Fresh false) 0 r) es → Done (trace (Before k) 0 bs) (say_literals ls es)
unfolding trace move between blank choose rows nonzero say_literals shift
literals_end k rs e no_literal c (more, f) = (more, rw e (ap (then ends) (close_run false c ∙ f)))
literals_end k rs e (a_literal {l = l} p g h) c d =
    let (more, f) = literals_end AtLiterals [] refl h c d in
    (more, literal_run k rs e p g ∙ ap (then (holds l)) f)

some_byte : {x y : List ℕ} {ls : List ℤ} (more : Bool) → Literals x ls ('0' ∷ y) → trace (Fresh more) 0 x ≡ trace (Before (AtLine more)) 0 x
unfolding trace move shift
some_byte more no_literal = refl
some_byte more (a_literal (plain (positive h d)) g m) = refl
some_byte more (a_literal (minus p) g m) = refl

line_rows : (more : Bool) → (rs : List Row) × (rows (AtLine more) ≡ clause_rows rs)
unfolding rows
line_rows true = (_, refl)
line_rows false = (_, refl)

clause_end : {bs r : List ℕ} {ls : List ℤ} {es : List Event} (more : Bool) → ClauseLine bs ls r → Done (trace (Fresh false) 0 r) es → Done (trace (Fresh more) 0 bs) (say_literals ls es)
clause_end m (clause b l c) d =
    let (rs, e) = line_rows m in
    let (more, f) = literals_end (AtLine m) rs e l c d in
    (more, fresh_blanks m b (some_byte m l) ∙ f)

-- ---- the whole text
clauses_end : {bs : List ℕ} {cs : List (List ℤ)} (more : Bool) → Clauses bs cs [] → Done (trace (Fresh more) 0 bs) (say_clauses cs)
unfolding trace say_clauses shift
clauses_end more no_clause = (more, refl)
clauses_end more (a_clause l h) = clause_end more l (clauses_end false h)

groups_end : {bs r : List ℕ} {gs : List Group} {es : List Event} → Groups bs gs r → Done (trace (Fresh true) 0 r) es → Done (trace (Fresh true) 0 bs) (say_groups gs es)
unfolding say_groups
groups_end no_group e = e
groups_end (a_group l h) e = group_end l (groups_end h e)

-- what spells a text brings the machine from the start to a text's end, and says that text
pub complete : {bs : List ℕ} {t : Text} → Spells bs t → (more : Bool) × (trace start 0 bs ≡ record { last = Fresh more; said = say t })
unfolding say
complete (text {m = m} {n = n} c p g l) =
    let (more, e) = groups_end g (clauses_end true l) in
    (more, comments_run c ∙ problem_run p ∙ ap (λ r. then (announces m) (then (counts n) r)) e)
