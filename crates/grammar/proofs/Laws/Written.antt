-- What is written spells the tree, if its groups are not empty and no number in them and no literal is 0; and how long a number is.
use Rattle.std.specs.Prelude.{◌≡◌, refl, Bool, true, false, cond, List, [], ◌∷◌, ◌++◌, map, ℕ, zero, suc, ◌+◌, ◌*◌, ◌-◌, ◌/◌, ◌%◌, ◌≤◌, ◌<◌, leb, ℤ, pos, negsuc, nat_abs, length}
use Rattle.std.proofs.Common.{append_assoc, arith, length-append, le-leb, leb-true, leb-false}
use Rattle.std.proofs.Math.Decide.{dec_le}
use Rattle.std.proofs.lemmas.Bool.{lt-leb}
use Rattle.words.specs.Laws.Bools.{and_i}
use Rattle.words.specs.Lists.{In, here, there}
use Rattle.grammar.specs.Grammar.{Quantifier, forall, exists, Group, Text, feed, space, '0', digit, nonzero, no_blank, a_space, Gap, gap, close, Digits, a_digit, no_digit, Positive, positive, Number, nought, above, Literal, plain, minus, Problem, problem, Numbers, no_number, a_number, Letter, all, some, group, Literals, no_literal, a_literal, clause, no_comment, Groups, no_group, a_group, Clauses, no_clause, a_clause, Spells, text}
use Rattle.grammar.specs.Written.{digits_of, numeral, literal, line, problem_line, letter, group_lines, clause_lines, written}

-- ---- digits
is_digit : (d : ℕ) → d ≤ 9 → digit ('0' + d) ≡ true
unfolding digit
is_digit d h = and_i (le-leb 48 (48 + d) (omega arith)) (le-leb (48 + d) 57 (omega arith))

is_nonzero : (d : ℕ) → 0 < d → d ≤ 9 → nonzero ('0' + d) ≡ true
unfolding nonzero
is_nonzero d z h = and_i (le-leb 49 (48 + d) (omega arith)) (le-leb (48 + d) 57 (omega arith))

digits_positive : (k n m : ℕ) (bs r : List ℕ) → 0 < n → n < k → Digits n bs m r → Positive (digits_of k n ++ bs) m r
unfolding digits_of
digits_positive zero n m bs r z h d = absurd (omega arith)
digits_positive (suc k) n m bs r z h d = by (leb n 9) refl (digits_positive k (n / 10) m (('0' + n % 10) ∷ bs) r)
  where
    by : (c : Bool) → leb n 9 ≡ c → (0 < n / 10 → n / 10 < k → Digits (n / 10) (('0' + n % 10) ∷ bs) m r → Positive (digits_of k (n / 10) ++ (('0' + n % 10) ∷ bs)) m r)
        → Positive (cond c (('0' + n) ∷ []) (digits_of k (n / 10) ++ (('0' + n % 10) ∷ [])) ++ bs) m r
    by true e ih =
        let l = leb-true n 9 e in
        let v : '0' + n - '0' ≡ n = omega arith in
        let d' : Digits ('0' + n - '0') bs m r = rw v d in
        positive (is_nonzero n z l) d'
    by false e ih =
        let l = leb-false n 9 e in
        let v : n / 10 * 10 + ('0' + n % 10 - '0') ≡ n = omega arith in
        let d' : Digits (n / 10 * 10 + ('0' + n % 10 - '0')) bs m r = rw v d in
        rw (append_assoc (digits_of k (n / 10)) (('0' + n % 10) ∷ []) bs) (ih (omega arith) (omega arith) (a_digit (is_digit (n % 10) (omega arith)) d'))

positive_written : (n : ℕ) (r : List ℕ) → 0 < n → Positive (numeral n ++ r) n r
unfolding numeral
positive_written n r z = digits_positive (suc n) n n r r z (omega arith) no_digit

-- [write.number] a number that is written is read back
pub number_written : (n : ℕ) (r : List ℕ) → Number (numeral n ++ r) n r
unfolding numeral digits_of
number_written zero r = nought
number_written (suc n) r = above (positive_written (suc n) r (omega arith))

literal_written : (l : ℤ) (r : List ℕ) → 0 < nat_abs l → Literal (literal l ++ r) l r
unfolding literal
literal_written (pos n) r h = plain (positive_written n r h)
literal_written (negsuc n) r h = minus (positive_written (suc n) r h)

-- a number's digits: one, or one more than a tenth of it has
digits_enough : (k j n : ℕ) → n < k → n < j → digits_of k n ≡ digits_of j n
unfolding digits_of
digits_enough zero j n h g = absurd (omega arith)
digits_enough (suc k) zero n h g = absurd (omega arith)
digits_enough (suc k) (suc j) n h g = by (dec_le n 9) (digits_enough k j (n / 10))
  where
    by : Dec (n ≤ 9) → (n / 10 < k → n / 10 < j → digits_of k (n / 10) ≡ digits_of j (n / 10)) → digits_of (suc k) n ≡ digits_of (suc j) n
    by (yes s) ih = rw (le-leb n 9 s)
    by (no s) ih = rw (ih (omega arith) (omega arith))

module _ (n : ℕ) where
  pub numeral_one : n ≤ 9 → numeral n ≡ ('0' + n) ∷ []
  unfolding numeral digits_of
  numeral_one h = rw (le-leb n 9 h)

  pub numeral_more : 9 < n → numeral n ≡ numeral (n / 10) ++ (('0' + n % 10) ∷ [])
  unfolding numeral digits_of
  numeral_more h = rw (lt-leb n 9 h, digits_enough n (suc (n / 10)) (n / 10) (omega arith) (omega arith))

  pub numeral_longer : 9 < n → length (numeral n) ≡ suc (length (numeral (n / 10)))
  numeral_longer h = rw (numeral_more h, length-append (numeral (n / 10)) (('0' + n % 10) ∷ [])) (omega arith)

-- numbers up to b have at most k digits: those up to 10b + 9 have at most one more
abbrev pub AtMost : ℕ → ℕ → Type 0
AtMost b k = (n : ℕ) → n ≤ b → length (numeral n) ≤ k

one_digit : AtMost 9 1
one_digit n h = rw (numeral_one n h) (omega arith)

one_more : (b k : ℕ) → 1 ≤ k → AtMost b k → AtMost (10 * b + 9) (suc k)
one_more b k s a n h = by (dec_le n 9)
  where
    by : Dec (n ≤ 9) → length (numeral n) ≤ suc k
    by (yes l) = rw (numeral_one n l) (omega arith)
    by (no l) = let e = numeral_longer n (omega arith) in let f = a (n / 10) (omega arith) in omega (arith, e, f)

pub four_digits : AtMost 9999 4
four_digits = one_more 999 3 (omega arith) (one_more 99 2 (omega arith) (one_more 9 1 (omega arith) one_digit))

-- ---- lines
one_space : {r : List ℕ} → Gap (space ∷ r) r
one_space = gap a_space no_blank

abbrev Above : List ℕ → Type 0
Above ns = (n : ℕ) → In n ns → 0 < n

numbers_written : (ns r : List ℕ) → Above ns → Numbers (line (map numeral ns) ++ r) ns ('0' ∷ feed ∷ r)
unfolding line
numbers_written [] r h = no_number
numbers_written (n ∷ ns) r h =
    rw (append_assoc (numeral n) (space ∷ line (map numeral ns)) r)
    (a_number (positive_written n (space ∷ (line (map numeral ns) ++ r)) (h n (here refl))) one_space (numbers_written ns r (λ m i. h m (there i))))

literals_written : (ls : List ℤ) (r : List ℕ) → ((l : ℤ) → In l ls → 0 < nat_abs l) → Literals (line (map literal ls) ++ r) ls ('0' ∷ feed ∷ r)
unfolding line
literals_written [] r h = no_literal
literals_written (l ∷ ls) r h =
    rw (append_assoc (literal l) (space ∷ line (map literal ls)) r)
    (a_literal (literal_written l (space ∷ (line (map literal ls) ++ r)) (h l (here refl))) one_space (literals_written ls r (λ m i. h m (there i))))

problem_written : (m n : ℕ) (r : List ℕ) → Problem (problem_line m n ++ r) m n r
unfolding problem_line
problem_written m n r =
    rw (append_assoc (numeral m) (space ∷ (numeral n ++ (feed ∷ []))) r, append_assoc (numeral n) (feed ∷ []) r)
    (problem no_blank one_space one_space (number_written m _) one_space (number_written n _) (close no_blank))

-- ---- what may be written
pub data Binding : Group → Type 0 where
  binding : {q : Quantifier} {n : ℕ} {ns : List ℕ} → ((m : ℕ) → In m (n ∷ ns) → 0 < m) → Binding (record { quantifier = q; numbers = n ∷ ns })

pub data AllBinding : List Group → Type 0 where
  no_binding : AllBinding []
  more_binding : {g : Group} {gs : List Group} → Binding g → AllBinding gs → AllBinding (g ∷ gs)

letter_is : (q : Quantifier) → Letter (letter q) q
letter_is forall = all
letter_is exists = some

groups_written : (gs : List Group) (r : List ℕ) → AllBinding gs → Groups (group_lines gs ++ r) gs r
unfolding group_lines line
groups_written [] r no_binding = no_group
groups_written (g ∷ gs) r (more_binding (binding {q = q} {n = n} {ns = ns} h) k) =
    rw (append_assoc (line ((letter q ∷ []) ∷ map numeral (n ∷ ns))) (group_lines gs) r)
    (a_group (group no_blank (letter_is q) one_space (numbers_written (n ∷ ns) (group_lines gs ++ r) h) (close no_blank)) (groups_written gs r k))

clauses_written : (cs : List (List ℤ)) → ((c : List ℤ) → In c cs → (l : ℤ) → In l c → 0 < nat_abs l) → Clauses (clause_lines cs) cs []
unfolding clause_lines
clauses_written [] h = no_clause
clauses_written (c ∷ cs) h = a_clause (clause no_blank (literals_written c (clause_lines cs) (h c (here refl))) (close no_blank)) (clauses_written cs (λ d i. h d (there i)))

pub spells_written : (t : Text) → AllBinding t.groups → ((c : List ℤ) → In c t.clauses → (l : ℤ) → In l c → 0 < nat_abs l) → Spells (written t) t
unfolding written
spells_written t g c =
    text no_comment (problem_written t.variables t.count (group_lines t.groups ++ clause_lines t.clauses)) (groups_written t.groups (clause_lines t.clauses) g) (clauses_written t.clauses c)
