-- Bytes written one run after another: where the next one begins, and that it is near enough.
use Rattle.std.specs.Prelude.{◌≡◌, refl, Bool, true, not, List, [], ◌∷◌, ◌++◌, map, ℕ, zero, suc, ◌+◌, ◌-◌, ◌*◌, ◌/◌, ◌%◌, ◌≤◌, ◌<◌, ℤ, pos, negsuc, nat_abs, set, take, drop, get_or}
use Rattle.std.proofs.Common.{sym, ◌∙◌, ap, append_assoc, add-one, arith, length-append, length-take-le, length-drop, length-set, take_all, ◌^◌}
use Rattle.std.proofs.Math.Nat.{pow-suc}
use Rattle.std.specs.Bool.{beq}
use Rattle.std.proofs.Math.ListN.{length}
use Rattle.std.proofs.lemmas.List.Edits.{sets}
use Rattle.std.proofs.lemmas.List.{drop-set}
use Rattle.words.specs.Outcomes.{outcome, same_answer, same_memory, both_same}
use Rattle.words.specs.Words.{negative}
use Rattle.words.specs.Laws.Lists.{next, ended, take_more}
use Rattle.grammar.specs.Grammar.{feed, space, '0', 'c', 'f', 'n', 'p'}
use Rattle.grammar.specs.Written.{numeral, literal, line, problem_line, clause_lines}
use Rattle.grammar.proofs.Laws.Written.{numeral_one, numeral_more}
use Rattle.writer.specs.Write.{last_of_group}
use Rattle.writer.specs.Inner.Writing.{wrote, Near, spaced, sign_of, line_end, group_word, group_words}
use Rattle.laid.specs.Laws.Stores.{sets_append}

-- ---- one run, and then another
module _ {r : ℕ} {o' : List ℕ} (o : List ℕ) (at : ℕ) (xs ys : List ℕ) (e : outcome r o' ≡ wrote o at xs) where
  pub wrote_on : wrote o' r ys ≡ wrote o at (xs ++ ys)
  unfolding wrote
  wrote_on =
      let s : at + length xs + length ys ≡ at + length (xs ++ ys) = rw (length-append xs ys) (omega arith) in
      rw (same_answer e, same_memory e) (both_same s (sym (sets_append xs ys o at)))

  pub near_on : Near at (xs ++ ys) → Near r ys
  unfolding wrote Near
  near_on n = let k = rw (length-append xs ys) at n in omega (arith, k, same_answer e)

pub near_first : (at : ℕ) (xs ys : List ℕ) → Near at (xs ++ ys) → Near at xs
unfolding Near
near_first at xs ys n = let k = rw (length-append xs ys) at n in omega (arith, k)

-- ---- three runs
module _ (o : List ℕ) (at : ℕ) (xs ys zs : List ℕ) where
  pub three_first : Near at (xs ++ (ys ++ zs)) → Near at xs
  three_first = near_first at xs (ys ++ zs)

  module _ {r : ℕ} {o' : List ℕ} (e : outcome r o' ≡ wrote o at xs) where
    pub three_second : Near at (xs ++ (ys ++ zs)) → Near r ys
    three_second n = near_first r ys zs (near_on o at xs (ys ++ zs) e n)

    module _ {r' : ℕ} {o'' : List ℕ} (f : outcome r' o'' ≡ wrote o' r ys) where
      pub three_third : Near at (xs ++ (ys ++ zs)) → Near r' zs
      three_third n = near_on o' r ys zs f (near_on o at xs (ys ++ zs) e n)

      pub three_whole : {r'' : ℕ} {o''' : List ℕ} → outcome r'' o''' ≡ wrote o'' r' zs → outcome r'' o''' ≡ wrote o at (xs ++ (ys ++ zs))
      three_whole g = g ∙ wrote_on o' r ys zs f ∙ wrote_on o at xs (ys ++ zs) e

-- no byte
pub nothing : (at : ℕ) (o : List ℕ) → outcome at o ≡ wrote o at []
unfolding wrote
nothing at o = let e : at + 0 ≡ at = omega arith in rw e

-- the same run in two ways
pub near_same : (o o' : List ℕ) (at at' : ℕ) (xs ys : List ℕ) → wrote o at xs ≡ wrote o' at' ys → Near at' ys → Near at xs
unfolding Near wrote
near_same o o' at at' xs ys e n = omega (arith, n, same_answer e)

-- ---- a loop's turn: what is left to write from here gives what all of it gives from the start; a run of it is written, and then the rest is left
pub record Owed (o : List ℕ) (at : ℕ) (left o₀ : List ℕ) (at₀ : ℕ) (whole : List ℕ) : Type 0 where
  pub same : wrote o at left ≡ wrote o₀ at₀ whole

pub owed : (o : List ℕ) (at : ℕ) {left whole : List ℕ} → left ≡ whole → Owed o at left o at whole
owed o at e = record { same = ap (wrote o at) e }

module _ {o o₀ : List ℕ} {at at₀ : ℕ} {left whole : List ℕ} (w : Owed o at left o₀ at₀ whole) where
  pub left_near : Near at₀ whole → Near at left
  left_near n = near_same o o₀ at at₀ left whole w.same n

  module _ (xs rest : List ℕ) (split : left ≡ xs ++ rest) where
    pub turn_near : Near at₀ whole → Near at xs
    turn_near n = near_first at xs rest (rw split at left_near n)

    pub turn_on : {r : ℕ} {o' : List ℕ} → outcome r o' ≡ wrote o at xs → Owed o' r rest o₀ at₀ whole
    turn_on e = record { same = wrote_on o at xs rest e ∙ ap (wrote o at) (sym split) ∙ w.same }

  pub turns_end : {r : ℕ} {o' : List ℕ} → outcome r o' ≡ wrote o at left → outcome r o' ≡ wrote o₀ at₀ whole
  turns_end e = e ∙ w.same

  pub turns_over : left ≡ [] → outcome at o ≡ wrote o₀ at₀ whole
  turns_over e = nothing at o ∙ ap (wrote o at) (sym e) ∙ w.same

-- ---- a run, byte by byte
pub put_turn : {o' o'' : List ℕ} (o bs : List ℕ) (at i : ℕ) → o' ≡ sets o at (take i bs) → i < length bs → o'' ≡ set o' (at + i) (get_or bs i 0) → o'' ≡ sets o at (take (i + 1) bs)
put_turn o bs at i e h t =
    let n : length (take i bs) ≡ i = length-take-le i bs (omega arith) in
    rw (t, e, take_more bs i 0 h, sets_append (take i bs) (get_or bs i 0 ∷ []) o at, n)

-- ---- a number, from its last digit to its first: the digits behind a place are those that the rest of the number lacks
pub record Behind (n rest first : ℕ) (digits : List ℕ) : Type 0 where
  pub few : rest < 10 ^ (first + 1)
  pub split : numeral n ≡ numeral rest ++ drop (first + 1) digits

module _ {n rest first : ℕ} {digits : List ℕ} (b : Behind n rest first digits) (within : first < length digits) where
  pub behind_first : 9 < rest → 0 < first
  behind_first h = by first b.few
    where
      by : (k : ℕ) → rest < 10 ^ (k + 1) → 0 < k
      by zero l = absurd (omega arith)
      by (suc k) l = omega arith

  pub behind_more : 9 < rest → {digits' : List ℕ} → digits' ≡ set digits first ('0' + rest % 10) → Behind n (rest / 10) (first - 1) digits'
  behind_more h e =
      let k : first - 1 + 1 ≡ first = omega (arith, behind_first h) in
      let p : 10 ^ (first + 1) ≡ 10 ^ first * 10 = rw (add-one first) (pow-suc 10 first) in
      record {
        few = rw k (omega (arith, b.few, p));
        split = rw (k, e, drop-set digits first ('0' + rest % 10) within) (b.split ∙ rw (numeral_more rest h) (append_assoc (numeral (rest / 10)) (('0' + rest % 10) ∷ []) (drop (first + 1) digits)));
      }

  pub behind_all : rest ≤ 9 → take (length digits - first) (drop first (set digits first ('0' + rest))) ≡ numeral n
  behind_all h =
      let last : drop first (set digits first ('0' + rest)) ≡ numeral n = rw (drop-set digits first ('0' + rest) within, b.split, numeral_one rest h) in
      let long : length (drop first (set digits first ('0' + rest))) ≤ length digits - first = simp (length-drop, length-set) (omega arith) in
      take_all (length digits - first) (drop first (set digits first ('0' + rest))) long ∙ last

-- ---- the words of a line
pub literal_parts : (l : ℤ) → literal l ++ (space ∷ []) ≡ sign_of (negative l) ++ spaced (nat_abs l)
unfolding literal
literal_parts (pos n) = refl
literal_parts (negsuc n) = refl

module _ (ls : List ℤ) (i : ℕ) where
  pub line_turn : i < length ls → line (map literal (drop i ls)) ≡ (literal (get_or ls i (pos 0)) ++ (space ∷ [])) ++ line (map literal (drop (i + 1) ls))
  unfolding line
  line_turn h = rw (next ls i (pos 0) h) (sym (append_assoc (literal (get_or ls i (pos 0))) (space ∷ []) (line (map literal (drop (i + 1) ls)))))

  pub line_ended : length ls ≤ i → line (map literal (drop i ls)) ≡ line_end true
  unfolding line
  line_ended h = rw (ended ls i h)

module _ (p : List ℤ) (i : ℕ) (new : Bool) where
  pub group_turn : i < length p → let w = get_or p i (pos 0) in let last = last_of_group w (drop (i + 1) p) in group_words new (drop i p) ≡ group_word new (negative w) last (nat_abs w) ++ group_words last (drop (i + 1) p)
  unfolding group_words
  group_turn h = rw (next p i (pos 0) h)

  pub groups_over : length p ≤ i → group_words new (drop i p) ≡ []
  unfolding group_words
  groups_over h = rw (ended p i h)

-- ---- the last of a group
module _ (p : List ℤ) (i : ℕ) where
  pub last_more : i + 1 < length p → last_of_group (get_or p i (pos 0)) (drop (i + 1) p) ≡ not (beq (negative (get_or p i (pos 0))) (negative (get_or p (i + 1) (pos 0))))
  unfolding last_of_group
  last_more h = rw (next p (i + 1) (pos 0) h)

  pub last_none : length p ≤ i + 1 → last_of_group (get_or p i (pos 0)) (drop (i + 1) p) ≡ true
  unfolding last_of_group
  last_none h = rw (ended p (i + 1) h)

  pub last_sign : {a b : Bool} → a ≡ negative (get_or p i (pos 0)) → b ≡ negative (get_or p (i + 1) (pos 0)) → i + 1 < length p → not (beq a b) ≡ last_of_group (get_or p i (pos 0)) (drop (i + 1) p)
  last_sign e f h = rw (e, f) (sym (last_more h))

-- ---- the problem line: what it begins with, and its numbers
abbrev pub problem_head : List ℕ
problem_head = 'p' ∷ space ∷ 'c' ∷ 'n' ∷ 'f' ∷ space ∷ []

pub problem_parts : (m n : ℕ) → problem_line m n ≡ problem_head ++ (spaced m ++ (numeral n ++ (feed ∷ [])))
unfolding problem_line
problem_parts m n = ap (λ us. problem_head ++ us) (sym (append_assoc (numeral m) (space ∷ []) (numeral n ++ (feed ∷ []))))

-- ---- the lines of the clauses: one more, and none
pub clause_next : {cs rest : List (List ℤ)} (c : List ℤ) → cs ≡ c ∷ rest → clause_lines cs ≡ line (map literal c) ++ clause_lines rest
unfolding clause_lines
clause_next c e = rw e

pub clauses_none : {cs : List (List ℤ)} → cs ≡ [] → clause_lines cs ≡ []
unfolding clause_lines
clauses_none e = rw e
