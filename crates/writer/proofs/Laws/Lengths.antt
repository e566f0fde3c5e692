-- How long a text is at most, where no number has more than four digits: each word and each line by itself, and so all of them.
use Rattle.std.specs.Prelude.{refl, Bool, true, false, List, [], ◌∷◌, ◌++◌, map, ℕ, suc, ◌+◌, ◌*◌, ◌≤◌, ℤ, pos, negsuc, nat_abs, length}
use Rattle.std.proofs.Common.{arith, length-append}
use Rattle.words.specs.Lists.{In, here, there}
use Rattle.words.specs.Words.{negative}
use Rattle.grammar.specs.Grammar.{feed, space}
use Rattle.grammar.specs.Written.{numeral, literal, line, problem_line, clause_lines}
use Rattle.grammar.proofs.Laws.Written.{four_digits}
use Rattle.text.specs.Tree.{literals_of}
use Rattle.writer.specs.Write.{last_of_group}
use Rattle.writer.specs.Inner.Writing.{spaced, line_start, line_end, group_word, group_words}

-- words of at most four digits
abbrev pub Small : List ℤ → Type 0
Small ws = (w : ℤ) → In w ws → nat_abs w ≤ 9999

start_length : (new universal : Bool) → length (line_start new universal) ≤ 2
start_length true universal = omega arith
start_length false universal = omega arith

end_length : (last : Bool) → length (line_end last) ≤ 2
end_length true = omega arith
end_length false = omega arith

spaced_length : (n : ℕ) → n ≤ 9999 → length (spaced n) ≤ 5
spaced_length n h = rw (length-append (numeral n) (space ∷ [])) (omega (arith, four_digits n h))

word_length : (new universal last : Bool) (n : ℕ) → n ≤ 9999 → length (group_word new universal last n) ≤ 9
unfolding group_word
word_length new universal last n h =
    rw (length-append (line_start new universal) (spaced n ++ line_end last), length-append (spaced n) (line_end last)) (omega (arith, start_length new universal, spaced_length n h, end_length last))

pub group_words_length : (p : List ℤ) (new : Bool) → Small p → length (group_words new p) ≤ 9 * length p
unfolding group_words
group_words_length [] new h = omega arith
group_words_length (w ∷ ws) new h =
    let last = last_of_group w ws in
    rw (length-append (group_word new (negative w) last (nat_abs w)) (group_words last ws))
    (omega (arith, word_length new (negative w) last (nat_abs w) (h w (here refl)), group_words_length ws last (λ v i. h v (there i))))

literal_length : (l : ℤ) → nat_abs l ≤ 9999 → length (literal l) ≤ 5
unfolding literal
literal_length (pos n) h = omega (arith, four_digits n h)
literal_length (negsuc n) h = omega (arith, four_digits (suc n) h)

line_length : (c : List ℤ) → Small c → length (line (map literal c)) ≤ 6 * length c + 2
unfolding line
line_length [] h = omega arith
line_length (l ∷ ls) h =
    rw (length-append (literal l) (space ∷ line (map literal ls))) (omega (arith, literal_length l (h l (here refl)), line_length ls (λ k i. h k (there i))))

pub clause_lines_length : (cs : List (List ℤ)) → ((c : List ℤ) → In c cs → Small c) → length (clause_lines cs) ≤ 6 * length (literals_of cs) + 2 * length cs
unfolding clause_lines literals_of
clause_lines_length [] h = omega arith
clause_lines_length (c ∷ cs) h =
    rw (length-append (line (map literal c)) (clause_lines cs), length-append c (literals_of cs))
    (omega (arith, line_length c (h c (here refl)), clause_lines_length cs (λ d i. h d (there i))))

pub problem_length : (m n : ℕ) → m ≤ 9999 → n ≤ 9999 → length (problem_line m n) ≤ 16
unfolding problem_line
problem_length m n h k =
    rw (length-append (numeral m) (space ∷ (numeral n ++ (feed ∷ []))), length-append (numeral n) (feed ∷ [])) (omega (arith, four_digits m h, four_digits n k))
