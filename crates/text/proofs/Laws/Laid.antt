-- What a tree's events leave in the output, where the counts are as announced and small: the first bound words, the clause ends and the literals,
-- each in its part of the block.
use Rattle.std.specs.Prelude.{◌≡◌, refl, Bool, false, List, [], ◌∷◌, map, ℕ, suc, ◌+◌, ◌≤◌, min, ℤ, pos, length, take, drop, set}
use Rattle.std.proofs.Common.{sym, ◌∙◌, ap, arith, length-append, take-append-drop, length-take-le, ltb-false, le-ltb}
use Rattle.std.proofs.lemmas.List.Edits.{sets}
use Rattle.std.proofs.lemmas.List.{drop-take, take-set-le}
use Rattle.words.specs.Laws.Bools.{or_fl, or_fr}
use Rattle.words.specs.Lists.{any}
use Rattle.words.specs.Laws.Lists.{any_append}
use Rattle.grammar.specs.Grammar.{Group}
use Rattle.grammar.specs.Machine.{signed}
use Rattle.reader.specs.Keep.{is_forall, beyond, capped, stored}
use Rattle.text.specs.Tree.{words_of, numbers_of, literals_of, ends_of}
use Rattle.reader.proofs.Laws.Capped.{cap_is, cap_grows}
use Rattle.text.proofs.Laws.Kept.{put, put_clauses, put_append, large, stored_as, stored_is, stored_words}
use Rattle.laid.specs.Laws.Stores.{sets_append, sets_set, take_run}

-- ---- what is not beyond is stored as it is
pub cap_small : (n : ℕ) → large n ≡ false → capped n ≡ n
unfolding beyond capped
cap_small n h = let k = ltb-false 2147483647 (min n 2147483649) h in omega arith

stored_small : (u : Bool) (n : ℕ) → large n ≡ false → stored_as u n ≡ signed u n
unfolding stored_as stored
stored_small u n h = rw h (ap (signed u) (cap_small n h))

numbers_stored : (u : Bool) (ns : List ℕ) → any large ns ≡ false → map (stored_as u) ns ≡ map (signed u) ns
unfolding any
numbers_stored u [] h = refl
numbers_stored u (n ∷ ns) h = rw (stored_small u n (or_fl (large n) (any large ns) h), numbers_stored u ns (or_fr (large n) (any large ns) h))

pub words_stored : (gs : List Group) → any large (numbers_of gs) ≡ false → stored_words gs ≡ words_of gs
unfolding numbers_of stored_words words_of
words_stored [] h = refl
words_stored (g ∷ gs) h =
    let k = sym (any_append large g.numbers (numbers_of gs)) ∙ h in
    rw (numbers_stored (is_forall g.quantifier) g.numbers (or_fl (any large g.numbers) (any large (numbers_of gs)) k), words_stored gs (or_fr (any large g.numbers) (any large (numbers_of gs)) k))

literal_stored : (l : ℤ) → beyond l ≡ false → stored_is l ≡ l
unfolding stored_is stored
literal_stored l h = rw h

literals_stored : (ls : List ℤ) → any beyond ls ≡ false → map stored_is ls ≡ ls
unfolding any
literals_stored [] h = refl
literals_stored (l ∷ ls) h = rw (literal_stored l (or_fl (beyond l) (any beyond ls) h), literals_stored ls (or_fr (beyond l) (any beyond ls) h))

-- ---- small counts
pub put_sets : (base : ℕ) (o : List ℤ) (n : ℕ) (ws : List ℤ) → n + length ws ≤ 2147483649 → put base o n ws ≡ sets o (base + n) ws
unfolding put capped
put_sets base o n [] h = refl
put_sets base o n (w ∷ ws) h =
    let e : min n 2147483649 ≡ n = omega arith in
    let f : base + suc n ≡ suc (base + n) = omega arith in
    rw e (put_sets base (set o (base + n) w) (suc n) ws (omega arith) ∙ ap (λ (i : ℕ). sets (set o (base + n) w) i ws) f)

-- the first words, however many come
take_put : (m base : ℕ) (o : List ℤ) (n : ℕ) (ws : List ℤ) → m ≤ base + capped n → take m (put base o n ws) ≡ take m o
unfolding put
take_put m base o n [] h = refl
take_put m base o n (w ∷ ws) h = take_put m base (set o (base + capped n) w) (suc n) ws (omega (arith, cap_grows n)) ∙ take-set-le m o (base + capped n) w h

pub first_words : (o ws : List ℤ) (n : ℕ) → n ≤ length ws → n ≤ 2147483649 → 6 + n ≤ length o → take n (drop 6 (put 6 o 0 ws)) ≡ take n ws
unfolding capped
first_words o ws n h k r =
    let long : length (take n ws) ≡ n = length-take-le n ws h in
    let z : 0 + n ≡ n = omega arith in
    let parted : put 6 o 0 ws ≡ put 6 (put 6 o 0 (take n ws)) n (drop n ws) =
    ap (put 6 o 0) (sym (take-append-drop n ws)) ∙ rw (long, z) at (put_append 6 o 0 (take n ws) (drop n ws)) in
    let cut : take (6 + n) (put 6 o 0 ws) ≡ take (6 + n) (put 6 o 0 (take n ws)) = rw parted (take_put (6 + n) 6 (put 6 o 0 (take n ws)) n (drop n ws) (omega arith)) in
    let run : put 6 o 0 (take n ws) ≡ sets o 6 (take n ws) = put_sets 6 o 0 (take n ws) (omega arith) in
    let fits : 6 + length (take n ws) ≤ length o = omega arith in
    let part : take n (drop 6 (sets o 6 (take n ws))) ≡ take n ws = rw long at (take_run (take n ws) o 6 fits) in
    sym (drop-take 6 n (put 6 o 0 ws)) ∙ ap (drop 6) (cut ∙ ap (take (6 + n)) run) ∙ drop-take 6 n (sets o 6 (take n ws)) ∙ part

end_stored : (n : ℕ) → n ≤ 2147483647 → stored_is (pos (capped n)) ≡ pos n
unfolding stored_is stored beyond
end_stored n h = rw (cap_is n (omega arith), le-ltb 2147483647 n h)

-- ---- the clauses: first the literals, then the ends before them
pub clauses_put : (literals first : ℕ) (cs : List (List ℤ)) (o : List ℤ) (n t : ℕ) → any beyond (literals_of cs) ≡ false
    → n + length cs ≤ 2147483649 → t + length (literals_of cs) ≤ 2147483647 → first + n + length cs ≤ literals + t
    → put_clauses literals first o n t cs ≡ sets (sets o (literals + t) (literals_of cs)) (first + n) (ends_of t cs)
unfolding put_clauses literals_of ends_of
clauses_put literals first [] o n t b h k r = refl
clauses_put literals first (c ∷ cs) o n t b h k r =
    let ls = literals_of cs in
    let b' = sym (any_append beyond c ls) ∙ b in
    let k' : t + (length c + length ls) ≤ 2147483647 = rw (length-append c ls) at k in
    let one = put_sets literals o t c (omega arith) in
    let end = end_stored (t + length c) (omega arith) in
    let at = cap_is n (omega arith) in
    let e : first + suc n ≡ suc (first + n) = omega arith in
    let f : literals + (t + length c) ≡ literals + t + length c = omega arith in
    rw (literals_stored c (or_fl (any beyond c) (any beyond ls) b'), one, end, at)
    (clauses_put literals first cs (set (sets o (literals + t) c) (first + n) (pos (t + length c))) (suc n) (t + length c) (or_fr (any beyond c) (any beyond ls) b') (omega arith) (omega arith) (omega arith)
    ∙ rw (e, f, sets_set ls (sets o (literals + t) c) (first + n) (literals + t + length c) (pos (t + length c)) (omega arith), sets_append c ls o (literals + t)))
