-- The groups of a prefix: their words are the prefix, none is empty, and their lines are written word by word.
use Rattle.std.specs.Prelude.{◌≡◌, refl, ◌⊎◌, true, false, List, [], ◌∷◌, ◌++◌, map, ℕ, ◌<◌, ℤ, pos, negsuc, nat_abs}
use Rattle.std.proofs.Common.{sym, ◌∙◌, ap, inl, inr, append_assoc}
use Rattle.words.specs.Laws.Bools.{clash, look}
use Rattle.words.specs.Lists.{In, here, there}
use Rattle.grammar.specs.Grammar.{Group, feed, space, '0'}
use Rattle.grammar.specs.Machine.{signed}
use Rattle.grammar.specs.Written.{numeral, line, letter, group_lines}
use Rattle.grammar.proofs.Laws.Written.{Binding, binding, AllBinding, no_binding, more_binding}
use Rattle.reader.specs.Keep.{is_forall}
use Rattle.text.specs.Tree.{words_of, numbers_of}
use Rattle.writer.specs.Write.{quantifier_of, last_of_group, into_group, groups_of}
use Rattle.writer.specs.Inner.Writing.{group_word, group_words}

-- ---- a word before others: a group of its own, or one number more in the first
abbrev alone : ℤ → Group
alone w = record { quantifier = quantifier_of w; numbers = nat_abs w ∷ [] }

abbrev more : ℤ → Group → Group
more w g = record { quantifier = g.quantifier; numbers = nat_abs w ∷ g.numbers }

pub data View (w : ℤ) (ws : List ℤ) : Type 0 where
  own : last_of_group w ws ≡ true → groups_of (w ∷ ws) ≡ alone w ∷ groups_of ws → View w ws
  joined : (g : Group) (gs : List Group) → last_of_group w ws ≡ false → groups_of ws ≡ g ∷ gs → g.quantifier ≡ quantifier_of w → groups_of (w ∷ ws) ≡ more w g ∷ gs → View w ws

own_group : (w : ℤ) (ws : List ℤ) → last_of_group w ws ≡ true → groups_of (w ∷ ws) ≡ alone w ∷ groups_of ws
unfolding groups_of
own_group w ws e = rw e

one_more : (w : ℤ) (ws : List ℤ) → last_of_group w ws ≡ false → groups_of (w ∷ ws) ≡ into_group (nat_abs w) (groups_of ws)
unfolding groups_of
one_more w ws e = rw e

same_quantifier : (w v : ℤ) (ws : List ℤ) → last_of_group w (v ∷ ws) ≡ false → quantifier_of v ≡ quantifier_of w
unfolding last_of_group
same_quantifier (pos m) (pos n) ws e = refl
same_quantifier (pos m) (negsuc n) ws e = clash refl e
same_quantifier (negsuc m) (pos n) ws e = clash refl e
same_quantifier (negsuc m) (negsuc n) ws e = refl

none_behind : (w : ℤ) → last_of_group w [] ≡ true
unfolding last_of_group
none_behind w = refl

view : (w : ℤ) (ws : List ℤ) → View w ws
view w [] = own (none_behind w) (own_group w [] (none_behind w))
view w (v ∷ ws) = by (look (last_of_group w (v ∷ ws))) (view v ws)
  where
    into : (g : Group) (gs : List Group) → groups_of (v ∷ ws) ≡ g ∷ gs → g.quantifier ≡ quantifier_of v → last_of_group w (v ∷ ws) ≡ false → View w (v ∷ ws)
    into g gs h k e = joined g gs e h (k ∙ same_quantifier w v ws e) (one_more w (v ∷ ws) e ∙ ap (into_group (nat_abs w)) h)

    by : (last_of_group w (v ∷ ws) ≡ true) ⊎ (last_of_group w (v ∷ ws) ≡ false) → View v ws → View w (v ∷ ws)
    by (inl e) s = own e (own_group w (v ∷ ws) e)
    by (inr e) (own l q) = into (alone v) (groups_of ws) q refl e
    by (inr e) (joined g gs l h k q) = into (more v g) gs q k e

-- ---- its words and numbers
word_back : (w : ℤ) → signed (is_forall (quantifier_of w)) (nat_abs w) ≡ w
word_back (pos n) = refl
word_back (negsuc n) = refl

pub words_back : (p : List ℤ) → words_of (groups_of p) ≡ p
unfolding words_of groups_of
words_back [] = refl
words_back (w ∷ ws) = by (view w ws) (words_back ws)
  where
    by : View w ws → words_of (groups_of ws) ≡ ws → words_of (groups_of (w ∷ ws)) ≡ w ∷ ws
    by (own l q) ih = ap words_of q ∙ rw (word_back w, ih)
    by (joined g gs l h k q) ih =
        let rest : words_of (g ∷ gs) ≡ ws = ap words_of (sym h) ∙ ih in
        let first : signed (is_forall g.quantifier) (nat_abs w) ≡ w = ap (λ u. signed (is_forall u) (nat_abs w)) k ∙ word_back w in
        ap words_of q ∙ ap (λ u. u ∷ words_of (g ∷ gs)) first ∙ ap (λ us. w ∷ us) rest

pub numbers_back : (p : List ℤ) → numbers_of (groups_of p) ≡ map nat_abs p
unfolding numbers_of groups_of
numbers_back [] = refl
numbers_back (w ∷ ws) = by (view w ws) (numbers_back ws)
  where
    by : View w ws → numbers_of (groups_of ws) ≡ map nat_abs ws → numbers_of (groups_of (w ∷ ws)) ≡ nat_abs w ∷ map nat_abs ws
    by (own l q) ih = ap numbers_of q ∙ ap (λ us. nat_abs w ∷ us) ih
    by (joined g gs l h k q) ih = ap numbers_of q ∙ ap (λ us. nat_abs w ∷ us) (ap numbers_of (sym h) ∙ ih)

-- ---- none is empty, and none binds 0
pub all_binding : (p : List ℤ) → ((w : ℤ) → In w p → 0 < nat_abs w) → AllBinding (groups_of p)
unfolding groups_of
all_binding [] h = no_binding
all_binding (w ∷ ws) h = by (view w ws) (all_binding ws (λ v i. h v (there i)))
  where
    first : 0 < nat_abs w
    first = h w (here refl)

    with : (g : Group) → Binding g → Binding (more w g)
    with g (binding a) = binding (λ m i. above m a i)
      where
        above : {ns : List ℕ} (m : ℕ) → ((k : ℕ) → In k ns → 0 < k) → In m (nat_abs w ∷ ns) → 0 < m
        above m a (here e) = rw e first
        above m a (there i) = a m i

    one : (m : ℕ) → In m (nat_abs w ∷ []) → 0 < m
    one m (here e) = rw e first
    one m (there i) = elim i [ ]

    joining : (g : Group) (gs : List Group) → AllBinding (g ∷ gs) → AllBinding (more w g ∷ gs)
    joining g gs (more_binding b k) = more_binding (with g b) k

    by : View w ws → AllBinding (groups_of ws) → AllBinding (groups_of (w ∷ ws))
    by (own l q) ih = rw q (more_binding (binding one) ih)
    by (joined g gs l e k q) ih = rw q (joining g gs (rw e at ih))

-- ---- their lines, word by word
-- the rest of the first group's line, and the lines behind it
abbrev in_line : List Group → List ℕ
in_line [] = []
in_line (g ∷ gs) = line (map numeral g.numbers) ++ group_lines gs

begun : (w : ℤ) (ws : List ℤ) → group_words true (w ∷ ws) ≡ letter (quantifier_of w) ∷ space ∷ group_words false (w ∷ ws)
unfolding group_words group_word
begun (pos n) ws = refl
begun (negsuc n) ws = refl

lines_begun : (g : Group) (gs : List Group) → group_lines (g ∷ gs) ≡ letter g.quantifier ∷ space ∷ in_line (g ∷ gs)
unfolding group_lines line
lines_begun g gs = refl

-- where the word is the last of its group, or not
within_last : (w : ℤ) (ws : List ℤ) → last_of_group w ws ≡ true → group_words false (w ∷ ws) ≡ line (numeral (nat_abs w) ∷ []) ++ group_words true ws
unfolding group_words group_word line
within_last w ws e = rw (e, append_assoc (numeral (nat_abs w)) (space ∷ []) ('0' ∷ feed ∷ []))

within_more : (w : ℤ) (ws : List ℤ) → last_of_group w ws ≡ false → group_words false (w ∷ ws) ≡ numeral (nat_abs w) ++ (space ∷ group_words false ws)
unfolding group_words group_word
within_more w ws e = rw (e, append_assoc (numeral (nat_abs w)) (space ∷ []) [], append_assoc (numeral (nat_abs w)) (space ∷ []) (group_words false ws))

longer : (w : ℤ) (g : Group) (gs : List Group) → numeral (nat_abs w) ++ (space ∷ in_line (g ∷ gs)) ≡ in_line (more w g ∷ gs)
unfolding line
longer w g gs = sym (append_assoc (numeral (nat_abs w)) (space ∷ line (map numeral g.numbers)) (group_lines gs))

pub record Streamed (p : List ℤ) : Type 0 where
  pub new : group_words true p ≡ group_lines (groups_of p)
  pub within : group_words false p ≡ in_line (groups_of p)

pub streamed : (p : List ℤ) → Streamed p
unfolding groups_of group_lines group_words
streamed [] = record { new = refl; within = refl }
streamed (w ∷ ws) = by (view w ws) (streamed ws)
  where
    both : (g : Group) (gs : List Group) → groups_of (w ∷ ws) ≡ g ∷ gs → g.quantifier ≡ quantifier_of w → group_words false (w ∷ ws) ≡ in_line (g ∷ gs) → Streamed (w ∷ ws)
    both g gs q k e = record {
      new = begun w ws ∙ ap (λ us. letter (quantifier_of w) ∷ space ∷ us) e ∙ ap (λ u. letter u ∷ space ∷ in_line (g ∷ gs)) (sym k) ∙ sym (lines_begun g gs) ∙ ap group_lines (sym q);
      within = e ∙ ap in_line (sym q);
    }

    by : View w ws → Streamed ws → Streamed (w ∷ ws)
    by (own l q) ih = both (alone w) (groups_of ws) q refl (within_last w ws l ∙ ap (λ us. line (numeral (nat_abs w) ∷ []) ++ us) ih.new)
    by (joined g gs l h k q) ih = both (more w g) gs q k (within_more w ws l ∙ ap (λ us. numeral (nat_abs w) ++ (space ∷ us)) (ih.within ∙ ap in_line h) ∙ longer w g gs)
