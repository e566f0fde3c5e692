-- The tree of an accepted block's formula gives the block again: its lines bind every variable, so none is free and none is idle, and the ends and the
-- literals are those of the clauses.
use Rattle.std.specs.Prelude.{◌≡◌, refl, Bool, true, false, ◌||◌, List, [], ◌∷◌, ◌++◌, ℕ, zero, suc, ◌+◌, ◌-◌, ◌≤◌, ◌<◌, eqb, ltb, ℤ, pos, negsuc, nat_abs, length, take, drop}
use Rattle.std.proofs.Common.{sym, ◌∙◌, ap, append-nil, append_assoc, arith, length-drop, take-append-drop, length-take-le, drop-drop, take_all, ltb-false, eqb-true}
use Rattle.std.proofs.Math.Seq.{drop-length}
use Rattle.std.proofs.lemmas.Bool.{not-false}
use Rattle.words.specs.Laws.Bools.{clash, or_fl, or_fr}
use Rattle.words.specs.Lists.{any}
use Rattle.words.specs.Words.{negative}
use Rattle.formula.specs.Limits.{Limits}
use Rattle.formula.specs.Formula.{word, variables_of, clause_count_of, literal_count_of, prefix_of, clauses_from, formula_of}
use Rattle.formula.specs.Formula as block
use Rattle.formula.specs.Block.{names, no_variable, twice, bad_ends}
use Rattle.formula.specs.Laws.Accepted.{Accepted, prefix_length, literals_length}
use Rattle.formula.specs.Laws.Clauses.{clauses_length}
use Rattle.formula.specs.Laws.Permuted.{all_bound}
use Rattle.grammar.specs.Grammar.{Text}
use Rattle.laid.specs.Block.{those, free, idle, completed, header, laid}
use Rattle.text.specs.Tree.{words_of, literals_of, ends_of, block_of}
use Rattle.writer.specs.Write.{tree_of}
use Rattle.writer.proofs.Laws.Groups.{words_back}

-- ---- clauses cut by good ends: their literals, and their ends
pub record Cut (ls : List ℤ) (from : ℕ) (es : List ℤ) : Type 0 where
  pub literals : literals_of (clauses_from ls from es) ≡ drop from ls
  pub ends : ends_of from (clauses_from ls from es) ≡ es

number_is : (e : ℤ) → negative e ≡ false → pos (nat_abs e) ≡ e
number_is (pos n) h = refl
number_is (negsuc n) h = clash refl h

pub cut : (ls : List ℤ) (from : ℕ) (es : List ℤ) → bad_ends (length ls) from es ≡ false → Cut ls from es
unfolding clauses_from bad_ends literals_of ends_of
cut ls from [] h =
    let e = eqb-true from (length ls) (not-false (eqb from (length ls)) h) in
    record { literals = sym (ap (λ n. drop n ls) e ∙ drop-length ls); ends = refl }
cut ls from (e ∷ es) h =
    let n = nat_abs e in
    let total = length ls in
    let three = or_fl (negative e || ltb n from || ltb total n) (bad_ends total n es) h in
    let two = or_fl (negative e || ltb n from) (ltb total n) three in
    let whole = or_fl (negative e) (ltb n from) two in
    let rises : from ≤ n = ltb-false n from (or_fr (negative e) (ltb n from) two) in
    let fits : n ≤ total = ltb-false total n (or_fr (negative e || ltb n from) (ltb total n) three) in
    let rest = cut ls n es (or_fr (negative e || ltb n from || ltb total n) (bad_ends total n es) h) in
    let long : length (take (n - from) (drop from ls)) ≡ n - from = length-take-le (n - from) (drop from ls) (rw (length-drop from ls) (omega arith)) in
    let end : from + length (take (n - from) (drop from ls)) ≡ n = omega (arith, long) in
    let on : from + (n - from) ≡ n = omega arith in
    let behind : drop (n - from) (drop from ls) ≡ drop n ls = drop-drop (n - from) from ls ∙ ap (λ k. drop k ls) on in
    record {
      literals = ap (λ us. take (n - from) (drop from ls) ++ us) (rest.literals ∙ sym behind) ∙ take-append-drop (n - from) (drop from ls);
      ends = rw (end, number_is e whole, rest.ends);
    }

-- ---- where every variable is bound, none is free or idle
none_of : (f : ℕ → Bool) (v n : ℕ) → ((u : ℕ) → v ≤ u → u < v + n → f u ≡ false) → those f v n ≡ []
unfolding those
none_of f v zero h = refl
none_of f v (suc n) h = rw (h v (omega arith) (omega arith)) (none_of f (suc v) n (λ u a b. h u (omega arith) (omega arith)))

pub all_completed : (n : ℕ) (ws ls : List ℤ) → any (no_variable n) ws ≡ false → twice ws ≡ false → length ws ≡ n → completed n ws ls ≡ ws
unfolding completed
all_completed n ws ls known once long =
    let bound : (u : ℕ) → 1 ≤ u → u < 1 + n → any (names u) ws ≡ true = λ u a b. all_bound n ws known once long u (omega arith) (omega arith) in
    let none = none_of (free ws ls) 1 n (λ u a b. rw (bound u a b)) in
    let rest = none_of (idle ws ls) 1 n (λ u a b. rw (bound u a b)) in
    rw (none, rest) (append-nil ws)

-- ---- a block is its parts
six : (b : List ℤ) → 6 ≤ length b → take 6 b ≡ word b 0 ∷ word b 1 ∷ word b 2 ∷ word b 3 ∷ word b 4 ∷ word b 5 ∷ []
six [] h = absurd (omega arith)
six (a ∷ []) h = absurd (omega arith)
six (a ∷ b ∷ []) h = absurd (omega arith)
six (a ∷ b ∷ c ∷ []) h = absurd (omega arith)
six (a ∷ b ∷ c ∷ d ∷ []) h = absurd (omega arith)
six (a ∷ b ∷ c ∷ d ∷ e ∷ []) h = absurd (omega arith)
six (a ∷ b ∷ c ∷ d ∷ e ∷ f ∷ r) h = refl

module _ (L : Limits) (b : List ℤ) (a : Accepted L b) where
  abbrev v : ℕ
  v = variables_of b

  abbrev c : ℕ
  c = clause_count_of b

  abbrev t : ℕ
  t = literal_count_of b

  header_is : take 6 b ≡ header v c t
  header_is = six b a.long ∙ rw (← a.counts.variables.whole, ← a.counts.clauses.whole, ← a.counts.literals.whole, a.offsets.prefix, a.offsets.ends, a.offsets.literals)

  pub ends_length : length (block.ends_of b) ≡ c
  ends_length = length-take-le c (drop (6 + v) b) (rw (length-drop (6 + v) b) (omega (arith, a.whole)))

  parts : b ≡ header v c t ++ prefix_of b ++ block.ends_of b ++ block.literals_of b
  parts =
      let all : take t (drop (6 + v + c) b) ≡ drop (6 + v + c) b = take_all t (drop (6 + v + c) b) (rw (length-drop (6 + v + c) b) (omega (arith, a.whole))) in
      let e3 : drop (6 + v) b ≡ block.ends_of b ++ block.literals_of b = sym (take-append-drop c (drop (6 + v) b)) ∙ ap (λ us. block.ends_of b ++ us) (drop-drop c (6 + v) b ∙ sym all) in
      let e2 : drop 6 b ≡ prefix_of b ++ (block.ends_of b ++ block.literals_of b) = sym (take-append-drop v (drop 6 b)) ∙ ap (λ us. prefix_of b ++ us) (drop-drop v 6 b ∙ e3) in
      let e1 : b ≡ header v c t ++ (prefix_of b ++ (block.ends_of b ++ block.literals_of b)) = sym (take-append-drop 6 b) ∙ ap (λ us. us ++ drop 6 b) header_is ∙ ap (λ us. header v c t ++ us) e2 in
      e1 ∙ sym (append_assoc (header v c t ++ prefix_of b) (block.ends_of b) (block.literals_of b) ∙ append_assoc (header v c t) (prefix_of b) (block.ends_of b ++ block.literals_of b))

  cut_here : Cut (block.literals_of b) 0 (block.ends_of b)
  cut_here = cut (block.literals_of b) 0 (block.ends_of b) (rw (literals_length a) a.ends)

  abbrev tree : Text
  tree = tree_of (formula_of b)

  -- the tree's own numbers and words
  pub tree_variables : tree.variables ≡ v
  unfolding tree_of formula_of
  tree_variables = prefix_length a

  pub tree_count : length tree.clauses ≡ c
  unfolding tree_of formula_of
  tree_count = clauses_length (block.literals_of b) 0 (block.ends_of b) ∙ ends_length

  pub tree_literals : literals_of tree.clauses ≡ block.literals_of b
  unfolding tree_of formula_of
  tree_literals = cut_here.literals

  tree_ends : ends_of 0 tree.clauses ≡ block.ends_of b
  unfolding tree_of formula_of
  tree_ends = cut_here.ends

  pub tree_words : words_of tree.groups ≡ prefix_of b
  unfolding tree_of formula_of
  tree_words = words_back (prefix_of b)

  pub block_back : block_of tree ≡ b
  unfolding block_of laid
  block_back =
      rw (tree_variables, tree_words, tree_ends, tree_literals, ends_length, literals_length a, all_completed v (prefix_of b) (block.literals_of b) a.known a.once (prefix_length a))
      (sym parts)
