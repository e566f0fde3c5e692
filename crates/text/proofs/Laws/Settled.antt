-- At a text's end what is answered by what was kept is what the tree says: the same rows apply, and the same block stands in the output.
use Rattle.std.specs.Prelude.{◌≡◌, refl, ◌⊎◌, Bool, true, false, ◌||◌, List, [], ◌∷◌, map, ltb, ℤ, pos, nat_abs, drop}
use Rattle.std.proofs.Common.{sym, ◌∙◌, inl, inr, length-append, length-set, ltb-false, lt-ltb, le-ltb}
use Rattle.std.proofs.Math.Path.{ap}
use Prim.Native.Nat.{ℕ, zero, suc, ◌+◌, ◌≤◌, ◌<◌, min}
use Rattle.std.proofs.Math.Decide.{dec_le}
use native.Mathlib.Omega.{arith}
use Rattle.std.proofs.Math.ListN.{length, take, set}
use Rattle.std.proofs.lemmas.List.{drop-take, length-map}
use Rattle.std.proofs.Math.Seq.{sets, length-sets, take-length}
use Rattle.words.specs.Laws.Bools.{look, or_fl, or_fr}
use Rattle.words.specs.Lists.{any}
use Rattle.words.specs.Laws.Lists.{any_append, any_f, any_none, in_take}
use Rattle.words.specs.Laws.Counts.{count_most}
use Rattle.words.specs.Laws.Stores.{take_sets}
use Rattle.words.specs.Laws.Words.{nat_abs_neg}
use Rattle.words.specs.Outcomes.{Outcome, unless}
use Rattle.words.specs.Rows.{refusal_of}
use Rattle.words.specs.Laws.Rows.{passed}
use Rattle.formula.specs.Laws.Permuted.{words_count}
use Rattle.formula.specs.Limits.{Limits}
use Rattle.formula.specs.Block.{names, no_variable, twice, refusal}
use Rattle.grammar.specs.Grammar.{Group, Text}
use Rattle.grammar.specs.Machine.{signed}
use Rattle.reader.specs.Keep.{is_forall, capped}
use Rattle.text.specs.Tree.{text_refused, block_refused, words_of, numbers_of, literals_of, ends_of, some_beyond, count_rows, text_refusal, block_of, tree_rows, row_of, zeros, text_of}
use Rattle.text.specs.Pieces.{kept_words, kept_ends, kept_literals, kept_block, kept_row, settled}
use Rattle.laid.specs.Laws.Stores.{take_run, drop_run}
use Rattle.text.proofs.Laws.Kept.{large, strange, stored_is, put, length_put, put_clauses, tree_kept, tree_output}
use Rattle.reader.proofs.Laws.Capped.{cap_is}
use Rattle.text.proofs.Laws.Laid.{cap_small, words_stored, first_words, clauses_put}
use Rattle.text.proofs.Laws.Block.{ends_length, tree_rows_lem}
use Rattle.text.proofs.Laws.Rows.{Hidden, Small, small, counts_same}

-- ---- what rows 28 to 30 leave
pub record Fit (L : Limits) (t : Text) (room : ℕ) : Type 0 where
  pub small : Small t
  pub variables : t.variables ≤ L.variables
  pub clauses : length t.clauses ≤ L.clauses
  pub literals : length (literals_of t.clauses) ≤ L.literals
  pub fits : 6 + t.variables + length t.clauses + length (literals_of t.clauses) ≤ room

pub fit : (L : Limits) (t : Text) (room : ℕ) → text_refusal L t room ≡ 0 → Fit L t room
unfolding text_refusal
fit L t room e =
    let v = t.variables in
    let c = length t.clauses in
    let n = length (literals_of t.clauses) in
    let p = passed (count_rows L (some_beyond t) v t.count c n room) refl e in
    let vc = or_fl (ltb L.variables v || ltb L.clauses c) (ltb L.literals n) (p 29) in
    record {
      small = small t (p 28);
      variables = ltb-false L.variables v (or_fl (ltb L.variables v) (ltb L.clauses c) vc);
      clauses = ltb-false L.clauses c (or_fr (ltb L.variables v) (ltb L.clauses c) vc);
      literals = ltb-false L.literals n (or_fr (ltb L.variables v || ltb L.clauses c) (ltb L.literals n) (p 29));
      fits = ltb-false room (6 + v + c + n) (p 30);
    }

-- ---- the bound words and their numbers
words_length : (gs : List Group) → length (words_of gs) ≡ length (numbers_of gs)
unfolding words_of numbers_of
words_length [] = refl
words_length (g ∷ gs) =
    rw (length-append (map (signed (is_forall g.quantifier)) g.numbers) (words_of gs), length-append g.numbers (numbers_of gs), length-map g.numbers (signed (is_forall g.quantifier)), words_length gs)

size_signed : (u : Bool) (n : ℕ) → nat_abs (signed u n) ≡ n
size_signed true n = nat_abs_neg (pos n)
size_signed false n = refl

strange_numbers : (v : ℕ) (u : Bool) (ns : List ℕ) → any large ns ≡ false → any (strange v) ns ≡ any (no_variable v) (map (signed u) ns)
unfolding any
strange_numbers v u [] h = refl
strange_numbers v u (n ∷ ns) h = rw (cap_small n (or_fl (large n) (any large ns) h), size_signed u n, strange_numbers v u ns (or_fr (large n) (any large ns) h))

strange_words : (v : ℕ) (gs : List Group) → any large (numbers_of gs) ≡ false → any (strange v) (numbers_of gs) ≡ any (no_variable v) (words_of gs)
unfolding words_of numbers_of any
strange_words v [] h = refl
strange_words v (g ∷ gs) h =
    let ns = g.numbers in
    let u = is_forall g.quantifier in
    let k = sym (any_append large ns (numbers_of gs)) ∙ h in
    rw (any_append (strange v) ns (numbers_of gs), any_append (no_variable v) (map (signed u) ns) (words_of gs), strange_numbers v u ns (or_fl (any large ns) (any large (numbers_of gs)) k), strange_words v gs (or_fr (any large ns) (any large (numbers_of gs)) k))

-- ---- the parts of the output
module _ (L : Limits) (hidden : Hidden L) (t : Text) (o : List ℤ) (f : Fit L t (length o)) where
  output_is : tree_output t o ≡ sets (sets (put 6 o 0 (words_of t.groups)) (6 + t.variables + length t.clauses) (literals_of t.clauses)) (6 + t.variables) (ends_of 0 t.clauses)
  unfolding tree_output
  output_is =
      let s = f.small in
      let v = t.variables in
      let e : 6 + v + t.count + 0 ≡ 6 + v + t.count = omega arith in
      let e' : 6 + v + 0 ≡ 6 + v = omega arith in
      let h = clauses_put (6 + v + t.count) (6 + v) t.clauses (put 6 o 0 (words_of t.groups)) 0 0 s.literals (omega (arith, s.counted, s.few)) (omega (arith, f.literals, hidden.literals)) (omega (arith, s.counted)) in
      rw (s.variables, s.count, words_stored t.groups s.numbers, s.counted) (rw (e, e') at h)

  abbrev ws : List ℤ
  ws = words_of t.groups

  abbrev ls : List ℤ
  ls = literals_of t.clauses

  abbrev es : List ℤ
  es = ends_of 0 t.clauses

  -- the ends, and the literals behind them
  room_ends : 6 + t.variables + length es ≤ length (sets (put 6 o 0 ws) (6 + t.variables + length t.clauses) ls)
  room_ends = rw (length-sets (put 6 o 0 ws) (6 + t.variables + length t.clauses) ls, length_put 6 o 0 ws, ends_length 0 t.clauses) (omega (arith, f.fits))

  room_literals : 6 + t.variables + length t.clauses + length ls ≤ length (put 6 o 0 ws)
  room_literals = rw (length_put 6 o 0 ws) f.fits

  ends_kept : kept_ends (tree_kept t) (tree_output t o) ≡ es
  unfolding kept_ends tree_kept
  ends_kept =
      let s = f.small in
      let long = ends_length 0 t.clauses in
      let part = rw long at (take_run es (sets (put 6 o 0 ws) (6 + t.variables + length t.clauses) ls) (6 + t.variables) room_ends) in
      rw (output_is, s.variables, cap_is (length t.clauses) (omega (arith, s.counted, s.few))) part

  literals_kept : kept_literals (tree_kept t) (tree_output t o) ≡ ls
  unfolding kept_literals tree_kept
  literals_kept =
      let s = f.small in
      let long = ends_length 0 t.clauses in
      let past = rw long at (drop_run es (sets (put 6 o 0 ws) (6 + t.variables + length t.clauses) ls) (6 + t.variables) room_ends) in
      rw (output_is, s.variables, cap_is (length t.clauses) (omega (arith, s.counted, s.few)), cap_is (length ls) (omega (arith, f.literals, hidden.literals)), past)
      (take_run ls (put 6 o 0 ws) (6 + t.variables + length t.clauses) room_literals)

  -- as many words as were bound, up to the number of variables
  abbrev few : ℕ
  few = min (length ws) t.variables

  few_is : min (tree_kept t).bound (tree_kept t).variables ≡ few
  unfolding tree_kept capped
  few_is = let s : min t.variables 2147483649 ≡ t.variables = f.small.variables in let k = words_length t.groups in omega arith

  words_kept : kept_words (tree_kept t) (tree_output t o) ≡ take few ws
  unfolding kept_words
  words_kept =
      let X = put 6 o 0 ws in
      let Y = sets X (6 + t.variables + length t.clauses) ls in
      let near : take (6 + few) (sets Y (6 + t.variables) es) ≡ take (6 + few) X = take_sets es Y (6 + t.variables) (6 + few) (omega arith) ∙ take_sets ls X (6 + t.variables + length t.clauses) (6 + few) (omega arith) in
      rw (few_is, output_is)
      (sym (drop-take 6 few (sets Y (6 + t.variables) es)) ∙ ap (drop 6) near ∙ drop-take 6 few X ∙ first_words o ws few (omega arith) (omega (arith, f.variables, hidden.variables)) (omega (arith, f.fits)))

  variables_are : (tree_kept t).variables ≡ t.variables
  unfolding tree_kept
  variables_are = f.small.variables

  bound_few : length ws ≤ t.variables → (tree_kept t).bound ≤ (tree_kept t).variables
  unfolding tree_kept capped
  bound_few h = let s : min t.variables 2147483649 ≡ t.variables = f.small.variables in let k = words_length t.groups in omega arith

  bound_many : t.variables < length ws → (tree_kept t).variables < (tree_kept t).bound
  unfolding tree_kept capped
  bound_many h = let s : min t.variables 2147483649 ≡ t.variables = f.small.variables in let k = words_length t.groups in omega (arith, f.variables, hidden.variables)

  -- ---- row 5, and row 6 where row 5 does not apply
  over_is : (tree_kept t).over ≡ any (no_variable t.variables) ws
  unfolding tree_kept
  over_is = rw f.small.variables (strange_words t.variables t.groups f.small.numbers)

  row_5 : ((tree_kept t).over || any (no_variable (tree_kept t).variables) (kept_words (tree_kept t) (tree_output t o))) ≡ any (no_variable t.variables) ws
  row_5 = rw (words_kept, over_is, variables_are) (by (look (any (no_variable t.variables) ws)))
    where
      by : (any (no_variable t.variables) ws ≡ true) ⊎ (any (no_variable t.variables) ws ≡ false) → (any (no_variable t.variables) ws || any (no_variable t.variables) (take few ws)) ≡ any (no_variable t.variables) ws
      by (inl e) = rw e
      by (inr e) = rw e (any_f (no_variable t.variables) (take few ws) (λ w i. any_none (no_variable t.variables) ws e (in_take few ws i)))

  module _ (known : any (no_variable t.variables) ws ≡ false) where
    -- words without a repetition are no more than there are variables
    no_more : twice ws ≡ false → length ws ≤ t.variables
    no_more once = omega (arith, words_count t.variables ws once known, count_most (λ v. any (names v) ws) t.variables)

    all_words : length ws ≤ t.variables → kept_words (tree_kept t) (tree_output t o) ≡ ws
    all_words h = let e : few ≡ length ws = omega arith in words_kept ∙ rw e (take-length ws)

    row_6 : (ltb (tree_kept t).variables (tree_kept t).bound || twice (kept_words (tree_kept t) (tree_output t o))) ≡ twice ws
    row_6 = by (dec_le (length ws) t.variables)
      where
        by : Dec (length ws ≤ t.variables) → (ltb (tree_kept t).variables (tree_kept t).bound || twice (kept_words (tree_kept t) (tree_output t o))) ≡ twice ws
        by (yes h) = rw (all_words h, le-ltb (tree_kept t).variables (tree_kept t).bound (bound_few h))
        by (no h) = rw (lt-ltb (tree_kept t).variables (tree_kept t).bound (bound_many (omega arith))) (sym (by_count (look (twice ws))))
          where
            by_count : (twice ws ≡ true) ⊎ (twice ws ≡ false) → twice ws ≡ true
            by_count (inl e) = e
            by_count (inr e) = absurd (h (no_more e))

    -- with neither the block is the tree's
    module _ (once : twice ws ≡ false) where
      block_kept : kept_block (tree_kept t) (tree_output t o) ≡ block_of t
      unfolding kept_block block_of
      block_kept = rw (all_words (no_more once), ends_kept, literals_kept, variables_are)

      rest_kept : refusal L (kept_block (tree_kept t) (tree_output t o)) ≡ refusal_of (drop 2 (tree_rows t.variables ws t.clauses))
      unfolding block_of
      rest_kept = rw block_kept (tree_rows_lem t.variables ws t.clauses known once L f.variables f.clauses f.literals)

  row_kept : kept_row (tree_kept t) (tree_output t o) L ≡ row_of t
  unfolding kept_row row_of refusal
  row_kept = by (look (any (no_variable t.variables) ws)) (look (twice ws))
    where
      by : (any (no_variable t.variables) ws ≡ true) ⊎ (any (no_variable t.variables) ws ≡ false) → (twice ws ≡ true) ⊎ (twice ws ≡ false) → kept_row (tree_kept t) (tree_output t o) L ≡ row_of t
      by (inl a) b = rw (row_5, a)
      by (inr a) (inl b) = rw (row_5, a, row_6 a, b)
      by (inr a) (inr b) = rw (row_5, a, row_6 a, b) (rest_kept a b)

-- ---- the same answer, and the same output
clauses_length : (literals first : ℕ) (o : List ℤ) (n t : ℕ) (cs : List (List ℤ)) → length (put_clauses literals first o n t cs) ≡ length o
unfolding put_clauses
clauses_length literals first o n t [] = refl
clauses_length literals first o n t (x ∷ cs) =
    clauses_length literals first (set (put literals o t (map stored_is x)) (first + capped n) (stored_is (pos (capped (t + length x))))) (suc n) (t + length x) cs ∙ simp length-set (length_put literals o t _)

output_length : (t : Text) (o : List ℤ) → length (tree_output t o) ≡ length o
unfolding tree_output
output_length t o = clauses_length _ _ (put 6 o 0 _) 0 0 t.clauses ∙ length_put 6 o 0 _

unless_same : {M A : Type 0} (number : ℕ → A) (n : ℕ) (m : M) (x y : Outcome M A) → (n ≡ 0 → x ≡ y) → unless number n m x ≡ unless number n m y
unless_same number zero m x y h = h refl
unless_same number (suc n) m x y h = refl

-- rows 5 and 6 of an accepted tree
pub record Bound (t : Text) : Type 0 where
  pub known : any (no_variable t.variables) (words_of t.groups) ≡ false
  pub once : twice (words_of t.groups) ≡ false

pub bound : (t : Text) → row_of t ≡ 0 → Bound t
unfolding row_of
bound t e = let p = passed (tree_rows t.variables (words_of t.groups) t.clauses) refl e in record { known = p 5; once = p 6 }

module _ (L : Limits) (hidden : Hidden L) (t : Text) (o : List ℤ) where
  lengths_kept : Fit L t (length o) → 6 + (tree_kept t).variables + (tree_kept t).clauses + (tree_kept t).literals ≡ 6 + t.variables + length t.clauses + length (literals_of t.clauses)
  unfolding tree_kept
  lengths_kept f =
      let s = f.small in
      rw (s.variables, cap_is (length t.clauses) (omega (arith, s.counted, s.few)), cap_is (length (literals_of t.clauses)) (omega (arith, f.literals, hidden.literals)))

  pub settled_is : settled (tree_kept t) (tree_output t o) L ≡ text_of L t o
  unfolding settled text_of
  settled_is =
      rw (output_length t o, counts_same t L hidden (length o))
      (unless_same text_refused (text_refusal L t (length o)) (zeros (length o)) _ _ (λ e. let f = fit L t (length o) e in
      rw (row_kept L hidden t o f) (unless_same block_refused (row_of t) (zeros (length o)) _ _ (λ r. let b = bound t r in
      rw (lengths_kept f, block_kept L hidden t o f b.known b.once)))))
