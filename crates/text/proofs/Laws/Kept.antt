-- What the events of a tree make: the counts are those of the tree, capped, the flags say whether some number is so, and the words are put into the
-- output one after the other. By induction on the tree.
use Rattle.std.specs.Prelude.{◌≡◌, refl, Bool, ◌||◌, pos}
use Rattle.std.proofs.Common.{◌∙◌, length-append, length-set}
use Rattle.std.proofs.Math.Path.{ap}
use Rattle.std.proofs.Math.Bool.{false, or_assoc, or-false}
use mathlib.Core.List.{List, [], ◌∷◌, ◌++◌, map}
use Prim.Native.Nat.{ℕ, suc, ◌+◌}
use native.Mathlib.Omega.{arith}
use Rattle.std.proofs.Math.IntN.{ℤ}
use Rattle.std.proofs.Math.ListN.{length, set, length-map}
use Rattle.words.specs.Lists.{any}
use Rattle.words.specs.Laws.Lists.{any_append}
use Rattle.words.specs.Outcomes.{outcome}
use Rattle.formula.specs.Block.{no_variable}
use Rattle.reader.specs.declared.Kept.{Kept}
use Rattle.grammar.specs.Grammar.{Group, Text}
use Rattle.grammar.specs.Machine.{Event, ends, signed}
use Rattle.grammar.specs.Events.{say_numbers, say_literals, say_groups, say_clauses, say}
use Rattle.reader.specs.Keep.{is_forall, beyond, capped, stored, keep, keeps}
use Rattle.reader.proofs.Laws.Capped.{cap_suc}
use Rattle.text.specs.Tree.{numbers_of, literals_of}
use Rattle.text.specs.Pieces.{nothing_kept}

abbrev pub kept : ℕ → ℕ → Bool → ℕ → ℕ → ℕ → Bool → Bool → Kept
kept v c u b n t l w = record { variables = v; count = c; universal = u; bound = b; clauses = n; literals = t; large = l; over = w }

-- words put one after the other, the first at the n-th place from `base` on
unfoldable pub put : ℕ → List ℤ → ℕ → List ℤ → List ℤ
put base o n [] = o
put base o n (w ∷ ws) = put base (set o (base + capped n) w) (suc n) ws

pub length_put : (base : ℕ) (o : List ℤ) (n : ℕ) (ws : List ℤ) → length (put base o n ws) ≡ length o
unfolding put
length_put base o n [] = refl
length_put base o n (w ∷ ws) = length_put base (set o (base + capped n) w) (suc n) ws ∙ length-set o (base + capped n) w

pub put_append : (base : ℕ) (o : List ℤ) (n : ℕ) (ws vs : List ℤ) → put base o n (ws ++ vs) ≡ put base (put base o n ws) (n + length ws) vs
unfolding put
put_append base o n [] vs = let e : n + 0 ≡ n = omega arith in rw e
put_append base o n (w ∷ ws) vs = let e : n + suc (length ws) ≡ suc n + length ws = omega arith in rw e (put_append base (set o (base + capped n) w) (suc n) ws vs)

-- a number of the text: beyond 32 signed bits; none of n variables; as it is stored
abbrev pub large : ℕ → Bool
large n = beyond (pos (capped n))

abbrev pub strange : ℕ → ℕ → Bool
strange v n = no_variable v (pos (capped n))

unfoldable pub stored_as : Bool → ℕ → ℤ
stored_as u n = stored (large n) (signed u (capped n))

unfoldable pub stored_is : ℤ → ℤ
stored_is l = stored (beyond l) l

unfoldable pub stored_words : List Group → List ℤ
stored_words [] = []
stored_words (g ∷ gs) = map (stored_as (is_forall g.quantifier)) g.numbers ++ stored_words gs

-- the quantifier of the last group
unfoldable pub last_of : Bool → List Group → Bool
last_of u [] = u
last_of u (g ∷ gs) = last_of (is_forall g.quantifier) gs

module _ (v c n t : ℕ) where
  numbers_kept : (ns : List ℕ) (u : Bool) (b : ℕ) (l w : Bool) (o : List ℤ) (es : List Event)
      → keeps (kept v c u (capped b) n t l w) o (say_numbers ns es)
      ≡ keeps (kept v c u (capped (b + length ns)) n t (l || any large ns) (w || any (strange v) ns)) (put 6 o b (map (stored_as u) ns)) es
  unfolding say_numbers keeps keep put any stored_as
  numbers_kept [] u b l w o es = let e : b + 0 ≡ b = omega arith in rw (e, or-false l, or-false w)
  numbers_kept (m ∷ ns) u b l w o es =
      let e : b + suc (length ns) ≡ suc b + length ns = omega arith in
      rw (e, ← or_assoc l (large m) (any large ns), ← or_assoc w (strange v m) (any (strange v) ns))
      (ap (λ (k : ℕ). keeps (kept v c u k n t (l || large m) (w || strange v m)) (set o (6 + capped b) (stored_as u m)) (say_numbers ns es)) (cap_suc b)
      ∙ numbers_kept ns u (suc b) (l || large m) (w || strange v m) (set o (6 + capped b) (stored_as u m)) es)

  groups_kept : (gs : List Group) (u : Bool) (b : ℕ) (l w : Bool) (o : List ℤ) (es : List Event)
      → keeps (kept v c u (capped b) n t l w) o (say_groups gs es)
      ≡ keeps (kept v c (last_of u gs) (capped (b + length (numbers_of gs))) n t (l || any large (numbers_of gs)) (w || any (strange v) (numbers_of gs))) (put 6 o b (stored_words gs)) es
  unfolding say_groups keeps keep put any numbers_of stored_words last_of
  groups_kept [] u b l w o es = let e : b + 0 ≡ b = omega arith in rw (e, or-false l, or-false w)
  groups_kept (g ∷ gs) u b l w o es =
      let q = is_forall g.quantifier in
      let ns = g.numbers in
      let ms = numbers_of gs in
      let e : b + (length ns + length ms) ≡ b + length ns + length ms = omega arith in
      rw (length-append ns ms, any_append large ns ms, any_append (strange v) ns ms, put_append 6 o b (map (stored_as q) ns) (stored_words gs), length-map ns (stored_as q), e, ← or_assoc l (any large ns) (any large ms), ← or_assoc w (any (strange v) ns) (any (strange v) ms))
      (numbers_kept ns q b l w o (say_groups gs es) ∙ groups_kept gs q (b + length ns) (l || any large ns) (w || any (strange v) ns) (put 6 o b (map (stored_as q) ns)) es)

-- ---- the clauses
-- the literals of a clause from `literals` on, of which t are there, and its end at the n-th place from `first` on
unfoldable pub put_clauses : ℕ → ℕ → List ℤ → ℕ → ℕ → List (List ℤ) → List ℤ
put_clauses literals first o n t [] = o
put_clauses literals first o n t (c ∷ cs) =
    put_clauses literals first (set (put literals o t (map stored_is c)) (first + capped n) (stored_is (pos (capped (t + length c))))) (suc n) (t + length c) cs

module _ (v c : ℕ) (u : Bool) (b : ℕ) (w : Bool) where
  literals_kept : (ls : List ℤ) (n t : ℕ) (l : Bool) (o : List ℤ) (es : List Event)
      → keeps (kept v c u b n (capped t) l w) o (say_literals ls es) ≡ keeps (kept v c u b n (capped (t + length ls)) (l || any beyond ls) w) (put (6 + v + c) o t (map stored_is ls)) (ends ∷ es)
  unfolding say_literals keeps keep put any stored_is
  literals_kept [] n t l o es = let e : t + 0 ≡ t = omega arith in rw (e, or-false l)
  literals_kept (x ∷ ls) n t l o es =
      let e : t + suc (length ls) ≡ suc t + length ls = omega arith in
      rw (e, ← or_assoc l (beyond x) (any beyond ls))
      (ap (λ (k : ℕ). keeps (kept v c u b n k (l || beyond x) w) (set o (6 + v + c + capped t) (stored_is x)) (say_literals ls es)) (cap_suc t) ∙ literals_kept ls n (suc t) (l || beyond x) (set o (6 + v + c + capped t) (stored_is x)) es)

  clauses_kept : (cs : List (List ℤ)) (n t : ℕ) (l : Bool) (o : List ℤ)
      → keeps (kept v c u b (capped n) (capped t) l w) o (say_clauses cs)
      ≡ outcome (kept v c u b (capped (n + length cs)) (capped (t + length (literals_of cs))) (l || any beyond (literals_of cs)) w) (put_clauses (6 + v + c) (6 + v) o n t cs)
  unfolding say_clauses keeps keep put_clauses any literals_of stored_is
  clauses_kept [] n t l o = let e : n + 0 ≡ n = omega arith in let f : t + 0 ≡ t = omega arith in rw (e, f, or-false l)
  clauses_kept (x ∷ cs) n t l o =
      let ls = literals_of cs in
      let e : n + suc (length cs) ≡ suc n + length cs = omega arith in
      let f : t + (length x + length ls) ≡ t + length x + length ls = omega arith in
      rw (length-append x ls, any_append beyond x ls, e, f, ← or_assoc l (any beyond x) (any beyond ls))
      (literals_kept x (capped n) t l o (say_clauses cs)
      ∙ ap (λ (k : ℕ). keeps (kept v c u b k (capped (t + length x)) (l || any beyond x) w) (ended x n t o) (say_clauses cs)) (cap_suc n)
      ∙ clauses_kept cs (suc n) (t + length x) (l || any beyond x) (ended x n t o))
    where
      ended : List ℤ → ℕ → ℕ → List ℤ → List ℤ
      ended x n t o = set (put (6 + v + c) o t (map stored_is x)) (6 + v + capped n) (stored_is (pos (capped (t + length x))))

-- ---- the whole tree
module _ (t : Text) where
  unfoldable pub tree_kept : Kept
  tree_kept =
      kept (capped t.variables) (capped t.count) (last_of false t.groups) (capped (length (numbers_of t.groups))) (capped (length t.clauses)) (capped (length (literals_of t.clauses)))
      (large t.variables || large t.count || any large (numbers_of t.groups) || any beyond (literals_of t.clauses))
      (any (strange (capped t.variables)) (numbers_of t.groups))

  unfoldable pub tree_output : List ℤ → List ℤ
  tree_output o = let v = capped t.variables in let c = capped t.count in put_clauses (6 + v + c) (6 + v) (put 6 o 0 (stored_words t.groups)) 0 0 t.clauses

  pub tree_kept_lem : (o : List ℤ) → keeps nothing_kept o (say t) ≡ outcome tree_kept (tree_output o)
  unfolding say keeps keep tree_kept tree_output capped
  tree_kept_lem o =
      let v = capped t.variables in
      let c = capped t.count in
      let gs = t.groups in
      let cs = t.clauses in
      let e1 : 0 + length (numbers_of gs) ≡ length (numbers_of gs) = omega arith in
      let e2 : 0 + length cs ≡ length cs = omega arith in
      let e3 : 0 + length (literals_of cs) ≡ length (literals_of cs) = omega arith in
      let l = large t.variables || large t.count in
      let g = rw e1 at (groups_kept v c 0 0 gs false 0 l false o (say_clauses cs)) in
      g ∙ (rw (e2, e3) at (clauses_kept v c (last_of false gs) (capped (length (numbers_of gs))) (any (strange v) (numbers_of gs)) cs 0 0 (l || any large (numbers_of gs)) (put 6 o 0 (stored_words gs))))
