-- Rows 28 to 30 by what is kept are those by the tree: a cap hides no number over a limit, and no count that is not as announced.
use Rattle.std.specs.Prelude.{◌≡◌, refl, ◌⊎◌, Bool, true, false, not, ◌||◌, List, [], ◌∷◌, eqb, ltb, pos, length}
use Rattle.std.proofs.Math.Path.{sym, ap}
use Rattle.std.proofs.Common.{◌∙◌, inl, inr}
use Rattle.std.proofs.Math.Bool.{or-true}
use Prim.Native.Nat.{ℕ, ◌≤◌, ◌<◌, min}
use Rattle.std.proofs.Math.Decide.{dec_le}
use native.Mathlib.Omega.{arith}
use borrow.Author.Tests.{ltb-false, lt-ltb, eqb-true, not-false}
use Rattle.words.specs.Laws.Bools.{look, or_fl, or_fr, bool_eq, eqb_eq, eqb_i}
use Rattle.words.specs.Lists.{any}
use Rattle.words.specs.Rows.{refusal_of}
use Rattle.formula.specs.Limits.{Limits, limits}
use Rattle.formula.specs.Laws.Limits.{variables_are, clauses_are, literals_are}
use Rattle.grammar.specs.Grammar.{Text}
use Rattle.reader.specs.Keep.{beyond, capped}
use Rattle.text.specs.Tree.{numbers_of, literals_of, some_beyond, count_rows, text_refusal}
use Rattle.reader.proofs.Laws.Capped.{beyond_cap, cap_is}
use Rattle.text.proofs.Laws.Kept.{large, tree_kept}
use Rattle.text.proofs.Laws.Laid.{cap_small}

any_same : {A : Type 0} (f g : A → Bool) → ((x : A) → f x ≡ g x) → (xs : List A) → any f xs ≡ any g xs
unfolding any
any_same f g h [] = refl
any_same f g h (x ∷ xs) = rw (h x, any_same f g h xs)

large_is : (n : ℕ) → large n ≡ beyond (pos n)
unfolding beyond
large_is n = beyond_cap n

-- limits that a cap does not hide
pub record Hidden (L : Limits) : Type 0 where
  pub variables : L.variables ≤ 2147483647
  pub clauses : L.clauses ≤ 2147483647
  pub literals : L.literals ≤ 2147483647

pub limits_hidden : Hidden limits
limits_hidden = record { variables = omega (arith, variables_are); clauses = omega (arith, clauses_are); literals = omega (arith, literals_are) }

-- what row 28 leaves
pub record Small (t : Text) : Type 0 where
  pub variables : capped t.variables ≡ t.variables
  pub count : capped t.count ≡ t.count
  pub counted : length t.clauses ≡ t.count
  pub numbers : any large (numbers_of t.groups) ≡ false
  pub literals : any beyond (literals_of t.clauses) ≡ false
  pub few : t.count ≤ 2147483647

module _ (t : Text) where
  large_here : (tree_kept t).large ≡ some_beyond t
  unfolding tree_kept some_beyond
  large_here = rw (large_is t.variables, large_is t.count, any_same large (λ n. beyond (pos n)) large_is (numbers_of t.groups))

  abbrev pub wrong : Bool
  wrong = some_beyond t || not (eqb (length t.clauses) t.count)

  pub small : wrong ≡ false → Small t
  unfolding some_beyond beyond
  small h =
      let a = beyond (pos t.variables) in
      let b = beyond (pos t.count) in
      let c = any (λ n. beyond (pos n)) (numbers_of t.groups) in
      let d = any beyond (literals_of t.clauses) in
      let s = or_fl (a || b || c || d) (not (eqb (length t.clauses) t.count)) h in
      let e = or_fr (a || b || c || d) (not (eqb (length t.clauses) t.count)) h in
      let abc = or_fl (a || b || c) d s in
      let ab = or_fl (a || b) c abc in
      record {
        variables = cap_small t.variables (large_is t.variables ∙ or_fl a b ab);
        count = cap_small t.count (large_is t.count ∙ or_fr a b ab);
        counted = eqb-true (length t.clauses) t.count (not-false (eqb (length t.clauses) t.count) e);
        numbers = any_same large (λ n. beyond (pos n)) large_is (numbers_of t.groups) ∙ or_fr (a || b) c abc;
        literals = or_fr (a || b || c) d s;
        few = ltb-false 2147483647 t.count (or_fr a b ab);
      }

  cap_count : (c n : ℕ) → c ≤ 2147483647 → eqb (capped n) (capped c) ≡ eqb n c
  unfolding capped
  cap_count c n h =
      bool_eq (eqb (min n 2147483649) (min c 2147483649)) (eqb n c)
      (λ e. let z = eqb_eq (min n 2147483649) (min c 2147483649) e in let q : n ≡ c = omega arith in eqb_i q)
      (λ e. let z = eqb_eq n c e in let q : min n 2147483649 ≡ min c 2147483649 = ap (λ (m : ℕ). min m 2147483649) z in eqb_i q)

  far : (n : ℕ) → 2147483647 < n → 2147483647 < capped n
  unfolding capped
  far n h = omega arith

  count_small : some_beyond t ≡ false → t.count ≤ 2147483647
  unfolding some_beyond beyond
  count_small h =
      let a = beyond (pos t.variables) in
      let b = beyond (pos t.count) in
      let c = any (λ n. beyond (pos n)) (numbers_of t.groups) in
      let d = any beyond (literals_of t.clauses) in
      ltb-false 2147483647 t.count (or_fr a b (or_fl (a || b) c (or_fl (a || b || c) d h)))

  wrong_same : ((tree_kept t).large || not (eqb (capped (length t.clauses)) (capped t.count))) ≡ wrong
  wrong_same = by (look (some_beyond t))
    where
      by : (some_beyond t ≡ true) ⊎ (some_beyond t ≡ false) → ((tree_kept t).large || not (eqb (capped (length t.clauses)) (capped t.count))) ≡ wrong
      by (inl e) = rw (large_here, e)
      by (inr e) = rw (large_here, cap_count t.count (length t.clauses) (count_small e))

  module _ (L : Limits) (hidden : Hidden L) (room : ℕ) where
    abbrev pub kept_refusal : ℕ
    kept_refusal = let k = tree_kept t in refusal_of (count_rows L k.large k.variables k.count k.clauses k.literals room)

    -- too many literals are too many under the cap
    many : (a b : Bool) (n : ℕ) → 2147483647 < n → (a || b || ltb L.literals n) ≡ true
    many a b n h = rw (lt-ltb L.literals n (omega (arith, hidden.literals))) (or-true (a || b))

    pub counts_same : kept_refusal ≡ text_refusal L t room
    unfolding text_refusal tree_kept
    counts_same = by (look wrong) (dec_le (length (literals_of t.clauses)) 2147483649)
      where
        by : (wrong ≡ true) ⊎ (wrong ≡ false) → Dec (length (literals_of t.clauses) ≤ 2147483649) → kept_refusal ≡ text_refusal L t room
        by (inl w) d = rw (wrong_same, w)
        by (inr w) (yes h) = let s = small w in rw (wrong_same, w, s.variables, ap capped s.counted ∙ s.count ∙ sym s.counted, cap_is (length (literals_of t.clauses)) h)
        by (inr w) (no h) = let s = small w in rw (wrong_same, w, many (ltb L.variables (capped t.variables)) (ltb L.clauses (capped (length t.clauses))) (capped (length (literals_of t.clauses))) (far (length (literals_of t.clauses)) (omega arith)), many (ltb L.variables t.variables) (ltb L.clauses (length t.clauses)) (length (literals_of t.clauses)) (omega arith))
