-- The lent table of statuses: a variable's turn writes its two places and no other.
use mathlib.Core.Path.{◌≡◌, refl, sym, ◌∙◌, ap}
use mathlib.Core.Bool.{true, false, cond, or-false}
use mathlib.Core.List.{List}
use Prim.Native.Nat.{ℕ, zero, suc, ◌+◌, ◌-◌, ◌≤◌, ◌<◌}
use native.Mathlib.Decide.{ℕ_discrete}
use native.Mathlib.Omega.{arith}
use lib.Dec.{eqb}
use lib.IntN.{ℤ, pos, negsuc, neg_ℤ, nat_abs}
use lib.ListN.{length, get_or, take, set, length-set}
use lib.Seq.{get_or-set_same, get_or-set_other, take-length}
use borrow.Author.Tests.{ne_eqb}
use Rattle.words.specs.Lists.{In, any}
use Rattle.words.specs.Words.{mem}
use Rattle.words.specs.Laws.Bools.{clash}
use Rattle.words.specs.Laws.Lists.{in_at}
use Rattle.words.specs.Laws.Words.{mem_i}
use Rattle.formula.specs.Limits.{limits, max_variables}
use Rattle.formula.specs.Laws.Limits.{variables_are}
use Rattle.formula.specs.Formula.{universal}
use Rattle.formula.specs.Block.{names}
use Rattle.formula.specs.Inner.Named.{Named}
use Rattle.formula.specs.Inner.Places.{place_of}
use Rattle.formula.specs.Laws.Named.{all_named}
use Rattle.formula.specs.Laws.Prefix.{one_sign_lem}
use Rattle.record.specs.Inner.Tables.{sign_of}
use Rattle.record.specs.Inner.Ready.{Bound}
use Rattle.tables.specs.Inner.ByLiteral.{status_of, status_by, status_in, Blank, BlankBeyond, Statuses}
use Rattle.record.proofs.Laws.Filled.{named_more}

-- the variables of the first i words are written
pub record Stated (p : List ℤ) (values t : List ℕ) (i : ℕ) : Type 0 where
  pub at : i ≤ length p
  pub beyond : BlankBeyond (length p) t
  pub said : (x : ℤ) → nat_abs x ≤ length p → any (names (nat_abs x)) (take i p) ≡ true → status_in t x ≡ status_by p values x

module _ (p : List ℤ) (values : List ℕ) where
  pub stated_begin : (t : List ℕ) → Blank t → Stated p values t 0
  unfolding any
  stated_begin t b = record {
    at = omega arith;
    beyond = record { long = b.long; low = λ at h. b.none at; high = λ at h. b.none at; middle = b.none max_variables };
    said = λ x l h. clash h refl;
  }

  module _ (t : List ℕ) (i : ℕ) (s : Stated p values t i) where
    pub stated_end : length p ≤ i → Statuses p values t
    stated_end h = record { said = λ x m e. s.said x m (let l : i ≡ length p = omega arith in rw (l, take-length p) e); beyond = s.beyond }

    -- the word at i, its variable, and its quantifier
    module _ (bound : Bound p) (h : i < length p) (v : ℕ) (is : v ≡ nat_abs (get_or p i (pos 0))) (q : ℕ) (sign : q ≡ sign_of (get_or p i (pos 0))) where
      word : Named (length p) (get_or p i (pos 0))
      word = (all_named (length p) p bound.binds.named).at i h

      pub variable_small : v ≤ max_variables
      variable_small = omega (arith, word.most, bound.room, variables_are)

      quantified : (x : ℤ) → nat_abs x ≡ v → q ≡ cond (universal p x) 2 1
      unfolding universal
      quantified x e = sign ∙ go (get_or p i (pos 0)) is (in_at p i (pos 0) h) word
        where
          go : (w : ℤ) → v ≡ nat_abs w → In w p → Named (length p) w → sign_of w ≡ cond (mem (neg_ℤ (pos (nat_abs x))) p) 2 1
          go (pos zero) k m n = absurd (omega (arith, n.some))
          go (pos (suc k)) l m n = let z : nat_abs x ≡ suc k = omega arith in rw (z, one_sign_lem p bound.binds.once m (omega arith))
          go (negsuc k) l m n = let z : nat_abs x ≡ suc k = omega arith in rw (z, mem_i m)

      module _ (a b : ℕ) (is-plus : a ≡ status_of (get_or values v 0) q 1) (is-minus : b ≡ status_of (get_or values v 0) q 2) where
        abbrev up : ℕ
        up = max_variables + v

        abbrev down : ℕ
        down = max_variables - v

        abbrev after : List ℕ
        after = set (set t up a) down b

        some : 0 < v
        some = omega (arith, word.some)

        after_up : get_or after up 0 ≡ a
        after_up = get_or-set_other (set t up a) down up b 0 (λ e. omega (arith, some)) ∙ get_or-set_same t up a 0 (omega (arith, s.beyond.long, variable_small))

        after_down : get_or after down 0 ≡ b
        after_down = let l : down < length (set t up a) = simp length-set (omega (arith, s.beyond.long, variable_small)) in get_or-set_same (set t up a) down b 0 l

        after_other : (at : ℕ) → (at ≡ up → ⊥) → (at ≡ down → ⊥) → get_or after at 0 ≡ get_or t at 0
        after_other at f g = get_or-set_other (set t up a) down at b 0 g ∙ get_or-set_other t up at a 0 f

        -- the literals of the word's variable, and those of the others
        said_here : (x : ℤ) → nat_abs x ≡ v → status_in after x ≡ status_by p values x
        unfolding place_of status_by
        said_here (pos k) e =
            let z : limits.variables + k ≡ up = omega (arith, variables_are) in
            rw z (after_up ∙ is-plus ∙ ap (λ u. status_of (get_or values v 0) u 1) (quantified (pos k) e) ∙ ap (λ m. status_of (get_or values m 0) (cond (universal p (pos k)) 2 1) 1) (sym e))
        said_here (negsuc k) e =
            let z : limits.variables - suc k ≡ down = omega (arith, variables_are) in
            rw z (after_down ∙ is-minus ∙ ap (λ u. status_of (get_or values v 0) u 2) (quantified (negsuc k) e) ∙ ap (λ m. status_of (get_or values m 0) (cond (universal p (negsuc k)) 2 1) 2) (sym e))

        kept_place : (x : ℤ) → (nat_abs x ≡ v → ⊥) → nat_abs x ≤ max_variables → get_or after (place_of x) 0 ≡ get_or t (place_of x) 0
        unfolding place_of
        kept_place (pos k) f l = after_other (limits.variables + k) (λ e. f (omega (arith, variables_are))) (λ e. f (omega (arith, variables_are, some)))
        kept_place (negsuc k) f l = after_other (limits.variables - suc k) (λ e. f (omega (arith, variables_are))) (λ e. f (omega (arith, variables_are, variable_small)))

        said_after : (x : ℤ) → nat_abs x ≤ length p → any (names (nat_abs x)) (take (i + 1) p) ≡ true → status_in after x ≡ status_by p values x
        said_after x l e = by (ℕ_discrete (nat_abs x) v)
          where
            by : Dec (nat_abs x ≡ v) → status_in after x ≡ status_by p values x
            by (yes k) = said_here x k
            by (no k) =
                let z : eqb (nat_abs x) (nat_abs (get_or p i (pos 0))) ≡ false = ne_eqb (nat_abs x) _ (λ u. k (u ∙ sym is)) in
                let old : any (names (nat_abs x)) (take i p) ≡ true = rw (named_more p i h (nat_abs x), z, or-false (any (names (nat_abs x)) (take i p))) at e in
                kept_place x k (omega (arith, bound.room, variables_are)) ∙ s.said x l old

        beyond_after : BlankBeyond (length p) after
        beyond_after = record {
          long = length-set (set t up a) down b ∙ length-set t up a ∙ s.beyond.long;
          low = λ at l. after_other at (λ e. omega (arith, word.most)) (λ e. omega (arith, word.most, variable_small)) ∙ s.beyond.low at l;
          high = λ at l. after_other at (λ e. omega (arith, word.most)) (λ e. omega (arith, some)) ∙ s.beyond.high at l;
          middle = after_other max_variables (λ e. omega (arith, some)) (λ e. omega (arith, some, variable_small)) ∙ s.beyond.middle;
        }

        pub stated_turn : Stated p values after (i + 1)
        stated_turn = record { at = omega arith; beyond = beyond_after; said = said_after }
