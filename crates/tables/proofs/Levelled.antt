-- The table of levels: the words left begin at the level reached, and no word passed stands again.
use mathlib.Core.Path.{◌≡◌, refl, sym, ◌∙◌}
use mathlib.Core.Logic.{◌⊎◌, inl, inr}
use mir.Val.{bool_byte}
use mathlib.Core.Bool.{Bool, true, false, not, cond, beq, or-false}
use mathlib.Core.List.{List}
use Prim.Native.Nat.{ℕ, ◌+◌, ◌≤◌, ◌<◌}
use native.Mathlib.Decide.{ℕ_discrete}
use native.Mathlib.Omega.{arith}
use lib.Dec.{eqb}
use lib.IntN.{ℤ, pos, nat_abs}
use lib.ListN.{length, get_or, take, drop, set, replicate, length-set, length-replicate}
use lib.Seq.{get_or-set_same, get_or-set_other, take-length}
use borrow.Author.Tests.{eq-eqb, ne_eqb, eqb-false}
use Rattle.words.specs.Laws.Bools.{clash, look, or_fl, or_fr}
use Rattle.words.specs.Lists.{any}
use Rattle.words.specs.Laws.Lists.{next, ended, blank}
use Rattle.words.specs.Words.{negative}
use Rattle.formula.specs.Formula.{change, level_of}
use Rattle.formula.specs.Block.{names}
use Rattle.formula.specs.Laws.Prefix.{change_few}
use Rattle.record.specs.Inner.Tables.{places}
use Rattle.tables.specs.Inner.Levels.{level_at, Levels}
use Rattle.record.proofs.Laws.Filled.{named_more}

-- ---- the change after a word
pub change_last : (q : ℤ) (p : List ℤ) (i : ℕ) → length p ≤ i + 1 → change q (drop (i + 1) p) ≡ 0
unfolding change
change_last q p i h = rw (ended p (i + 1) h)

pub change_next : (q : ℤ) (p : List ℤ) (i : ℕ) → i + 1 < length p → (a b : Bool) → a ≡ negative q → b ≡ negative (get_or p (i + 1) (pos 0)) → bool_byte (not (beq a b)) ≡ change q (drop (i + 1) p)
unfolding change
change_next q p i h a b one two = rw (next p (i + 1) (pos 0) h, ← one, ← two) (go (beq a b))
  where
    go : (t : Bool) → bool_byte (not t) ≡ cond t 0 1
    go true = refl
    go false = refl

-- ---- the levels of a prefix p, up to i
pub record Levelled (p : List ℤ) (t : List ℕ) (level i : ℕ) : Type 0 where
  pub at : i ≤ length p
  pub long : length t ≡ places
  pub few : level ≤ i
  pub done : (v : ℕ) → any (names v) (take i p) ≡ true → get_or t v 0 ≡ level_of p v
  pub rest : (v : ℕ) → any (names v) (take i p) ≡ false → get_or t v 0 ≡ 0
  pub left : (v : ℕ) → any (names v) (take i p) ≡ false → level + level_of (drop i p) v ≡ level_of p v

pub begin : (p : List ℤ) → Levelled p (replicate places 0) 0 0
unfolding any
begin p = record { at = omega arith; long = length-replicate {A = ℕ} places 0; few = omega arith; done = λ v h. clash h refl; rest = λ v h. blank {A = ℕ} 0 places v; left = λ v h. omega arith }

-- one word passed: its variable is new
module _ (p : List ℤ) (t : List ℕ) (level i : ℕ) (l : Levelled p t level i) where
  pub end : length p ≤ i → Levels p t
  end h v = go (look (any (names v) p))
    where
      all : take i p ≡ p
      all = let e : i ≡ length p = omega arith in rw (e, take-length p)

      go : (any (names v) p ≡ true) ⊎ (any (names v) p ≡ false) → get_or t v 0 ≡ level_at p v
      go (inl m) = l.done v (rw all m) ∙ rw m
      go (inr m) = l.rest v (rw all m) ∙ rw m

  module _ (h : i < length p) where
    -- the word at i, and those after it
    word : ℤ
    word = get_or p i (pos 0)

    level_here : (v : ℕ) → v ≡ nat_abs word → level_of (drop i p) v ≡ 0
    unfolding level_of word
    level_here v e = rw (next p i (pos 0) h, eq-eqb (nat_abs (get_or p i (pos 0))) v (sym e))

    level_past : (v : ℕ) → (v ≡ nat_abs word → ⊥) → level_of (drop i p) v ≡ change word (drop (i + 1) p) + level_of (drop (i + 1) p) v
    unfolding level_of word
    level_past v k = rw (next p i (pos 0) h, ne_eqb (nat_abs (get_or p i (pos 0))) v (λ e. k (sym e)))

    module _ (s : ℕ) (is : s ≡ nat_abs (get_or p i (pos 0))) (room : s < places) (new : any (names (nat_abs (get_or p i (pos 0)))) (take i p) ≡ false) where
      done_more : (v : ℕ) → any (names v) (take (i + 1) p) ≡ true → get_or (set t s level) v 0 ≡ level_of p v
      unfolding word
      done_more v m = by (ℕ_discrete v s)
        where
          by : Dec (v ≡ s) → get_or (set t s level) v 0 ≡ level_of p v
          by (yes e) =
              let z : level + level_of (drop i p) s ≡ level_of p s = l.left s (rw is new) in
              let y : level_of (drop i p) s ≡ 0 = level_here s is in
              rw (e, get_or-set_same t s level 0 (omega arith)) (omega arith)
          by (no k) =
              let z : eqb v (nat_abs (get_or p i (pos 0))) ≡ false = ne_eqb v _ (λ e. k (e ∙ sym is)) in
              get_or-set_other t s v level 0 k ∙ l.done v (rw (named_more p i h v, z, or-false (any (names v) (take i p))) at m)

      rest_more : (v : ℕ) → any (names v) (take (i + 1) p) ≡ false → get_or (set t s level) v 0 ≡ 0
      unfolding word
      rest_more v m =
          let both = rw (named_more p i h v) at m in
          let other = eqb-false v (nat_abs (get_or p i (pos 0))) (or_fr (any (names v) (take i p)) (eqb v (nat_abs (get_or p i (pos 0)))) both) in
          get_or-set_other t s v level 0 (λ e. other (e ∙ is)) ∙ l.rest v (or_fl (any (names v) (take i p)) (eqb v (nat_abs (get_or p i (pos 0)))) both)

      left_more : (v d : ℕ) → d ≡ change (get_or p i (pos 0)) (drop (i + 1) p) → any (names v) (take (i + 1) p) ≡ false → level + d + level_of (drop (i + 1) p) v ≡ level_of p v
      unfolding word
      left_more v d e m =
          let both = rw (named_more p i h v) at m in
          let old = or_fl (any (names v) (take i p)) (eqb v (nat_abs (get_or p i (pos 0)))) both in
          let other = eqb-false v (nat_abs (get_or p i (pos 0))) (or_fr (any (names v) (take i p)) (eqb v (nat_abs (get_or p i (pos 0)))) both) in
          omega (arith, l.left v old, level_past v other)

      pub turn : (d : ℕ) → d ≡ change (get_or p i (pos 0)) (drop (i + 1) p) → Levelled p (set t s level) (level + d) (i + 1)
      turn d e =
          record {
            at = omega arith;
            long = length-set t s level ∙ l.long;
            few = omega (arith, change_few (get_or p i (pos 0)) (drop (i + 1) p));
            done = done_more;
            rest = rest_more;
            left = λ v. left_more v d e;
          }
