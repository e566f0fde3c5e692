-- One variable after the other: a value given stands before the values so far, and what is asked of the two values' answers is what the truth asks.
use Prim.Native.Nat.{ℕ, ◌+◌, ◌-◌, ◌≤◌, ◌<◌}
use mathlib.Core.Path.{◌≡◌, refl, sym, ◌∙◌, ap}
use mathlib.Core.Bool.{Bool, true, false, not, beq}
use mathlib.Core.List.{List, ◌∷◌}
use native.Mathlib.Omega.{arith}
use lib.IntN.{ℤ, pos, neg_ℤ}
use lib.ListN.{length, get_or, set, length-set}
use lib.Seq.{drop-set-lt, get_or-set_same, drop-drop}
use Rattle.words.specs.Lists.{all}
use Rattle.words.specs.Words.{negative}
use Rattle.words.specs.Laws.Bools.{clash}
use Rattle.words.specs.Laws.Lists.{next, ended}
use Rattle.formula.specs.Limits.{limits}
use Rattle.formula.specs.Formula.{variables_of, prefix_of, ends_of, literals_of, formula_of}
use Rattle.formula.specs.Block.{bad_ends}
use Rattle.formula.specs.Truth.{asked, truth}
use Rattle.formula.specs.Laws.Accepted as block
use Rattle.plain.specs.Solve.{most_variables, holds_from}
use Rattle.plain.specs.Inner.Met.{met}
use Rattle.plain.specs.Inner.Tried.{so_far, Table, Small, Ready}

-- ---- what an accepted block of few variables gives
module _ (b : List ℤ) (i : ℕ) (r : Ready b i) where
  a : block.Accepted limits b
  a = block.accepted limits b r.block

  pub prefix_long : length (prefix_of b) ≡ variables_of b
  prefix_long = block.prefix_length a

  pub ends_good : bad_ends (length (literals_of b)) 0 (ends_of b) ≡ false
  ends_good = rw (block.literals_length a) a.ends

-- one variable more
pub one_more : (b : List ℤ) (i : ℕ) → Ready b i → i < variables_of b → Ready b (i + 1)
one_more b i r h = record { block = r.block; few = r.few; most = omega arith }

pub word_small : (b : List ℤ) (i : ℕ) → Ready b (i + 1) → Small (prefix_of b) i
word_small b i r =
    let e = prefix_long b (i + 1) r in
    let m = r.most in
    let f = r.few in
    let h : i < length (prefix_of b) = rw e (omega arith) in
    record { inside = h; small = omega (arith, ((block.prefix_named (a b (i + 1) r)).at i h).most) }

-- ---- the table: its last i + 1 words are the newest and the last i
module _ (values : List ℤ) (i : ℕ) (room : i < most_variables) (long : length values ≡ most_variables) where
  put : (x : ℤ) → so_far (i + 1) (set values (most_variables - 1 - i) x) ≡ x ∷ so_far i values
  put x =
      let j = most_variables - 1 - i in
      let here : most_variables - (i + 1) ≡ j = omega arith in
      let after : most_variables - i ≡ j + 1 = omega arith in
      let h : j < length values = omega arith in
      rw (here, after, next (set values j x) j (pos 0) (rw (length-set values j x) h), get_or-set_same values j x (pos 0) h, drop-set-lt (j + 1) values j x (omega arith))

  pub given : (x y : ℤ) → x ≡ y → Table (i + 1) (y ∷ so_far i values) (set values (most_variables - 1 - i) x)
  given x y e = record { long = length-set values (most_variables - 1 - i) x ∙ long; told = rw (← e) (put x) }

-- without the newest
pub older : (σ values : List ℤ) (i : ℕ) → i < most_variables → (x : ℤ) → Table (i + 1) (x ∷ σ) values → Table i σ values
older σ values i room x t =
    let after : most_variables - i ≡ most_variables - (i + 1) + 1 = omega arith in
    record { long = t.long; told = rw (after, ← drop-drop 1 (most_variables - (i + 1)) values, t.told) }

-- ---- the truth, at its end and one variable on
module _ (b : List ℤ) (i : ℕ) (r : Ready b i) (σ : List ℤ) where
  pub holds_end : variables_of b ≤ i → holds_from (formula_of b) i σ ≡ all (met σ) (formula_of b).clauses
  unfolding holds_from truth formula_of
  holds_end h = rw (ended (prefix_of b) i (rw (prefix_long b i r) h))

  pub holds_next : i < variables_of b → let q = get_or (prefix_of b) i (pos 0) in holds_from (formula_of b) i σ ≡ asked (negative q) (holds_from (formula_of b) (i + 1) (q ∷ σ)) (holds_from (formula_of b) (i + 1) (neg_ℤ q ∷ σ))
  unfolding holds_from truth formula_of
  holds_next h = rw (next (prefix_of b) i (pos 0) (rw (prefix_long b i r) h))

-- the first answer decides where it is not the one that leaves the second to be asked; else the second decides
first_decides : (f u s : Bool) → not (beq f u) ≡ true → f ≡ asked u f s
unfolding asked
first_decides false false s d = clash d refl
first_decides false true s d = refl
first_decides true false s d = refl
first_decides true true s d = clash d refl

second_decides : (f u s : Bool) → not (beq f u) ≡ false → s ≡ asked u f s
unfolding asked
second_decides false false s d = refl
second_decides false true s d = clash refl d
second_decides true false s d = clash refl d
second_decides true true s d = refl

-- a sign that is read at a place of the prefix, which was cut before
pub sign_read : (b : List ℤ) (i : ℕ) {ws : List ℤ} {u : Bool} → u ≡ negative (get_or ws i (pos 0)) → ws ≡ prefix_of b → u ≡ negative (get_or (prefix_of b) i (pos 0))
sign_read b i e p = e ∙ ap (λ (vs : List ℤ). negative (get_or vs i (pos 0))) p

-- ---- one variable tried: the table at the start, with the first value, and after the answer f; u says that it is universal
module _ (b : List ℤ) (i : ℕ) (r : Ready b i) (h : i < variables_of b) (values₀ values₁ values₂ : List ℤ) where
  abbrev q : ℤ
  q = get_or (prefix_of b) i (pos 0)

  abbrev σ : List ℤ
  σ = so_far i values₀

  -- what stood in the table before stands there again
  module _ (t₁ : Table (i + 1) (q ∷ σ) values₁) (t₂ : Table (i + 1) (so_far (i + 1) values₁) values₂) where
    pub back : Table i σ values₂
    back = let f = r.few in older σ values₂ i (omega arith) q (record { long = t₂.long; told = t₂.told ∙ t₁.told })

    module _ {f : Bool} (e : f ≡ holds_from (formula_of b) (i + 1) (so_far (i + 1) values₁)) {u : Bool} (is : u ≡ negative q) where
      pub by_first : not (beq f u) ≡ true → f ≡ holds_from (formula_of b) i σ
      by_first d =
          let s = holds_from (formula_of b) (i + 1) (neg_ℤ q ∷ σ) in
          let w : asked u f s ≡ holds_from (formula_of b) i σ = rw (e, t₁.told, is) (sym (holds_next b i r σ h)) in
          first_decides f u s d ∙ w

      -- then with the second value, and after the answer s
      module _ (values₃ values₄ : List ℤ) (t₃ : Table (i + 1) (neg_ℤ q ∷ so_far i values₂) values₃) (t₄ : Table (i + 1) (so_far (i + 1) values₃) values₄) where
        pub back_again : Table i σ values₄
        back_again = let f = r.few in older σ values₄ i (omega arith) (neg_ℤ q) (record { long = t₄.long; told = t₄.told ∙ t₃.told ∙ ap (λ (vs : List ℤ). neg_ℤ q ∷ vs) back.told })

        pub by_second : {s : Bool} → s ≡ holds_from (formula_of b) (i + 1) (so_far (i + 1) values₃) → not (beq f u) ≡ false → s ≡ holds_from (formula_of b) i σ
        by_second {s} g d =
            let w : asked u f s ≡ holds_from (formula_of b) i σ = rw (e, t₁.told, is, g, t₃.told, back.told) (sym (holds_next b i r σ h)) in
            second_decides f u s d ∙ w
