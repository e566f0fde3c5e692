-- The laws of a prefix: the variables that stand in it, their quantifiers and their levels. A literal's sign does not matter to them;
-- where the prefix is proper a word's sign is its variable's quantifier, levels never fall from left to right, and one level has one
-- quantifier. By induction on the prefix.
use Rattle.std.specs.Prelude.{◌≡◌, refl, ◌⊎◌, Bool, true, false, not, cond, ◌||◌, List, [], ◌∷◌, ◌++◌, ℕ, zero, suc, ◌+◌, ◌≤◌, ◌<◌, eqb, ℤ, neg_ℤ, nat_abs, length, get_or, take, drop}
use Rattle.std.proofs.Common.{sym, ◌∙◌, ap, inl, inr, not-suc-le-zero, le_of_suc-le-suc, arith}
use Rattle.std.specs.Bool.{beq}
use Rattle.std.proofs.Math.IntN.{pos, negsuc}
use Rattle.std.proofs.Math.Seq.{split_at}
use Rattle.words.specs.Laws.Bools.{clash, look, or_e, or_fl, or_fr, or_l, or_r, bool_eq, to_false, eqb_eq, eqb_same, eqb_i, eqb_ne, eqb_comm}
use Rattle.words.specs.Lists.{In, here, there, any}
use Rattle.words.specs.Laws.Lists.{any_i, any_e, any_append, in_at}
use Rattle.words.specs.Words.{negative, mem}
use Rattle.words.specs.Laws.Words.{mem_i, mem_e, negneg, neg_swap, nat_abs_neg, var_cases, own_opposite}
use Rattle.formula.specs.Formula.{Formula, existential, universal, change, level_of, level}
use Rattle.formula.specs.Block.{names, twice, both_signs}
use Rattle.formula.specs.Proper.{Proper}

-- ---- the variable of l stands in the list
unfoldable pub stands : List ℤ → ℤ → Bool
stands ws l = any (names (nat_abs l)) ws

pub stands_i : {w : ℤ} {ws : List ℤ} (l : ℤ) → In w ws → nat_abs l ≡ nat_abs w → stands ws l ≡ true
unfolding stands
stands_i l i e = any_i (names (nat_abs l)) i (eqb_i e)

pub stands_e : (ws : List ℤ) (l : ℤ) → stands ws l ≡ true → (w : ℤ) × In w ws × (nat_abs l ≡ nat_abs w)
unfolding stands
stands_e ws l h = let r = any_e (names (nat_abs l)) ws h in (r.0, r.1, eqb_eq (nat_abs l) (nat_abs r.0) r.2)

pub stands_step : (q : ℤ) (p : List ℤ) (l : ℤ) → stands (q ∷ p) l ≡ (eqb (nat_abs l) (nat_abs q) || stands p l)
unfolding stands any
stands_step q p l = refl

-- it is the first word's, or stands further on
pub stands_cons : (q : ℤ) (p : List ℤ) (l : ℤ) → stands (q ∷ p) l ≡ true → (nat_abs l ≡ nat_abs q) ⊎ ((eqb (nat_abs l) (nat_abs q) ≡ false) × (stands p l ≡ true))
unfolding stands any
stands_cons q p l h = elim (look (eqb (nat_abs l) (nat_abs q))) [ inl e ↦ inl (eqb_eq (nat_abs l) (nat_abs q) e) | inr e ↦ inr (e, rw e at h) ]

pub stands_none : (l : ℤ) → stands [] l ≡ false
unfolding stands any
stands_none l = refl

pub stands_neg : (ws : List ℤ) (l : ℤ) → stands ws (neg_ℤ l) ≡ stands ws l
unfolding stands
stands_neg ws l = rw (nat_abs_neg l)

-- it stands there by one of its two literals
pub stands_mem : (ws : List ℤ) (l : ℤ) → (mem l ws || mem (neg_ℤ l) ws) ≡ stands ws l
stands_mem ws l = bool_eq _ _ go (λ h. let r = stands_e ws l h in back r.0 r.1 (var_cases l r.0 r.2))
  where
    go : (mem l ws || mem (neg_ℤ l) ws) ≡ true → stands ws l ≡ true
    go h = elim (or_e (mem l ws) (mem (neg_ℤ l) ws) h) [ inl e ↦ stands_i l (mem_e l ws e) refl | inr e ↦ stands_i l (mem_e (neg_ℤ l) ws e) (sym (nat_abs_neg l)) ]

    back : (w : ℤ) → In w ws → (l ≡ w) ⊎ (l ≡ neg_ℤ w) → (mem l ws || mem (neg_ℤ l) ws) ≡ true
    back w i (inl e) = or_l {a = mem l ws} (mem (neg_ℤ l) ws) (rw e (mem_i i))
    back w i (inr e) = or_r (mem l ws) {b = mem (neg_ℤ l) ws} (rw (e, negneg w) (mem_i i))

-- a word of another variable than all of these is none of them
pub fresh_word : (l : ℤ) (ws : List ℤ) → any (names (nat_abs l)) ws ≡ false → mem l ws ≡ false
unfolding stands
fresh_word l ws h = or_fl (mem l ws) (mem (neg_ℤ l) ws) (stands_mem ws l ∙ h)

pub stands_append : (xs ys : List ℤ) (l : ℤ) → stands (xs ++ ys) l ≡ (stands xs l || stands ys l)
unfolding stands
stands_append xs ys l = any_append (names (nat_abs l)) xs ys

-- ---- no variable twice
pub twice_head : (q : ℤ) (p : List ℤ) → twice (q ∷ p) ≡ false → stands p q ≡ false
unfolding twice stands
twice_head q p h = or_fl (any (names (nat_abs q)) p) (twice p) h

pub twice_tail : (q : ℤ) (p : List ℤ) → twice (q ∷ p) ≡ false → twice p ≡ false
unfolding twice
twice_tail q p h = or_fr (any (names (nat_abs q)) p) (twice p) h

pub twice_cons : (q : ℤ) (p : List ℤ) → stands p q ≡ false → twice p ≡ false → twice (q ∷ p) ≡ false
unfolding twice stands
twice_cons q p s t = rw (s, t)

-- before a word l the list has no variable twice, and not that of l; and a list so may go on with l
pub twice_before : (xs : List ℤ) (l : ℤ) (ys : List ℤ) → twice (xs ++ l ∷ ys) ≡ false → (twice xs ≡ false) × (stands xs l ≡ false)
unfolding twice
twice_before [] l ys h = (refl, stands_none l)
twice_before (x ∷ xs) l ys h =
    let (a, b) = twice_before xs l ys (twice_tail x (xs ++ l ∷ ys) h) in
    let s = rw stands_append at (twice_head x (xs ++ l ∷ ys) h) in
    let t = rw stands_step at (or_fr (stands xs x) (stands (l ∷ ys) x) s) in
    (twice_cons x xs (or_fl (stands xs x) (stands (l ∷ ys) x) s) a, rw (stands_step x xs l, b, eqb_comm (nat_abs l) (nat_abs x), or_fl (eqb (nat_abs x) (nat_abs l)) (stands ys x) t))

pub twice_snoc : (xs : List ℤ) (l : ℤ) → twice xs ≡ false → stands xs l ≡ false → twice (xs ++ l ∷ []) ≡ false
unfolding twice any
twice_snoc [] l h s = refl
twice_snoc (x ∷ xs) l h s =
    let t = rw (stands_step x xs l, eqb_comm (nat_abs l) (nat_abs x)) at s in
    let e = or_fl (eqb (nat_abs x) (nat_abs l)) (stands xs l) t in
    let f : stands (xs ++ l ∷ []) x ≡ false = rw (stands_append xs (l ∷ []) x, twice_head x xs h, stands_step l [] x, stands_none x, e) in
    twice_cons x (xs ++ l ∷ []) f (twice_snoc xs l (twice_tail x xs h) (or_fr (eqb (nat_abs x) (nat_abs l)) (stands xs l) t))

-- a word that stands elsewhere has another variable
pub other : (q : ℤ) {x : ℤ} {p : List ℤ} → stands p q ≡ false → In x p → nat_abs q ≡ nat_abs x → ⊥
other q s i e = clash (stands_i q i e) s

-- with no variable twice a variable has one word, at one place and with one sign
pub once_in : (p : List ℤ) → twice p ≡ false → {x y : ℤ} → In x p → In y p → nat_abs x ≡ nat_abs y → x ≡ y
once_in (q ∷ p) h (here e) (here f) s = e ∙ sym f
once_in (q ∷ p) h (here e) (there j) s = absurd (other q (twice_head q p h) j (ap nat_abs (sym e) ∙ s))
once_in (q ∷ p) h (there i) (here f) s = absurd (other q (twice_head q p h) i (ap nat_abs (sym f) ∙ sym s))
once_in (q ∷ p) h (there i) (there j) s = once_in p (twice_tail q p h) i j s
once_in [] h {y = y} x6 _ s = elim x6 [ ]

pub once_at : (p : List ℤ) → twice p ≡ false → (i j : ℕ) → i < length p → j < length p → nat_abs (get_or p i (pos 0)) ≡ nat_abs (get_or p j (pos 0)) → i ≡ j
once_at [] h i j k l s = absurd (not-suc-le-zero k)
once_at (q ∷ p) h zero zero k l s = refl
once_at (q ∷ p) h zero (suc j) k l s = absurd (other q (twice_head q p h) (in_at p j (pos 0) (le_of_suc-le-suc l)) s)
once_at (q ∷ p) h (suc i) zero k l s = absurd (other q (twice_head q p h) (in_at p i (pos 0) (le_of_suc-le-suc k)) (sym s))
once_at (q ∷ p) h (suc i) (suc j) k l s = ap suc (once_at p (twice_tail q p h) i j (le_of_suc-le-suc k) (le_of_suc-le-suc l) s)

pub one_sign_lem : (p : List ℤ) → twice p ≡ false → {q : ℤ} → In q p → 0 < nat_abs q → mem (neg_ℤ q) p ≡ false
one_sign_lem p h {q} i z = to_false (mem (neg_ℤ q) p) (λ e. let w = own_opposite q (once_in p h i (mem_e (neg_ℤ q) p e) (sym (nat_abs_neg q))) in omega arith)

-- and a word's variable is not among those before it
pub fresh_at : (p : List ℤ) → twice p ≡ false → (i : ℕ) → i < length p → any (names (nat_abs (get_or p i (pos 0)))) (take i p) ≡ false
unfolding stands
fresh_at p h i l = (twice_before (take i p) (get_or p i (pos 0)) (drop (suc i) p) (rw (← split_at p i (pos 0) l) h)).1

-- no clause with both signs of a variable: a literal and its opposite stand in it only if they are 0
pub both_signs_lem : (C : List ℤ) → both_signs C ≡ false → (x : ℤ) → In x C → In (neg_ℤ x) C → x ≡ neg_ℤ x
unfolding both_signs
both_signs_lem (l ∷ C) h x (here e) (here f) = e ∙ sym f
both_signs_lem (l ∷ C) h x (here e) (there j) = clash (mem_i (rw e at j)) (or_fl (mem (neg_ℤ l) C) (both_signs C) h)
both_signs_lem (l ∷ C) h x (there i) (here f) = let z : x ≡ neg_ℤ l = neg_swap f in clash (mem_i (rw z at i)) (or_fl (mem (neg_ℤ l) C) (both_signs C) h)
both_signs_lem (l ∷ C) h x (there i) (there j) = both_signs_lem C (or_fr (mem (neg_ℤ l) C) (both_signs C) h) x i j
both_signs_lem [] h x x5 _ = elim x5 [ ]

-- ---- quantifier and level of a variable: the literal's sign does not matter
pub existential_neg : (p : List ℤ) (x : ℤ) → existential p (neg_ℤ x) ≡ existential p x
unfolding existential
existential_neg p x = rw (nat_abs_neg x)

pub universal_neg : (p : List ℤ) (x : ℤ) → universal p (neg_ℤ x) ≡ universal p x
unfolding universal
universal_neg p x = rw (nat_abs_neg x)

-- literals of one variable have one quantifier and one level
pub existential_var : (p : List ℤ) (x y : ℤ) → nat_abs x ≡ nat_abs y → existential p x ≡ existential p y
unfolding existential
existential_var p x y e = rw e

pub universal_var : (p : List ℤ) (x y : ℤ) → nat_abs x ≡ nat_abs y → universal p x ≡ universal p y
unfolding universal
universal_var p x y e = rw e

pub level_var : (p : List ℤ) (x y : ℤ) → nat_abs x ≡ nat_abs y → level p x ≡ level p y
unfolding level
level_var p x y e = rw e

-- a level is a number of changes, of at most as many as there are words
pub change_few : (q : ℤ) (p : List ℤ) → change q p ≤ 1
unfolding change
change_few q [] = omega arith
change_few q (r ∷ p) = few (beq (negative q) (negative r))
  where
    few : (b : Bool) → cond b 0 1 ≤ 1
    few true = omega arith
    few false = omega arith

pub level_few : (p : List ℤ) (v : ℕ) → level_of p v ≤ length p
unfolding level_of
level_few [] v = omega arith
level_few (q ∷ p) v = few (eqb (nat_abs q) v) (change q p + level_of p v) (omega (arith, change_few q p, level_few p v))
  where
    few : (b : Bool) (n : ℕ) → n ≤ suc (length p) → cond b 0 n ≤ suc (length p)
    few true n h = omega arith
    few false n h = h

-- a bound variable stands in the prefix, and the other way round
pub binds : (p : List ℤ) (l : ℤ) → (existential p l || universal p l) ≡ stands p l
unfolding existential universal stands
binds p l = stands_mem p (pos (nat_abs l))

pub existential_stands : (p : List ℤ) (l : ℤ) → existential p l ≡ true → stands p l ≡ true
existential_stands p l h = sym (binds p l) ∙ or_l (universal p l) h

pub universal_stands : (p : List ℤ) (l : ℤ) → universal p l ≡ true → stands p l ≡ true
universal_stands p l h = sym (binds p l) ∙ or_r (existential p l) h

pub stands_bound : (p : List ℤ) (l : ℤ) → stands p l ≡ true → (existential p l ≡ true) ⊎ (universal p l ≡ true)
stands_bound p l h = or_e (existential p l) (universal p l) (binds p l ∙ h)

-- with no variable twice, a variable has one quantifier, and the word's sign says it
module _ (p : List ℤ) (once : twice p ≡ false) where
  pub one_quantifier : (l : ℤ) → 0 < nat_abs l → existential p l ≡ true → universal p l ≡ false
  unfolding existential universal
  one_quantifier l h e = one_sign_lem p once (mem_e (pos (nat_abs l)) p e) h

  pub universal_in : {w : ℤ} → In w p → 0 < nat_abs w → universal p w ≡ negative w
  unfolding universal
  universal_in {w = pos n} i h = one_sign_lem p once i h
  universal_in {w = negsuc n} i h = mem_i i

  pub existential_in : {w : ℤ} → In w p → 0 < nat_abs w → existential p w ≡ not (negative w)
  unfolding existential
  existential_in {w = pos n} i h = mem_i i
  existential_in {w = negsuc n} i h = one_sign_lem p once i h

-- ---- a proper formula's prefix
module _ {F : Formula} (ok : Proper F) where
  -- none of its words is 0
  pub word_named : (q : ℤ) → In q F.prefix → 0 < nat_abs q
  word_named (pos zero) i = clash (mem_i i) ok.named
  word_named (pos (suc n)) i = omega arith
  word_named (negsuc n) i = omega arith

  pub word_universal : (q : ℤ) → In q F.prefix → universal F.prefix q ≡ negative q
  word_universal q i = universal_in F.prefix ok.once i (word_named q i)

  word_existential : (q : ℤ) → In q F.prefix → existential F.prefix q ≡ not (negative q)
  word_existential q i = existential_in F.prefix ok.once i (word_named q i)

  -- an existential variable is not 0
  pub existential_named : (l : ℤ) → existential F.prefix l ≡ true → nat_abs l ≡ 0 → ⊥
  unfolding existential
  existential_named l h e = clash (rw e at h) ok.named

  -- no variable has both quantifiers
  pub existential_universal : (l : ℤ) → existential F.prefix l ≡ true → universal F.prefix l ≡ false
  existential_universal l h = let z = existential_named l h in one_quantifier F.prefix ok.once l (omega arith) h

  pub universal_existential : (l : ℤ) → universal F.prefix l ≡ true → existential F.prefix l ≡ false
  universal_existential l h = to_false (existential F.prefix l) (λ e. clash h (existential_universal l e))

-- what is known of a part p of the prefix P that goes on to P's end: no variable twice; a word's sign is its quantifier; later words have
-- no lower level, and those of the same level the same quantifier
pub data Ordered (P : List ℤ) : List ℤ → Type 0 where
  none : Ordered P []
  more : {q : ℤ} {p : List ℤ} → stands p q ≡ false → universal P q ≡ negative q → existential P q ≡ not (negative q)
      → ((x : ℤ) → In x p → (level P q ≤ level P x) × (level P q ≡ level P x → negative q ≡ negative x)) → Ordered P p → Ordered P (q ∷ p)

-- a variable of the first group has the head's quantifier
level_zero : (q : ℤ) (p : List ℤ) → twice p ≡ false → (x : ℤ) → In x p → change q p + level_of p (nat_abs x) ≡ 0 → negative q ≡ negative x
unfolding change level_of
level_zero q (r ∷ p) h x i z = head (negative q) (negative r) z ∙ go i (level_zero r p (twice_tail _ _ h) x)
  where
    head : (a b : Bool) → cond (beq a b) 0 1 + level_of (r ∷ p) (nat_abs x) ≡ 0 → a ≡ b
    head true true z = refl
    head true false z = absurd (omega arith)
    head false true z = absurd (omega arith)
    head false false z = refl

    go : In x (r ∷ p) → (In x p → change r p + level_of p (nat_abs x) ≡ 0 → negative r ≡ negative x) → negative r ≡ negative x
    go (here e) ih = rw e
    go (there j) ih = ih j (let k : level_of (r ∷ p) (nat_abs x) ≡ 0 = omega arith in rw (eqb_ne (nat_abs r) (nat_abs x) (other _ (twice_head _ _ h) j)) at k)
level_zero q [] h x i z = elim i [ ]

-- a proper prefix is so ordered. c is the number of changes before the part p
ordered_from : (P p : List ℤ) → twice p ≡ false → ((x : ℤ) → In x p → (universal P x ≡ negative x) × (existential P x ≡ not (negative x)))
    → (c : ℕ) → ((x : ℤ) → In x p → level P x ≡ c + level_of p (nat_abs x)) → Ordered P p
unfolding level_of
ordered_from P [] h s c lv = none
ordered_from P (q ∷ p) h s c lv =
    more (twice_head q p h) (s q (here refl)).0 (s q (here refl)).1 order
    (ordered_from P p (twice_tail _ _ h) (λ x i. s x (there i)) (c + change q p) (λ x i. let k = deep x i in omega arith))
  where
    deep : (x : ℤ) → In x p → level P x ≡ c + (change q p + level_of p (nat_abs x))
    deep x i = rw (eqb_ne (nat_abs q) (nat_abs x) (other _ (twice_head _ _ h) i)) at (lv x (there i))

    top : level P q ≡ c + 0
    top = rw (eqb_same (nat_abs q)) at (lv q (here refl))

    order : (x : ℤ) → In x p → (level P q ≤ level P x) × (level P q ≡ level P x → negative q ≡ negative x)
    order x i = let k = deep x i in let t = top in (omega arith, λ e. level_zero q p (twice_tail _ _ h) x i (omega arith))

pub ordered : {F : Formula} → Proper F → Ordered F.prefix F.prefix
unfolding level
ordered {F} ok = ordered_from F.prefix F.prefix ok.once (λ x i. (word_universal ok x i, word_existential ok x i)) 0 (λ x i. omega arith)
