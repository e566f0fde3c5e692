-- Laws of words: when two are the same, opposites, and which words a list has. By the cases of a word, and by induction on the list.
use Rattle.std.specs.Prelude.{◌≡◌, refl, ◌⊎◌, true, false, ◌||◌, List, [], ◌∷◌, ◌++◌, ℕ, zero, suc, ◌≤◌, ◌<◌, eqb, ℤ, pos, negsuc, neg_ℤ, nat_abs}
use Rattle.std.proofs.Common.{sym, ◌∙◌, ap, inl, inr, arith, eqb→eq, le-leb}
use Rattle.std.proofs.Math.Bool.{or_assoc, or-false, or-true}
use Rattle.std.proofs.Math.Dec.{eqb_refl}
use Rattle.std.proofs.lemmas.Bool.{lt-leb}
use Rattle.words.specs.Laws.Bools.{clash, T→eq, eq→T, or_e, or_l, or_r, to_false, bool_eq, eqb_eq, eqb_i}
use Rattle.words.specs.Lists.{In, here, there}
use Rattle.words.specs.Words.{negative, opposite, eq_z, mem}

pub eq_z_refl : (x : ℤ) → eq_z x x ≡ true
unfolding eq_z
eq_z_refl (pos n) = T→eq (eqb_refl n)
eq_z_refl (negsuc n) = T→eq (eqb_refl n)

pub eq_z_eq : (x y : ℤ) → eq_z x y ≡ true → x ≡ y
unfolding eq_z
eq_z_eq (pos m) (pos n) h = ap pos (eqb→eq m n (eq→T h))
eq_z_eq (pos m) (negsuc n) h = clash h refl
eq_z_eq (negsuc m) (pos n) h = clash h refl
eq_z_eq (negsuc m) (negsuc n) h = ap negsuc (eqb→eq m n (eq→T h))

pub eq_z_ne : {x y : ℤ} → (x ≡ y → ⊥) → eq_z x y ≡ false
eq_z_ne {x} {y} f = to_false _ (λ e. f (eq_z_eq x y e))

-- words of different variables differ
pub other_word : (x w : ℤ) → (nat_abs x ≡ nat_abs w → ⊥) → eq_z x w ≡ false
other_word x w k = eq_z_ne (λ e. k (ap nat_abs e))

-- the opposite of every word but the least is its negation
pub opposite_is : (x : ℤ) → nat_abs x ≤ 2147483647 → opposite x ≡ neg_ℤ x
unfolding opposite
opposite_is x h = rw (le-leb (nat_abs x) 2147483647 h)

pub opposite_none : (x : ℤ) → 2147483647 < nat_abs x → opposite x ≡ pos 0
unfolding opposite
opposite_none x h = rw (lt-leb (nat_abs x) 2147483647 h)

-- the negation of the negation; a literal and its opposite have one variable
pub negneg : (x : ℤ) → neg_ℤ (neg_ℤ x) ≡ x
negneg (pos zero) = refl
negneg (pos (suc n)) = refl
negneg (negsuc n) = refl

pub neg_swap : {x y : ℤ} → neg_ℤ x ≡ y → x ≡ neg_ℤ y
neg_swap {x} {y} e = sym (negneg x) ∙ ap neg_ℤ e

pub nat_abs_neg : (x : ℤ) → nat_abs (neg_ℤ x) ≡ nat_abs x
nat_abs_neg (pos zero) = refl
nat_abs_neg (pos (suc n)) = refl
nat_abs_neg (negsuc n) = refl

-- two literals of one variable are the same or opposites
pub var_cases : (x y : ℤ) → nat_abs x ≡ nat_abs y → (x ≡ y) ⊎ (x ≡ neg_ℤ y)
var_cases (pos m) (pos n) e = inl (ap pos e)
var_cases (pos zero) (negsuc n) e = absurd (omega arith)
var_cases (pos (suc m)) (negsuc n) e = inr (ap pos e)
var_cases (negsuc m) (pos zero) e = absurd (omega arith)
var_cases (negsuc m) (pos (suc n)) e = let z : m ≡ n = omega arith in inr (ap negsuc z)
var_cases (negsuc m) (negsuc n) e = let z : m ≡ n = omega arith in inl (ap negsuc z)

-- that l is x or the negation of x, and that both have one variable, is the same
pub same_variable : (x l : ℤ) → (eq_z x l || eq_z (neg_ℤ x) l) ≡ eqb (nat_abs l) (nat_abs x)
same_variable x l = bool_eq _ _ there_it (λ e. back (var_cases x l (sym (eqb_eq (nat_abs l) (nat_abs x) e))))
  where
    there_it : (eq_z x l || eq_z (neg_ℤ x) l) ≡ true → eqb (nat_abs l) (nat_abs x) ≡ true
    there_it h = elim (or_e (eq_z x l) (eq_z (neg_ℤ x) l) h) [
      | inl e ↦ eqb_i (ap nat_abs (sym (eq_z_eq x l e)))
      | inr e ↦ eqb_i (ap nat_abs (sym (eq_z_eq (neg_ℤ x) l e)) ∙ nat_abs_neg x)
    ]

    back : (x ≡ l) ⊎ (x ≡ neg_ℤ l) → (eq_z x l || eq_z (neg_ℤ x) l) ≡ true
    back (inl e) = or_l {a = eq_z x l} (eq_z (neg_ℤ x) l) (rw e (eq_z_refl l))
    back (inr e) = or_r (eq_z x l) {b = eq_z (neg_ℤ x) l} (rw (e, negneg l) (eq_z_refl l))

-- only 0 is its own opposite
pub own_opposite : (x : ℤ) → x ≡ neg_ℤ x → nat_abs x ≡ 0
own_opposite (pos zero) e = refl
own_opposite (pos (suc n)) e = let z : ◌≡◌ {A = ℕ} 0 1 = cc in absurd (omega arith)
own_opposite (negsuc n) e = let z : ◌≡◌ {A = ℕ} 0 1 = cc in absurd (omega arith)

-- a word below zero is not 0
pub negative_named : (x : ℤ) → negative x ≡ true → nat_abs x ≡ 0 → ⊥
negative_named (pos n) h e = clash h refl
negative_named (negsuc n) h e = omega arith

pub mem_i : {x : ℤ} {xs : List ℤ} → In x xs → mem x xs ≡ true
unfolding mem
mem_i {x} (here {y = y} {xs = xs} e) = or_l {a = eq_z x y} (mem x xs) (rw e (eq_z_refl y))
mem_i {x} (there {y = y} i) = or_r (eq_z x y) (mem_i i)

pub mem_e : (x : ℤ) (xs : List ℤ) → mem x xs ≡ true → In x xs
unfolding mem
mem_e x [] h = clash h refl
mem_e x (y ∷ ys) h = go (or_e (eq_z x y) (mem x ys) h) (mem_e x ys)
  where
    go : (eq_z x y ≡ true) ⊎ (mem x ys ≡ true) → (mem x ys ≡ true → In x ys) → In x (y ∷ ys)
    go (inl e) ih = here (eq_z_eq x y e)
    go (inr e) ih = there (ih e)

pub mem_append : (x : ℤ) (xs ys : List ℤ) → mem x (xs ++ ys) ≡ (mem x xs || mem x ys)
unfolding mem
mem_append x [] ys = refl
mem_append x (z ∷ xs) ys = rw (mem_append x xs ys) (sym (or_assoc (eq_z x z) (mem x xs) (mem x ys)))

-- ---- a list grown by one word
pub mem_more : (x : ℤ) (xs : List ℤ) (w : ℤ) → mem x (xs ++ w ∷ []) ≡ (mem x xs || eq_z x w)
unfolding mem
mem_more x xs w = mem_append x xs (w ∷ []) ∙ ap (λ b. mem x xs || b) (or-false (eq_z x w))

pub mem_here : (xs : List ℤ) (w : ℤ) → mem w (xs ++ w ∷ []) ≡ true
mem_here xs w = rw (mem_more w xs w, eq_z_refl w) (or-true (mem w xs))

pub mem_other : (x : ℤ) (xs : List ℤ) (w : ℤ) → eq_z x w ≡ false → mem x (xs ++ w ∷ []) ≡ mem x xs
mem_other x xs w h = rw (mem_more x xs w, h) (or-false (mem x xs))

-- the words of a variable other than w's
module _ (xs : List ℤ) (w : ℤ) (v : ℕ) (k : v ≡ nat_abs w → ⊥) where
  pub plus_other : mem (pos v) (xs ++ w ∷ []) ≡ mem (pos v) xs
  plus_other = mem_other (pos v) xs w (other_word (pos v) w k)

  pub minus_other : mem (neg_ℤ (pos v)) (xs ++ w ∷ []) ≡ mem (neg_ℤ (pos v)) xs
  minus_other = mem_other (neg_ℤ (pos v)) xs w (other_word (neg_ℤ (pos v)) w (λ e. k (sym (nat_abs_neg (pos v)) ∙ e)))
