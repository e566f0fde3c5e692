-- How many words of a list pass a test: by induction on the list. A list without repeats has a word once, or not at all.
use Rattle.std.specs.Prelude.{◌+◌, ◌≤◌, ◌≡◌, refl, ◌⊎◌, Bool, true, false, not, ◌||◌, List, [], ◌∷◌, ◌++◌, eqb, ℤ, length}
use Rattle.std.proofs.Common.{◌∙◌, ap, inl, inr, arith, ne_eqb}
use Rattle.words.specs.Words.{eq_z, mem}
use Rattle.words.specs.Lists.{In, any, here, there}
use Rattle.words.specs.Laws.Bools.{clash, look, or_fl, or_fr}
use Rattle.words.specs.Laws.Words.{eq_z_refl, eq_z_eq, eq_z_ne}
use Rattle.formula.specs.Block.{repeats}
use Rattle.counted.specs.Fresh.{bit, count_if}

pub bit_most : (b : Bool) → bit b ≤ 1
bit_most true = omega arith
bit_most false = omega arith

pub count_most : (f : ℤ → Bool) (xs : List ℤ) → count_if f xs ≤ length xs
unfolding count_if
count_most f [] = omega arith
count_most f (x ∷ xs) = omega (arith, count_most f xs, bit_most (f x))

pub count_append : (f : ℤ → Bool) (xs ys : List ℤ) → count_if f (xs ++ ys) ≡ count_if f xs + count_if f ys
unfolding count_if
count_append f [] ys = omega arith
count_append f (x ∷ xs) ys = let ih = count_append f xs ys in omega arith

pub count_same : (f g : ℤ → Bool) (xs : List ℤ) → ((x : ℤ) → In x xs → f x ≡ g x) → count_if f xs ≡ count_if g xs
unfolding count_if
count_same f g [] h = refl
count_same f g (x ∷ xs) h = rw (h x (here refl), count_same f g xs (λ y i. h y (there i)))

pub count_less : (f g : ℤ → Bool) (xs : List ℤ) → ((x : ℤ) → bit (f x) ≤ bit (g x)) → count_if f xs ≤ count_if g xs
unfolding count_if
count_less f g [] h = omega arith
count_less f g (x ∷ xs) h = omega (arith, h x, count_less f g xs h)

-- a test that is one of two
pub count_split : (f g h : ℤ → Bool) (xs : List ℤ) → ((x : ℤ) → bit (f x) ≡ bit (g x) + bit (h x)) → count_if f xs ≡ count_if g xs + count_if h xs
unfolding count_if
count_split f g h [] e = omega arith
count_split f g h (x ∷ xs) e = omega (arith, e x, count_split f g h xs e)

pub count_any : (f : ℤ → Bool) (xs : List ℤ) → eqb (count_if f xs) 0 ≡ not (any f xs)
unfolding count_if any
count_any f [] = refl
count_any f (x ∷ xs) = by (look (f x)) (count_any f xs)
  where
    by : (f x ≡ true) ⊎ (f x ≡ false) → eqb (count_if f xs) 0 ≡ not (any f xs) → eqb (bit (f x) + count_if f xs) 0 ≡ not (f x || any f xs)
    by (inl t) ih = rw t (ne_eqb (1 + count_if f xs) 0 (λ e. omega arith))
    by (inr t) ih = let z : 0 + count_if f xs ≡ count_if f xs = omega arith in rw (t, z) ih

pub count_none : (f : ℤ → Bool) (xs : List ℤ) → any f xs ≡ false → count_if f xs ≡ 0
unfolding count_if any
count_none f [] h = refl
count_none f (x ∷ xs) h =
    let a = or_fl (f x) (any f xs) h in
    let b = count_none f xs (or_fr (f x) (any f xs) h) in
    rw (a, b)

-- a word stands in a list without repeats once, or not at all
pub count_word : (l : ℤ) (xs : List ℤ) → repeats xs ≡ false → count_if (λ x. eq_z x l) xs ≡ bit (mem l xs)
unfolding count_if mem repeats
count_word l [] h = refl
count_word l (x ∷ xs) h = by (look (eq_z x l)) (or_fl (mem x xs) (repeats xs) h) (count_word l xs (or_fr (mem x xs) (repeats xs) h))
  where
    by : (eq_z x l ≡ true) ⊎ (eq_z x l ≡ false) → mem x xs ≡ false → count_if (λ x. eq_z x l) xs ≡ bit (mem l xs) → bit (eq_z x l) + count_if (λ x. eq_z x l) xs ≡ bit (eq_z l x || mem l xs)
    by (inl t) n ih =
        let e : x ≡ l = eq_z_eq x l t in
        let m : mem l xs ≡ false = rw e at n in
        let z : count_if (λ x. eq_z x l) xs ≡ 0 = ih ∙ ap bit m in
        rw (e, eq_z_refl l, z)
    by (inr t) n ih =
        let k : eq_z l x ≡ false = eq_z_ne (λ e. clash (rw e (eq_z_refl x)) t) in
        rw (t, k) (omega (arith, ih))

-- one word passes and no other
pub count_one : (f : ℤ → Bool) (l : ℤ) (xs : List ℤ) → repeats xs ≡ false → ((x : ℤ) → In x xs → f x ≡ eq_z x l) → count_if f xs ≡ bit (mem l xs)
count_one f l xs h same = count_same f (λ x. eq_z x l) xs same ∙ count_word l xs h
