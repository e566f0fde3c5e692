-- Lists: membership, tests of all and of some elements, and the list as a loop sees it. Each by induction on the list.
use Rattle.std.specs.Prelude.{◌≡◌, ◌⊎◌, Bool, false, ◌&&◌, ◌||◌, ℕ, ◌+◌, ◌≤◌, ◌<◌, zero, suc, length, get_or, take, drop, replicate}
use Rattle.std.proofs.Math.Path.{refl, ap₂}
use Rattle.std.proofs.Common.{sym, inl, inr, zero-le, suc-le-suc, not-suc-le-zero, le_of_suc-le-suc, add-one, drop_of_length-le, drop-cons}
use Rattle.std.proofs.Math.Bool.{true, and_assoc, or_assoc}
use mathlib.Core.List.{List, [], ◌∷◌, ◌++◌, head-eq_of_cons-eq, tail-eq_of_cons-eq}
-- what a loop at i has behind it: one element more
pub use Rattle.std.proofs.lemmas.List.{take_more}
use Rattle.words.specs.Laws.Bools.{clash, and_l, and_r, and_i, or_e, or_l, or_r, to_false}
use Rattle.words.specs.Lists.{In, here, there, all, any}

module _ {A : Type 0} where
  pub all_e : (f : A → Bool) (xs : List A) → all f xs ≡ true → {x : A} → In x xs → f x ≡ true
  unfolding all
  all_e f (y ∷ xs) h (here e) = rw e (and_l (f y) (all f xs) h)
  all_e f (y ∷ xs) h (there i) = all_e f xs (and_r (f y) (all f xs) h) i
  all_e f [] h x4 = elim x4 [ ]

  pub all_i : (f : A → Bool) (xs : List A) → ((x : A) → In x xs → f x ≡ true) → all f xs ≡ true
  unfolding all
  all_i f [] h = refl
  all_i f (x ∷ xs) h = and_i (h x (here refl)) (all_i f xs (λ y i. h y (there i)))

  pub any_i : (f : A → Bool) {x : A} {xs : List A} → In x xs → f x ≡ true → any f xs ≡ true
  unfolding any
  any_i f (here {xs = xs} e) h = or_l (any f xs) (rw e at h)
  any_i f (there {y = y} i) h = or_r (f y) (any_i f i h)

  pub any_e : (f : A → Bool) (xs : List A) → any f xs ≡ true → (x : A) × In x xs × (f x ≡ true)
  unfolding any
  any_e f [] h = clash h refl
  any_e f (y ∷ xs) h = go (or_e (f y) (any f xs) h) (any_e f xs)
    where
      go : (f y ≡ true) ⊎ (any f xs ≡ true) → (any f xs ≡ true → (x : A) × In x xs × (f x ≡ true)) → (x : A) × In x (y ∷ xs) × (f x ≡ true)
      go (inl e) ih = (y, here refl, e)
      go (inr e) ih = let r = ih e in (r.0, there r.1, r.2)

  -- the same elements pass, or more
  pub any_more : (f g : A → Bool) (xs : List A) → ((x : A) → In x xs → f x ≡ true → g x ≡ true) → any f xs ≡ true → any g xs ≡ true
  any_more f g xs h e = let r = any_e f xs e in any_i g r.1 (h r.0 r.1 r.2)

  -- no element passes
  pub any_f : (f : A → Bool) (xs : List A) → ((x : A) → In x xs → f x ≡ false) → any f xs ≡ false
  any_f f xs h = to_false _ (λ e. let r = any_e f xs e in clash r.2 (h r.0 r.1))

  pub any_none : (f : A → Bool) (xs : List A) → any f xs ≡ false → {x : A} → In x xs → f x ≡ false
  any_none f xs h {x} i = to_false (f x) (λ e. clash (any_i f i e) h)

  pub all_f : (f : A → Bool) (xs : List A) {x : A} → In x xs → f x ≡ false → all f xs ≡ false
  all_f f xs i h = to_false _ (λ e. clash (all_e f xs e i) h)

  -- two lists
  pub all_append : (f : A → Bool) (xs ys : List A) → all f (xs ++ ys) ≡ (all f xs && all f ys)
  unfolding all
  all_append f [] ys = refl
  all_append f (x ∷ xs) ys = rw (all_append f xs ys) (sym (and_assoc (f x) (all f xs) (all f ys)))

  pub any_append : (f : A → Bool) (xs ys : List A) → any f (xs ++ ys) ≡ (any f xs || any f ys)
  unfolding any
  any_append f [] ys = refl
  any_append f (x ∷ xs) ys = rw (any_append f xs ys) (sym (or_assoc (f x) (any f xs) (any f ys)))

  pub in_middle : (xs : List A) (x : A) (ys : List A) → In x (xs ++ x ∷ ys)
  in_middle [] x ys = here refl
  in_middle (y ∷ xs) x ys = there (in_middle xs x ys)

  -- an element that fails stands past those that all pass
  pub past : (f : A → Bool) (xs s a b : List A) (e : A) → all f xs ≡ true → f e ≡ false → xs ++ s ≡ a ++ e ∷ b → (c : List A) × (a ≡ xs ++ c) × (s ≡ c ++ e ∷ b)
  unfolding all
  past f [] s a b e h g z = (a, refl, z)
  past f (x ∷ xs) s [] b e h g z = clash (and_l (f x) (all f xs) h) (rw (head-eq_of_cons-eq z) g)
  past f (x ∷ xs) s (y ∷ a) b e h g z =
      let (c, u, w) = past f xs s a b e (and_r (f x) (all f xs) h) g (tail-eq_of_cons-eq z) in
      (c, ap₂ (λ (v : A) (vs : List A). v ∷ vs) (sym (head-eq_of_cons-eq z)) u, w)

  -- what a loop at i has before it: the element at i and then the rest; at the end nothing
  pub next : (xs : List A) (i : ℕ) (d : A) → i < length xs → drop i xs ≡ get_or xs i d ∷ drop (i + 1) xs
  next xs i d h = rw add-one (drop-cons xs i d h)

  pub ended : (xs : List A) (i : ℕ) → length xs ≤ i → drop i xs ≡ []
  ended xs i h = drop_of_length-le xs h

  -- a fresh table has the same at every place, and past its end
  pub blank : (a : A) (n i : ℕ) → get_or (replicate n a) i a ≡ a
  blank a zero i = refl
  blank a (suc n) zero = refl
  blank a (suc n) (suc i) = blank a n i

  -- a loop's test of some element: it is found at i, it is looked for further on, it is not there
  module _ (f : A → Bool) (xs : List A) (i : ℕ) where
    pub any_found : (d : A) → i < length xs → f (get_or xs i d) ≡ true → any f (drop i xs) ≡ true
    unfolding any
    any_found d h e = rw (next xs i d h, e)

    pub any_past : (d : A) → i < length xs → f (get_or xs i d) ≡ false → any f (drop (i + 1) xs) ≡ any f (drop i xs)
    unfolding any
    any_past d h e = rw (next xs i d h, e)

    pub any_ended : length xs ≤ i → any f (drop i xs) ≡ false
    unfolding any
    any_ended h = rw (ended xs i h)

  -- an element by its place, and the place of an element
  pub in_at : (xs : List A) (i : ℕ) (d : A) → i < length xs → In (get_or xs i d) xs
  in_at [] i d h = absurd (not-suc-le-zero h)
  in_at (x ∷ xs) zero d h = here refl
  in_at (x ∷ xs) (suc i) d h = there (in_at xs i d (le_of_suc-le-suc h))

  pub at_in : {x : A} {xs : List A} (d : A) → In x xs → (i : ℕ) × (i < length xs) × (get_or xs i d ≡ x)
  at_in d (here {y = y} e) = (0, suc-le-suc zero-le, sym e)
  at_in d (there i) = let r = at_in d i in (suc r.0, suc-le-suc r.1, r.2)

  -- what stands in a part stands in the whole
  pub in_drop : (n : ℕ) (xs : List A) {x : A} → In x (drop n xs) → In x xs
  in_drop zero xs i = i
  in_drop (suc n) [] i = i
  in_drop (suc n) (y ∷ xs) i = there (in_drop n xs i)

  pub in_take : (n : ℕ) (xs : List A) {x : A} → In x (take n xs) → In x xs
  in_take (suc n) (y ∷ xs) (here e) = here e
  in_take (suc n) (y ∷ xs) (there i) = there (in_take n xs i)
  in_take zero xs x3 = elim x3 [ ]
  in_take (suc n) [] x6 = elim x6 [ ]

-- ---- what stands in xs ++ ys
module _ {A : Type 0} where
  pub in_left : {x : A} {xs : List A} (ys : List A) → In x xs → In x (xs ++ ys)
  in_left ys (here e) = here e
  in_left ys (there i) = there (in_left ys i)

  pub in_right : {x : A} (xs : List A) {ys : List A} → In x ys → In x (xs ++ ys)
  in_right [] i = i
  in_right (y ∷ xs) i = there (in_right xs i)

  pub in_either : {x : A} (xs ys : List A) → In x (xs ++ ys) → In x xs ⊎ In x ys
  in_either [] ys i = inr i
  in_either (y ∷ xs) ys (here e) = inl (here e)
  in_either (y ∷ xs) ys (there i) = elim (in_either xs ys i) [ inl j ↦ inl (there j) | inr j ↦ inr j ]
