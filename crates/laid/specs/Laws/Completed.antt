-- A completed prefix names each of n variables once, if its words name variables within n and none twice: what is free, what is bound and what is idle
-- are counted, and none of them is another.
use Rattle.std.specs.Prelude.{◌≡◌, refl, ◌⊎◌, Bool, true, not, cond, ◌&&◌, List, [], ◌∷◌, ◌++◌, ℕ, zero, suc, ◌+◌, ◌≤◌, ◌<◌, ℤ, pos, nat_abs, length}
use Rattle.std.proofs.Common.{sym, ◌∙◌, ap, inl, inr, arith}
use Rattle.std.proofs.Math.Bool.{false}
use Rattle.std.proofs.Math.ListN.{length-append}
use Rattle.words.specs.Laws.Bools.{clash, and_l, and_r, not_t, to_false}
use Rattle.words.specs.Lists.{In, here, there, any}
use Rattle.words.specs.Laws.Lists.{in_either, any_append, any_f}
use Rattle.words.specs.Laws.Counts.{count}
use Rattle.formula.specs.Laws.Permuted.{words_count}
use Rattle.formula.specs.Block.{names, no_variable, twice}
use Rattle.formula.specs.Laws.Named.{named_passes}
use Rattle.formula.specs.Laws.Prefix.{stands, stands_i, stands_e, stands_append, twice_head, twice_tail, twice_cons}
use Rattle.laid.specs.Block.{those, free, idle, completed}

-- ---- those of the numbers from v on
pub record Those (f : ℕ → Bool) (v n : ℕ) (w : ℤ) : Type 0 where
  pub number : ℕ
  pub word : w ≡ pos number
  pub least : v ≤ number
  pub most : number < v + n
  pub passes : f number ≡ true

later : (f : ℕ → Bool) (v n : ℕ) (w : ℤ) → Those f (suc v) n w → Those f v (suc n) w
later f v n w t = record { number = t.number; word = t.word; least = omega (arith, t.least); most = omega (arith, t.most); passes = t.passes }

pub those_in : (f : ℕ → Bool) (v n : ℕ) (w : ℤ) → In w (those f v n) → Those f v n w
unfolding those
those_in f v zero w i = elim i [ ]
those_in f v (suc n) w i = by (f v) refl i (those_in f (suc v) n w)
  where
    first : f v ≡ true → In w (pos v ∷ those f (suc v) n) → (In w (those f (suc v) n) → Those f (suc v) n w) → Those f v (suc n) w
    first e (here z) ih = record { number = v; word = z; least = omega arith; most = omega arith; passes = e }
    first e (there j) ih = later f v n w (ih j)

    by : (c : Bool) → f v ≡ c → In w (cond c (pos v ∷ those f (suc v) n) (those f (suc v) n)) → (In w (those f (suc v) n) → Those f (suc v) n w) → Those f v (suc n) w
    by true e j ih = first e j ih
    by false e j ih = later f v n w (ih j)

those_once : (f : ℕ → Bool) (v n : ℕ) → twice (those f v n) ≡ false
unfolding those twice
those_once f v zero = refl
those_once f v (suc n) = by (f v) (those_once f (suc v) n)
  where
    alone : stands (those f (suc v) n) (pos v) ≡ true → ⊥
    alone h = let (w, i, e) = stands_e (those f (suc v) n) (pos v) h in let t = those_in f (suc v) n w i in let z : nat_abs w ≡ t.number = ap nat_abs t.word in omega (arith, t.least)

    by : (c : Bool) → twice (those f (suc v) n) ≡ false → twice (cond c (pos v ∷ those f (suc v) n) (those f (suc v) n)) ≡ false
    by true h = twice_cons (pos v) (those f (suc v) n) (to_false (stands (those f (suc v) n) (pos v)) alone) h
    by false h = h

-- ---- how many there are
those_more : (f : ℕ → Bool) (v n : ℕ) → length (those f v (suc n)) ≡ length (those f v n) + cond (f (v + n)) 1 0
unfolding those
those_more f v zero = let e : v + 0 ≡ v = omega arith in rw e (by (f v))
  where
    by : (c : Bool) → length (cond c (pos v ∷ []) []) ≡ 0 + cond c 1 0
    by true = refl
    by false = refl
those_more f v (suc n) = let e : v + suc n ≡ suc v + n = omega arith in rw e (by (f v) (those_more f (suc v) n))
  where
    by : (c : Bool) → length (those f (suc v) (suc n)) ≡ length (those f (suc v) n) + cond (f (suc v + n)) 1 0
        → length (cond c (pos v ∷ those f (suc v) (suc n)) (those f (suc v) (suc n))) ≡ length (cond c (pos v ∷ those f (suc v) n) (those f (suc v) n)) + cond (f (suc v + n)) 1 0
    by true h = omega arith
    by false h = h

those_count : (f : ℕ → Bool) (n : ℕ) → length (those f 1 n) ≡ count f n
unfolding count those
those_count f zero = refl
those_count f (suc n) = let e : 1 + n ≡ suc n = omega arith in those_more f 1 n ∙ rw (e, those_count f n) (by (f (suc n)))
  where
    by : (c : Bool) → count f n + cond c 1 0 ≡ cond c (suc (count f n)) (count f n)
    by true = omega arith
    by false = omega arith

-- each number is bound, free or idle
three : (b m : ℕ → Bool) (n : ℕ) → count (λ v. not (b v) && m v) n + count b n + count (λ v. not (b v) && not (m v)) n ≡ n
unfolding count
three b m zero = refl
three b m (suc n) = by (b (suc n)) (m (suc n)) (count (λ v. not (b v) && m v) n) (count b n) (count (λ v. not (b v) && not (m v)) n) (three b m n)
  where
    by : (p q : Bool) (x y z : ℕ) → x + y + z ≡ n → cond (not p && q) (suc x) x + cond p (suc y) y + cond (not p && not q) (suc z) z ≡ suc n
    by true true x y z h = omega arith
    by true false x y z h = omega arith
    by false true x y z h = omega arith
    by false false x y z h = omega arith

-- ---- two lists that have no variable in common
pub twice_append : (xs ys : List ℤ) → twice xs ≡ false → twice ys ≡ false → ((x : ℤ) → In x xs → stands ys x ≡ false) → twice (xs ++ ys) ≡ false
twice_append [] ys h k apart = k
twice_append (x ∷ xs) ys h k apart =
    twice_cons x (xs ++ ys) (rw (stands_append xs ys x, twice_head x xs h, apart x (here refl))) (twice_append xs ys (twice_tail x xs h) k (λ y i. apart y (there i)))

module _ (n : ℕ) (ws ls : List ℤ) (known : any (no_variable n) ws ≡ false) (once : twice ws ≡ false) where
  pub completed_length : length (completed n ws ls) ≡ n
  unfolding completed
  completed_length =
      rw (length-append (those (free ws ls) 1 n ++ ws) (those (idle ws ls) 1 n), length-append (those (free ws ls) 1 n) ws, those_count (free ws ls) n, those_count (idle ws ls) n, ← words_count n ws once known)
      (three (λ v. any (names v) ws) (λ v. any (names v) ls) n)

  some_those : (f : ℕ → Bool) → any (no_variable n) (those f 1 n) ≡ false
  some_those f = any_f (no_variable n) (those f 1 n) (λ w i. let t = those_in f 1 n w i in rw t.word (named_passes n (pos t.number) (record { some = omega (arith, t.least); most = omega (arith, t.most) })))

  pub completed_known : any (no_variable n) (completed n ws ls) ≡ false
  unfolding completed
  completed_known = rw (any_append (no_variable n) (those (free ws ls) 1 n ++ ws) (those (idle ws ls) 1 n), any_append (no_variable n) (those (free ws ls) 1 n) ws, some_those (free ws ls), known) (some_those (idle ws ls))

  pub completed_once : twice (completed n ws ls) ≡ false
  unfolding completed stands
  completed_once = twice_append (those (free ws ls) 1 n ++ ws) (those (idle ws ls) 1 n) (twice_append (those (free ws ls) 1 n) ws (those_once (free ws ls) 1 n) once not_bound) (those_once (idle ws ls) 1 n) not_idle
    where
      not_bound : (x : ℤ) → In x (those (free ws ls) 1 n) → stands ws x ≡ false
      not_bound x i =
          let t = those_in (free ws ls) 1 n x i in
          let v = t.number in
          rw t.word (not_t (any (names v) ws) (and_l (not (any (names v) ws)) (any (names v) ls) t.passes))

      apart : (x : ℤ) → stands (those (idle ws ls) 1 n) x ≡ true → (In x (those (free ws ls) 1 n) ⊎ In x ws) → ⊥
      apart x h (inl i) =
          let (w, j, e) = stands_e (those (idle ws ls) 1 n) x h in
          let t = those_in (idle ws ls) 1 n w j in
          let s = those_in (free ws ls) 1 n x i in
          let v = t.number in
          let z : s.number ≡ v = sym (ap nat_abs s.word) ∙ e ∙ ap nat_abs t.word in
          clash (rw z at (and_r (not (any (names s.number) ws)) (any (names s.number) ls) s.passes)) (not_t (any (names v) ls) (and_r (not (any (names v) ws)) (not (any (names v) ls)) t.passes))
      apart x h (inr i) =
          let (w, j, e) = stands_e (those (idle ws ls) 1 n) x h in
          let t = those_in (idle ws ls) 1 n w j in
          let v = t.number in
          let z : v ≡ nat_abs x = sym (e ∙ ap nat_abs t.word) in
          clash (stands_i (pos v) i z) (not_t (any (names v) ws) (and_l (not (any (names v) ws)) (not (any (names v) ls)) t.passes))

      not_idle : (x : ℤ) → In x (those (free ws ls) 1 n ++ ws) → stands (those (idle ws ls) 1 n) x ≡ false
      not_idle x i = to_false (stands (those (idle ws ls) 1 n) x) (λ h. apart x h (in_either (those (free ws ls) 1 n) ws i))
