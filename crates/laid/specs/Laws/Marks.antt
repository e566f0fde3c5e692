-- Tables by variable as their loops see them; and that what is picked is free, or idle.
use Rattle.std.specs.Prelude.{◌≡◌, refl, Bool, true, false, ◌||◌, List, [], ◌∷◌, ◌++◌, eqb, ℤ, pos, nat_abs, length, get_or, set, take, drop, replicate}
use Rattle.std.proofs.Common.{sym, ◌∙◌, ap, add-one, length-set, length-drop, get_or-set_same, get_or-set_other, length-take-le, eq-eqb, ne_eqb}
use Rattle.std.proofs.Math.Bool.{or-true, or-false}
use Prim.Native.Nat.{ℕ, zero, suc, ◌+◌, ◌-◌, ◌≤◌, ◌<◌}
use Rattle.std.proofs.Math.Decide.{ℕ_discrete}
use native.Mathlib.Omega.{arith}
use Rattle.std.proofs.lemmas.List.{length-replicate}
use Rattle.std.proofs.Math.ListN.{length-append}
use Rattle.std.proofs.lemmas.List.Edits.{sets}
use Rattle.std.proofs.Math.Seq.{set_out}
use Rattle.words.specs.Lists.{any}
use Rattle.words.specs.Outcomes.{outcome}
use Rattle.words.specs.Laws.Lists.{next, ended, blank}
use Rattle.formula.specs.Block.{names}
use Rattle.laid.specs.Block.{those, free, idle, completed}
use Rattle.laid.specs.Inner.Marks.{marked, picked}
use Rattle.laid.specs.Inner.Ready.{Ready}
use Rattle.laid.specs.Laws.Completed.{completed_length}

-- ---- the loop that marks
module _ (t : List Bool) (ws : List ℤ) (i : ℕ) where
  pub mark_turn : i < length ws → marked (set t (nat_abs (get_or ws i (pos 0))) true) (drop (i + 1) ws) ≡ marked t (drop i ws)
  unfolding marked
  mark_turn h = rw (next ws i (pos 0) h)

  pub mark_past : i < length ws → length t ≤ nat_abs (get_or ws i (pos 0)) → marked t (drop (i + 1) ws) ≡ marked t (drop i ws)
  mark_past h k = rw (set_out t (nat_abs (get_or ws i (pos 0))) true k) at (mark_turn h)

  pub mark_ended : length ws ≤ i → marked t (drop i ws) ≡ t
  unfolding marked
  mark_ended h = rw (ended ws i h)

-- ---- what is marked
marked_at : (ws : List ℤ) (t : List Bool) (v : ℕ) → v < length t → get_or (marked t ws) v false ≡ (get_or t v false || any (names v) ws)
unfolding marked any
marked_at [] t v h = sym (or-false (get_or t v false))
marked_at (w ∷ ws) t v h = marked_at ws (set t (nat_abs w) true) v (rw (length-set t (nat_abs w) true) h) ∙ by (ℕ_discrete v (nat_abs w))
  where
    by : Dec (v ≡ nat_abs w) → (get_or (set t (nat_abs w) true) v false || any (names v) ws) ≡ (get_or t v false || (eqb v (nat_abs w) || any (names v) ws))
    by (yes e) = rw (← e, get_or-set_same t v true false h, eq-eqb v v refl) (sym (or-true (get_or t v false)))
    by (no k) = rw (get_or-set_other t (nat_abs w) v true false k, ne_eqb v (nat_abs w) k)

pub marked_blank : (n : ℕ) (ws : List ℤ) (v : ℕ) → v < n → get_or (marked (replicate n false) ws) v false ≡ any (names v) ws
marked_blank n ws v h = rw (marked_at ws (replicate n false) v (rw (length-replicate n false) h), blank false n v)

-- ---- those that are picked
those_same : (f g : ℕ → Bool) (v n : ℕ) → ((u : ℕ) → v ≤ u → u < v + n → f u ≡ g u) → those f v n ≡ those g v n
unfolding those
those_same f g v zero h = refl
those_same f g v (suc n) h = rw (h v (omega arith) (omega arith), those_same f g (suc v) n (λ u a b. h u (omega arith) (omega arith)))

module _ (size n : ℕ) (room : n < size) (ws ls : List ℤ) where
  abbrev table : List ℤ → List Bool
  table = marked (replicate size false)

  pub picked_free : those (picked (table ws) (table ls) true) 1 n ≡ those (free ws ls) 1 n
  unfolding picked
  picked_free = those_same (picked (table ws) (table ls) true) (free ws ls) 1 n (λ u a b. rw (marked_blank size ws u (omega arith), marked_blank size ls u (omega arith)))

  pub picked_idle : those (picked (table ws) (table ls) false) 1 n ≡ those (idle ws ls) 1 n
  unfolding picked
  picked_idle = those_same (picked (table ws) (table ls) false) (idle ws ls) 1 n (λ u a b. rw (marked_blank size ws u (omega arith), marked_blank size ls u (omega arith)))

-- ---- the loop that writes them: what is left from v on
abbrev pub left_from : (ℕ → Bool) → ℕ → ℕ → List ℤ
left_from f v n = those f v (n + 1 - v)

module _ (f : ℕ → Bool) (v n : ℕ) where
  pub those_yes : v ≤ n → f v ≡ true → left_from f v n ≡ pos v ∷ left_from f (v + 1) n
  unfolding those
  those_yes h e = let a : n + 1 - v ≡ suc (n + 1 - (v + 1)) = omega arith in let b : v + 1 ≡ suc v = omega arith in rw (a, e, b)

  pub those_no : v ≤ n → f v ≡ false → left_from f v n ≡ left_from f (v + 1) n
  unfolding those
  those_no h e = let a : n + 1 - v ≡ suc (n + 1 - (v + 1)) = omega arith in let b : v + 1 ≡ suc v = omega arith in rw (a, e, b)

  pub those_ended : n < v → left_from f v n ≡ []
  unfolding those
  those_ended h = let a : n + 1 - v ≡ 0 = omega arith in rw a

-- the place that is reached and what the output holds, and what comes of writing the rest
pub record Left (f : ℕ → Bool) (v n at : ℕ) (o : List ℤ) (from : ℕ) (o₀ : List ℤ) : Type 0 where
  pub place : at + length (left_from f v n) ≡ from + length (those f 1 n)
  pub same : sets o at (left_from f v n) ≡ sets o₀ from (those f 1 n)

module _ {f : ℕ → Bool} {v n at from : ℕ} {o o₀ : List ℤ} (l : Left f v n at o from o₀) where
  pub left_room : v ≤ n → f v ≡ true → at < from + length (those f 1 n)
  left_room h e = omega (arith, l.place, ap length (those_yes f v n h e))

  pub left_yes : {at' : ℕ} {o' : List ℤ} → v ≤ n → f v ≡ true → at' ≡ at + 1 → o' ≡ set o at (pos v) → Left f (v + 1) n at' o' from o₀
  left_yes h e a b =
      let k = those_yes f v n h e in
      record { place = omega (arith, l.place, ap length k, a); same = rw (b, a, add-one at) (sym (ap (sets o at) k) ∙ l.same) }

  pub left_no : {at' : ℕ} {o' : List ℤ} → v ≤ n → f v ≡ false → at' ≡ at → o' ≡ o → Left f (v + 1) n at' o' from o₀
  left_no h e a b = rw (b, a) (record { place = rw (those_no f v n h e) at l.place; same = rw (those_no f v n h e) at l.same })

  pub left_ended : n < v → outcome at o ≡ outcome (from + length (those f 1 n)) (sets o₀ from (those f 1 n))
  left_ended h = let k = those_ended f v n h in let p : at ≡ from + length (those f 1 n) = omega (arith, l.place, ap length k) in rw (← p) (ap (outcome at) (sym (ap (sets o at) k) ∙ l.same))

-- ---- the loop that copies
module _ (to from : List ℤ) (at i : ℕ) where
  pub copy_turn : i < length from → sets (set to (at + i) (get_or from i (pos 0))) (at + (i + 1)) (drop (i + 1) from) ≡ sets to (at + i) (drop i from)
  copy_turn h = let e : at + (i + 1) ≡ suc (at + i) = omega arith in rw (e, next from i (pos 0) h)

  pub copy_ended : length from ≤ i → sets to (at + i) (drop i from) ≡ to
  copy_ended h = rw (ended from i h)

-- ---- the completed prefix in its place, where it is ready for it
module _ {o : List ℤ} {v bound from t : ℕ} (r : Ready o v bound from t) where
  abbrev pub lines : List ℤ
  lines = take bound (drop 6 o)

  abbrev pub named : List ℤ
  named = take t (drop from o)

  abbrev pub first : List ℤ
  first = those (free lines named) 1 v

  abbrev pub last : List ℤ
  last = those (idle lines named) 1 v

  pub lines_length : length lines ≡ bound
  lines_length = length-take-le bound (drop 6 o) (rw (length-drop 6 o) (omega (arith, r.words, r.prefix)))

  pub all_length : length first + bound + length last ≡ v
  unfolding completed
  all_length =
      let e = completed_length v lines named r.known r.once in
      let k = rw (length-append (first ++ lines) last, length-append first lines, lines_length) at e in
      k
