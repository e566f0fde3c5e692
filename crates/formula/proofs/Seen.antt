-- Row 6 from the last word to the first: the marks are those of the words passed, no variable is twice among them, and each has a place.
use Rattle.std.specs.Prelude.{◌≡◌, refl, Bool, true, false, ◌||◌, List, ℕ, ◌+◌, ◌≤◌, ◌<◌, eqb, ltb, ℤ, pos, nat_abs, length, drop, get_or, set, replicate}
use Rattle.std.proofs.Common.{sym, ◌∙◌, arith, length-set, get_or-set_same, get_or-set_other}
use Rattle.std.proofs.Math.Decide.{ℕ_discrete}
use Rattle.std.proofs.lemmas.List.{length-replicate}
use borrow.Author.Tests.{eq-eqb, ne_eqb, lt-ltb, le-ltb}
use Rattle.words.specs.Laws.Bools.{or_l, or_r}
use Rattle.words.specs.Lists.{any}
use Rattle.words.specs.Laws.Lists.{any_i, any_past, in_at, next, ended, blank}
use Rattle.formula.specs.Block.{names, twice}
use Rattle.formula.specs.Laws.Once.{twice_drop, twice_at}
use Rattle.formula.specs.Inner.Tables.{repeated}

-- a word of size over n
abbrev over : ℕ → ℤ → Bool
over n w = ltb n (nat_abs w)

pub record Seen (ws : List ℤ) (n : ℕ) (seen : List Bool) (i : ℕ) : Type 0 where
  pub at : i ≤ length ws
  pub long : length seen ≡ n + 1
  pub marked : (v : ℕ) → get_or seen v false ≡ any (names v) (drop i ws)
  pub once : twice (drop i ws) ≡ false
  pub small : any (over n) (drop i ws) ≡ false

pub begin : (ws : List ℤ) (n : ℕ) → Seen ws n (replicate (n + 1) false) (length ws)
unfolding any twice
begin ws n =
    let none = ended ws (length ws) (omega arith) in
    record { at = omega arith; long = length-replicate (n + 1) false; marked = λ v. rw none (blank false (n + 1) v); once = rw none; small = rw none }

module _ (ws : List ℤ) (n : ℕ) (seen : List Bool) (i : ℕ) (p : Seen ws n seen i) where
  pub end : i ≤ 0 → false ≡ repeated n ws
  end h = let z : i ≡ 0 = omega arith in rw (rw z at p.small, rw z at p.once)

  -- one word further to the front, of size s
  module _ (j : ℕ) (step : j + 1 ≡ i) (s : ℕ) (is : s ≡ nat_abs (get_or ws j (pos 0))) where
    near : j < length ws
    near = let z : i ≤ length ws = p.at in omega arith

    pub large : n < s → true ≡ repeated n ws
    large l = sym (or_l (twice ws) (any_i (over n) (in_at ws j (pos 0) near) (lt-ltb n (nat_abs (get_or ws j (pos 0))) (rw is at l))))

    pub hit : get_or seen s false ≡ true → true ≡ repeated n ws
    hit e = sym (or_r (any (over n) ws) (twice_drop j ws (twice_at ws j near ∙ rw (step, ← is, ← p.marked s, e))))

    mark : (v : ℕ) → s < length seen → get_or (set seen s true) v false ≡ names v (get_or ws j (pos 0)) || any (names v) (drop i ws)
    mark v room = by (ℕ_discrete v s)
      where
        by : Dec (v ≡ s) → get_or (set seen s true) v false ≡ eqb v (nat_abs (get_or ws j (pos 0))) || any (names v) (drop i ws)
        by (yes e) = rw (e, ← is, get_or-set_same seen s true false room, eq-eqb s s refl)
        by (no k) = rw (← is, get_or-set_other seen s v true false k, ne_eqb v s k) (p.marked v)

    pub more : get_or seen s false ≡ false → s ≤ n → Seen ws n (set seen s true) j
    unfolding any
    more e l =
        let room : s < length seen = omega (arith, p.long) in
        record {
          at = omega (arith, near);
          long = length-set seen s true ∙ p.long;
          marked = λ v. rw (next ws j (pos 0) near, step) (mark v room);
          once = twice_at ws j near ∙ rw (step, ← is, ← p.marked s, e) p.once;
          small = sym (any_past (over n) ws j (pos 0) near (le-ltb n (nat_abs (get_or ws j (pos 0))) (rw is at l))) ∙ rw step p.small;
        }
