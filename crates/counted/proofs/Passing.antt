-- One pass over a clause of key 1: its last open literal so far, and the lowest universal level.
use Rattle.std.specs.Prelude.{ℕ, ◌+◌, ◌≤◌, ◌<◌, min, ◌≡◌, refl, cond, eqb, List, ℤ, pos, nat_abs, length, get_or, drop, Some, None}
use Rattle.std.proofs.Common.{arith, lt-ltb, le-ltb, ne_eqb}
use Rattle.words.specs.Laws.Lists.{next, ended}
use Rattle.formula.specs.Limits.{limits}
use Rattle.record.specs.Found.{literal}
use Rattle.clauses.specs.Inner.Clauses.{level_by}
use Rattle.record.specs.Inner.Tables.{places}
use Rattle.counted.specs.Inner.Unit.{above, last_open, unit_by}

-- l is the last open literal so far, or no literal; a is the lowest level
pub record Looked (st lev : ℤ → ℕ) (C : List ℤ) (l : ℤ) (a j : ℕ) : Type 0 where
  pub small : nat_abs l ≤ limits.variables
  pub last : last_open st l (drop j C) ≡ last_open st (pos 0) C
  pub low : above st lev a (drop j C) ≡ above st lev places C

module _ (st lev : ℤ → ℕ) (C : List ℤ) where
  pub look_begin : Looked st lev C (pos 0) places 0
  look_begin = record { small = omega arith; last = refl; low = refl }

  module _ (l : ℤ) (a j : ℕ) (w : Looked st lev C l a j) where
    module _ (h : j < length C) (s : ℕ) (is : s ≡ st (get_or C j (pos 0))) where
      last_next : last_open st (cond (eqb s 2) (get_or C j (pos 0)) l) (drop (j + 1) C) ≡ last_open st (pos 0) C
      unfolding last_open
      last_next = rw is (rw (next C j (pos 0) h) at w.last)

      low_next : above st lev (cond (eqb s 3) (min a (lev (get_or C j (pos 0)))) a) (drop (j + 1) C) ≡ above st lev places C
      unfolding above
      low_next = rw is (rw (next C j (pos 0) h) at w.low)

      -- s is the status of the literal at j: it is open, or universal, or neither
      pub look_open : s ≡ 2 → nat_abs (get_or C j (pos 0)) ≤ limits.variables → Looked st lev C (get_or C j (pos 0)) a (j + 1)
      look_open two small = record { small = small; last = rw two at last_next; low = rw two at low_next }

      pub look_universal : s ≡ 3 → Looked st lev C l (min a (lev (get_or C j (pos 0)))) (j + 1)
      look_universal three = record { small = w.small; last = rw three at last_next; low = rw three at low_next }

      pub look_other : (s ≡ 2 → ⊥) → (s ≡ 3 → ⊥) → Looked st lev C l a (j + 1)
      look_other two three = record { small = w.small; last = rw (ne_eqb s 2 two) at last_next; low = rw (ne_eqb s 3 three) at low_next }

    pub look_end : length C ≤ j → (l ≡ last_open st (pos 0) C) × (a ≡ above st lev places C)
    unfolding last_open above
    look_end h = (rw (ended C j h) at w.last, rw (ended C j h) at w.low)

module _ (st : ℤ → ℕ) (levels : List ℕ) (C : List ℤ) (l : ℤ) (a j v : ℕ) (w : Looked st (level_by levels) C l a j) (h : length C ≤ j) (is : v ≡ nat_abs l) where
  level_is : level_by levels (last_open st (pos 0) C) ≡ get_or levels v 0
  level_is = rw (← (look_end st (level_by levels) C l a j w h).0, is)

  pub unit_hit : get_or levels v 0 < a → Some (literal l) ≡ unit_by st (level_by levels) C
  unfolding unit_by
  unit_hit k =
      let e = look_end st (level_by levels) C l a j w h in
      rw (level_is, ← e.1, lt-ltb (get_or levels v 0) a k, e.0)

  pub unit_miss : a ≤ get_or levels v 0 → None ≡ unit_by st (level_by levels) C
  unfolding unit_by
  unit_miss k =
      let e = look_end st (level_by levels) C l a j w h in
      rw (level_is, ← e.1, le-ltb (get_or levels v 0) a k)
