-- What one literal more does to what is left of a clause, and what is left at its end: each by the literal's status.
use Rattle.std.specs.Prelude.{false, Bool, ◌≡◌, refl, ℕ, zero, suc, ◌+◌, ◌≤◌, ◌<◌, min, true, cond, List, [], ◌∷◌, ℤ, pos, length, get_or, drop, Option, Some, None, is_some}
use Rattle.std.proofs.Common.{ltb, lt-ltb, le-ltb}
use Rattle.words.specs.Laws.Bools.{clash}
use Rattle.words.specs.Laws.Lists.{next, ended}
use Rattle.record.specs.Found.{literal}
use Rattle.record.specs.Inner.Tables.{places}
use Rattle.clauses.specs.Inner.Clauses.{unit_literal, stays_unit, sight_from, sight_after}
use Rattle.clauses.specs.declared.clauses.Sight.TheVariants.{InConflict, UnitOn, Neither}

-- none of the three lower ones
above_two : (s : ℕ) → (s ≡ 0 → ⊥) → (s ≡ 1 → ⊥) → (s ≡ 2 → ⊥) → (n : ℕ) × (s ≡ suc (suc (suc n)))
above_two zero a b c = absurd (a refl)
above_two (suc zero) a b c = absurd (b refl)
above_two (suc (suc zero)) a b c = absurd (c refl)
above_two (suc (suc (suc n))) a b c = (n, refl)

-- the words of D up to j are read
module _ (st lev : ℤ → ℕ) (D : List ℤ) where
  pub record Looking (kept : Option ℤ) (above j : ℕ) : Type 0 where
    pub left : sight_after st lev kept above (drop j D) ≡ sight_from st lev places D

  pub look_start : Looking None places 0
  unfolding sight_after
  look_start = record { left = refl }

  module _ (kept : Option ℤ) (above j : ℕ) (k : Looking kept above j) where
    module _ (h : j < length D) where
      abbrev word : ℤ
      word = get_or D j (pos 0)

      abbrev rest : List ℤ
      rest = drop (j + 1) D

      here : sight_after st lev kept above (word ∷ rest) ≡ sight_from st lev places D
      here = rw (next D j (pos 0) h) at k.left

      pub look_false : st word ≡ 0 → Looking kept above (j + 1)
      unfolding sight_after stays_unit sight_from
      look_false e = record { left = go kept here }
        where
          go : (o : Option ℤ) → sight_after st lev o above (word ∷ rest) ≡ sight_from st lev places D → sight_after st lev o above rest ≡ sight_from st lev places D
          go None i = rw e at i
          go (Some l) i = rw e at i

      pub look_true : st word ≡ 1 → Neither ≡ sight_from st lev places D
      unfolding sight_after stays_unit sight_from
      look_true e = go kept here
        where
          go : (o : Option ℤ) → sight_after st lev o above (word ∷ rest) ≡ sight_from st lev places D → Neither ≡ sight_from st lev places D
          go None i = rw e at i
          go (Some l) i = rw e at i

      -- an existential literal: the first one, the second
      module _ (e : st word ≡ 2) where
        pub look_first : kept ≡ None → Looking (Some word) above (j + 1)
        unfolding sight_after sight_from
        look_first none = record { left = rw (none, e) at here }

        pub look_second : is_some kept ≡ true → Neither ≡ sight_from st lev places D
        unfolding sight_after stays_unit
        look_second some = go kept some here
          where
            go : (o : Option ℤ) → is_some o ≡ true → sight_after st lev o above (word ∷ rest) ≡ sight_from st lev places D → Neither ≡ sight_from st lev places D
            go None b i = clash b refl
            go (Some l) b i = rw e at i

      -- a universal literal: only the lowest level counts
      module _ (a : st word ≡ 0 → ⊥) (b : st word ≡ 1 → ⊥) (c : st word ≡ 2 → ⊥) where
        pub look_universal : Looking kept (min above (lev word)) (j + 1)
        unfolding sight_after stays_unit sight_from
        look_universal = let e = (above_two (st word) a b c).1 in record { left = go e kept here }
          where
            go : {n : ℕ} → st word ≡ suc (suc (suc n)) → (o : Option ℤ) → sight_after st lev o above (word ∷ rest) ≡ sight_from st lev places D → sight_after st lev o (min above (lev word)) rest ≡ sight_from st lev places D
            go e None i = rw e at i
            go e (Some l) i = rw e at i

    -- at the clause's end
    module _ (h : length D ≤ j) where
      last : sight_after st lev kept above [] ≡ sight_from st lev places D
      last = rw (ended D j h) at k.left

      pub look_bare : kept ≡ None → InConflict ≡ sight_from st lev places D
      unfolding sight_after sight_from
      look_bare none = rw none at last

      module _ (l : ℤ) (some : kept ≡ Some l) where
        either : cond (ltb (lev l) above) (UnitOn (literal l)) Neither ≡ sight_from st lev places D
        unfolding sight_after stays_unit
        either = rw some at last

        pub look_below : lev l < above → UnitOn (literal l) ≡ sight_from st lev places D
        look_below b = rw (lt-ltb (lev l) above b) at either

        pub look_above : above ≤ lev l → Neither ≡ sight_from st lev places D
        look_above b = rw (le-ltb (lev l) above b) at either

-- and the literal of a unit clause
pub unit_taken : (b : Bool) (l : ℤ) → unit_literal (cond b (UnitOn (literal l)) Neither) ≡ cond b (Some (literal l)) None
unit_taken true l = refl
unit_taken false l = refl
