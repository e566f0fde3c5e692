-- What the functions over the two buffers say to each other.
use Rattle.std.specs.Prelude.{ℕ, zero, suc, ◌≡◌, Bool, false, cond, not, ◌&&◌, ◌||◌, List, eqb, ltb, ℤ, length, get_or, take, Option, Some, None}
use Rattle.words.specs.Lists.{any}
use Rattle.formula.specs.Block.{no_variable}
use Rattle.record.specs.Trail.{Trail}
use Rattle.record.specs.Inner.Ready.{Bound, Room}

-- buffers whose kinds can be looked at: the record's words name variables of the prefix
pub record KindsLent (p : List ℤ) (t : Trail) (n : ℕ) : Type 0 where
  pub prefix : Bound p
  pub room : Room n t
  pub named : any (no_variable (length p)) (take n t.lits) ≡ false

-- the last place below n that has the kind k
unfoldable pub last_kind : List ℕ → ℕ → ℕ → Option ℕ
last_kind ks k zero = None
last_kind ks k (suc i) = cond (eqb (get_or ks i 0) k) (Some i) (last_kind ks k i)

-- a kind above 2, or of the other quantifier than the variable's
abbrev pub wrong_kind : ℕ → ℕ → Bool
wrong_kind k quantifier = ltb 2 k || (eqb k 1 && eqb quantifier 2) || (eqb k 2 && not (eqb quantifier 2))
