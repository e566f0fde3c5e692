-- One literal more, or the last ones taken back: what is known before. The formula and the assignment are some that all this belongs to.
use Rattle.std.specs.Prelude.{ℕ, ◌≤◌, ◌<◌, ◌≡◌, false, List, ℤ, pos, length, get_or, take}
use Rattle.formula.specs.Limits.{limits}
use Rattle.formula.specs.Block.{twice}
use Rattle.formula.specs.Inner.Named.{Named}
use Rattle.theory.specs.Record.{Assignment, among, assigned}
use Rattle.theory.specs.Grown.{put}
use Rattle.record.specs.Inner.Ready.{Bound}
use Rattle.record.specs.Inner.Tables.{Quantifiers}
use Rattle.counted.specs.Inner.Index.{Index}
use Rattle.counted.specs.Inner.State.{AllOnce, Set}
use Rattle.counted.specs.declared.walk.Bounds.{Bounds}

-- a literal of an unassigned variable, which is to be set
pub record Setting (l : ℤ) (stops index statuses ts os : List ℕ) (b : Bounds) : Type 0 where
  pub p : List ℤ
  pub m : List (List ℤ)
  pub ls : List ℤ
  pub ρ : Assignment
  pub indexed : Index ls m stops index
  pub once : AllOnce m
  pub room : length p ≤ limits.variables
  pub named : Named (length p) l
  pub free : assigned ρ l ≡ false
  pub now_set : Set p m ρ statuses ts os b

-- a literal that was set last
pub record Unsetting (l : ℤ) (stops index quantifiers statuses ts os : List ℕ) (b : Bounds) : Type 0 where
  pub p : List ℤ
  pub m : List (List ℤ)
  pub ls : List ℤ
  pub ρ : Assignment
  pub indexed : Index ls m stops index
  pub once : AllOnce m
  pub bound : Bound p
  pub tabled : Quantifiers p quantifiers
  pub named : Named (length p) l
  pub free : assigned ρ l ≡ false
  pub now_set : Set p m (put l ρ) statuses ts os b

-- a record of n words
pub record Taking (lits : List ℤ) (n : ℕ) (stops index quantifiers statuses ts os : List ℕ) (b : Bounds) : Type 0 where
  pub p : List ℤ
  pub m : List (List ℤ)
  pub ls : List ℤ
  pub indexed : Index ls m stops index
  pub once : AllOnce m
  pub bound : Bound p
  pub tabled : Quantifiers p quantifiers
  pub room : n ≤ length lits
  pub named : (i : ℕ) → i < n → Named (length p) (get_or lits i (pos 0))
  pub different : twice (take n lits) ≡ false
  pub now_set : Set p m (among (take n lits)) statuses ts os b
