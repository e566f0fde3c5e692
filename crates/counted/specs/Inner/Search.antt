-- What the functions of a counted search say to each other: one entry counted, one step, and the search.
use Rattle.std.specs.Prelude.{ℕ, ◌+◌, ◌<◌, ◌≤◌, ◌≡◌, false, cond, List, ℤ, pos, length, get_or, take}
use Rattle.formula.specs.Limits.{limits}
use Rattle.formula.specs.Formula.{formula_of}
use Rattle.formula.specs.Inner.Named.{Named}
use Rattle.theory.specs.Record.{among, assigned}
use Rattle.rules.specs.Due.{due}
use Rattle.record.specs.Trail.{record_of}
use Rattle.record.specs.Search.{search, reached}
use Rattle.record.specs.declared.rule.State.{State}
use Rattle.record.specs.declared.rule.State.TheVariants.{Open}
use Rattle.search.specs.declared.searches.Searched.{Searched}
use Rattle.memory.specs.Memory.{Memory}
use Rattle.memory.specs.Reasons.{why, told}
use Rattle.search.specs.Run.{over, trip, advance, run_from, why_from}
use Rattle.counted.specs.Inner.Index.{Index}
use Rattle.counted.specs.Inner.Numbers.{Rest}
use Rattle.counted.specs.Inner.State.{AllOnce, Set}
use Rattle.counted.specs.Inner.Standing.{clauses_of, SetOn, Numbered}
use Rattle.counted.specs.declared.walk.Bounds.{Bounds}
use Rattle.counted.specs.declared.searches.Next.{Next}

-- an entry at a place of a search that goes on: it is in the buffer, and its variable has no value yet
pub record Entrant (p : List ℤ) (lits : List ℤ) (at : ℕ) : Type 0 where
  pub inside : at < length lits
  pub named : Named (length p) (get_or lits at (pos 0))
  pub free : assigned (among (take at lits)) (get_or lits at (pos 0)) ≡ false

-- the record up to a place is counted; the formula is one that all this belongs to
pub record Recounting (lits : List ℤ) (at : ℕ) (state : State) (stops index statuses ts os : List ℕ) (b : Bounds) : Type 0 where
  pub p : List ℤ
  pub m : List (List ℤ)
  pub ls : List ℤ
  pub indexed : Index ls m stops index
  pub once : AllOnce m
  pub room : length p ≤ limits.variables
  pub now_set : Set p m (among (take at lits)) statuses ts os b
  pub entrant : over state ≡ false → Entrant p lits at

-- with the entry there, if the search goes on
abbrev pub counted_to : ℕ → State → ℕ
counted_to at state = cond (over state) at (at + 1)

-- one step of a run, and what is kept of the record after it
pub record Advanced (b : List ℤ) (m : Memory) (n : ℕ) (preferred : List ℤ) (ts₀ os₀ : List ℕ) (m' : Memory) (r : Next) (statuses ts os : List ℕ) : Type 0 where
  pub led : reached r.reached m'.trail ≡ advance (formula_of b) preferred (search m.trail n Open)
  pub tells : why m'.reasons r.reason ≡ told (due (formula_of b) (record_of m.trail n)) n m.reasons
  pub now_set : SetOn b m'.trail.lits r.reached.count statuses ts os r.bounds
  pub rest : Rest (length (clauses_of b)) ts₀ os₀ ts os

-- a run's steps, and the numbers of the record that they lead to
pub record SearchedTo (b : List ℤ) (m : Memory) (n budget : ℕ) (preferred : List ℤ) (ts₀ os₀ : List ℕ) (m' : Memory) (r : Searched) (ts os : List ℕ) : Type 0 where
  pub led : trip (reached r.reached m'.trail) r.steps ≡ run_from (formula_of b) preferred budget (search m.trail n Open) 0
  pub tells : why m'.reasons r.reason ≡ why_from (formula_of b) preferred budget (search m.trail n Open) (why m.reasons 0)
  pub numbers : Numbered b m'.trail r.reached.count ts₀ os₀ ts os
