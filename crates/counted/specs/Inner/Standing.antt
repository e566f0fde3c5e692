-- What a counted run knows at each step: checked input, the tables that the block alone decides, and what is kept of the record.
use Rattle.std.specs.Prelude.{ℕ, ◌≤◌, ◌≡◌, List, ℤ, length, take}
use Rattle.formula.specs.Limits.{limits}
use Rattle.formula.specs.Formula.{clause_count_of, prefix_of, ends_of, literals_of, clauses_from, formula_of}
use Rattle.theory.specs.Record.{among}
use Rattle.record.specs.Trail.{Trail, trail, record_of}
use Rattle.record.specs.Inner.Ready.{OnBlock}
use Rattle.tables.specs.Inner.Levels.{Levels}
use Rattle.record.specs.Inner.Tables.{Quantifiers}
use Rattle.record.specs.declared.rule.Rule.{Rule}
use Rattle.record.specs.declared.rule.Rule.TheVariants.{BacktrackExists, Fail, Unit, Monotone, Decide, BacktrackForall, Succeed}
use Rattle.memory.specs.Memory.{Memory}
use Rattle.memory.specs.Inner.Reasons.{OnMemory}
use Rattle.counted.specs.Counted.{trues_of, opens_of, laid}
use Rattle.counted.specs.Inner.Index.{Index}
use Rattle.counted.specs.Inner.State.{Set}
use Rattle.counted.specs.declared.walk.Bounds.{Bounds}

abbrev pub clauses_of : List ℤ → List (List ℤ)
clauses_of b = clauses_from (literals_of b) 0 (ends_of b)

-- the statuses, the numbers and the bounds are those of a record's first n literals
abbrev pub SetOn : List ℤ → List ℤ → ℕ → List ℕ → List ℕ → List ℕ → Bounds → Type 0
SetOn b lits n statuses ts os bounds = Set (prefix_of b) (clauses_of b) (among (take n lits)) statuses ts os bounds

pub record Tables (b : List ℤ) (levels quantifiers stops index : List ℕ) : Type 0 where
  pub told : Levels (prefix_of b) levels
  pub quantified : Quantifiers (prefix_of b) quantifiers
  pub indexed : Index (literals_of b) (clauses_of b) stops index

pub record Standing (b : List ℤ) (m : Memory) (n : ℕ) (levels quantifiers stops index statuses ts os : List ℕ) (bounds : Bounds) : Type 0 where
  pub on : OnMemory b m n
  pub tables : Tables b levels quantifiers stops index
  pub now_set : SetOn b m.trail.lits n statuses ts os bounds

-- the due rule is looked for: the literals are known by what is kept of them
pub record Sought (b : List ℤ) (ks : List ℕ) (n : ℕ) (levels stops index statuses ts os : List ℕ) (bounds : Bounds) : Type 0 where
  pub lits : List ℤ
  pub on : OnBlock limits b (trail lits ks) n
  pub told : Levels (prefix_of b) levels
  pub indexed : Index (literals_of b) (clauses_of b) stops index
  pub now_set : SetOn b lits n statuses ts os bounds

-- how many entries of n a rule leaves as they are
abbrev pub kept_by : Rule → ℕ → ℕ
kept_by (BacktrackExists i c) n = i
kept_by (Fail c) n = n
kept_by (Unit l c) n = n
kept_by (Monotone l) n = n
kept_by (Decide l) n = n
kept_by (BacktrackForall i) n = i
kept_by Succeed n = n

-- checked input for a counted search, with a place for each clause's numbers and each literal word
pub record Roomy (b : List ℤ) (m : Memory) (n : ℕ) (ts os index : List ℕ) : Type 0 where
  pub on : OnMemory b m n
  pub trues_room : clause_count_of b ≤ length ts
  pub opens_room : clause_count_of b ≤ length os
  pub index_room : length (literals_of b) ≤ length index

-- the numbers of the record in the buffers, and what stays
pub record Numbered (b : List ℤ) (t : Trail) (n : ℕ) (ts₀ os₀ ts os : List ℕ) : Type 0 where
  pub trues : ts ≡ laid (trues_of (formula_of b) (record_of t n)) ts₀
  pub opens : os ≡ laid (opens_of (formula_of b) (record_of t n)) os₀
