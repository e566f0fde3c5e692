-- The search over the prefix where no clause makes a rule due: by the statuses, by the index, and by the numbers of true literals.
use Rattle.words.specs.declared.Literal.{Literal}
use Rattle.std.specs.Prelude.{ℕ, ◌+◌, ◌-◌, ◌≤◌, Bool, true, false, cond, List, leb, ℤ, pos, neg_ℤ, nat_abs, length, get_or, Option, Some, None}
use Rattle.words.specs.Lists.{In}
use Rattle.formula.specs.Limits.{limits, max_variables}
use Rattle.record.specs.Found.{literal, on_found}
use Rattle.choice.specs.First.{first_of}
use Rattle.record.specs.Inner.Buffers.{last_kind}
use Rattle.record.specs.declared.rule.Rule.{Rule}
use Rattle.record.specs.declared.rule.Rule.TheVariants.{Monotone, Decide, BacktrackForall, Succeed}
use Rattle.counted.specs.Inner.Index.{part_at, Parts}
use Rattle.counted.specs.Inner.Live.{some_zero, Within}

-- the parts of a prefix word's two literals lie in the index, and their clauses have numbers
pub record Livable (q : ℤ) (stops index ts : List ℕ) : Type 0 where
  pub small : nat_abs q ≤ limits.variables
  pub parts : Parts stops index
  pub plus : Within (part_at stops index (max_variables + nat_abs q)) ts
  pub minus : Within (part_at stops index (max_variables - nat_abs q)) ts

-- of every prefix word
pub record Walkable (p : List ℤ) (stops index ts : List ℕ) : Type 0 where
  pub few : length p ≤ limits.variables
  pub each : (q : ℤ) → In q p → Livable q stops index ts

-- what a prefix word's variable takes, by which of its two literals are live
abbrev pub taken_by : Bool → Bool → ℤ → Option Literal
taken_by true true q = None
taken_by true false q = Some (literal q)
taken_by false true q = Some (literal (neg_ℤ q))
taken_by false false q = None

module _ (stops index ts : List ℕ) where
  unfoldable pub live_at : ℕ → Bool
  live_at p = some_zero ts (part_at stops index p)

  unfoldable pub taken_at : ℤ → Option Literal
  taken_at q = taken_by (live_at (max_variables + nat_abs q)) (live_at (max_variables - nat_abs q)) q

-- a status of 2 or 3 says that the variable is unassigned
abbrev pub free_at : List ℕ → ℕ → Bool
free_at statuses v = leb 2 (get_or statuses (max_variables + v) 0)

unfoldable pub first_at : List ℕ → ℤ → Option Literal
first_at statuses q = cond (free_at statuses (nat_abs q)) (Some (literal (pos (nat_abs q)))) None

unfoldable pub monotone_at : List ℕ → List ℕ → List ℕ → List ℕ → ℤ → Option Literal
monotone_at stops index statuses ts q = cond (free_at statuses (nat_abs q)) (taken_at stops index ts q) None

-- with everything assigned
abbrev pub assigned_rule : List ℕ → ℕ → Rule
assigned_rule ks n = on_found (last_kind ks 2 n) (λ i. BacktrackForall i) Succeed

-- the rule that is due
unfoldable pub free_rule : List ℤ → List ℕ → ℕ → List ℕ → List ℕ → List ℕ → List ℕ → Rule
free_rule p ks n stops index statuses ts = on_found (first_of (monotone_at stops index statuses ts) p) (λ l. Monotone l) (on_found (first_of (first_at statuses) p) (λ l. Decide l) (assigned_rule ks n))
