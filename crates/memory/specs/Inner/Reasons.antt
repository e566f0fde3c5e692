-- What the functions ask for where reasons are read and written.
use Rattle.std.specs.Prelude.{ℕ, ◌≤◌, ◌<◌, List, ℤ, length}
use Rattle.formula.specs.Limits.{limits}
use Rattle.formula.specs.Formula.{variables_of}
use Rattle.record.specs.declared.rule.Rule.{Rule}
use Rattle.record.specs.declared.rule.Rule.TheVariants.{BacktrackExists, Fail, Unit, Monotone, Decide, BacktrackForall, Succeed}
use Rattle.record.specs.Inner.Ready.{OnBlock}
use Rattle.memory.specs.Memory.{Memory}
use Rattle.memory.specs.Reasons.{reason_of}

-- a record of n entries stands in both buffers
pub record Beside (n : ℕ) (ks ws : List ℕ) : Type 0 where
  pub kinds : n ≤ length ks
  pub reasons : n ≤ length ws

-- an entry more has a place among k reasons
abbrev pub PlaceFits : ℕ → ℕ → Rule → Type 0
PlaceFits k n (BacktrackExists i c) = n ≤ n
PlaceFits k n (Fail c) = n ≤ n
PlaceFits k n (Unit l c) = n < k
PlaceFits k n (Monotone l) = n < k
PlaceFits k n (Decide l) = n < k
PlaceFits k n (BacktrackForall i) = n ≤ n
PlaceFits k n Succeed = n ≤ n

-- and the rule's reason is a word
pub record Tellable (k n : ℕ) (rule : Rule) : Type 0 where
  pub fits : PlaceFits k n rule
  pub small : reason_of rule ≤ 4294967295

-- checked input for a search with reasons: the block's rows, the record's, and a place among the reasons for each variable
pub record OnMemory (b : List ℤ) (m : Memory) (n : ℕ) : Type 0 where
  pub on : OnBlock limits b m.trail n
  pub places : variables_of b ≤ length m.reasons
