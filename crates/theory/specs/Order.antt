-- [order] What is claimed of the rules in any order.
use Rattle.std.specs.Prelude.{◌≡◌, Bool}
use Prim.Native.Nat.{ℕ, suc, ◌<◌}
use Rattle.formula.specs.Formula.{Formula}
use Rattle.theory.specs.Record.{Record}
use Rattle.theory.specs.Rules.{State, going, verdict, MonotoneTest, PathBy}

-- [order] What is claimed of the paths from a start: fewer than `limit` rules, and the answer is `answer`.
pub record AnyOrder (μ : MonotoneTest) (F : Formula) (start : Record) (limit : ℕ) (answer : Bool) : Type 0 where
  -- [order.ends] Every such path is finite, and has fewer rules still while it is open.
  pub short : {n : ℕ} {s : State} → PathBy μ F n (going start) s → n < limit
  pub fewer : {n : ℕ} {r : Record} → PathBy μ F n (going start) (going r) → suc n < limit
  -- [order.right] Its end agrees with the truth: if it ended valid the answer is true, if unsat false.
  pub right : (b : Bool) {n : ℕ} → PathBy μ F n (going start) (verdict b) → answer ≡ b
  -- [order.ends] And it can be continued until it ends.
  pub goes_on : {n : ℕ} {s : State} → PathBy μ F n (going start) s → (m : ℕ) × PathBy μ F m s (verdict answer)
