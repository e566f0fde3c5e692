-- What a run proposes.
use Rattle.std.specs.Prelude.{Bool, true, false, cond, List, ℤ, pos, Some, None}
use Rattle.theory.specs.Record.{Assignment}
use Rattle.theory.specs.Tests.{is_open}
use Rattle.record.specs.Found.{literal, on_found}
use Rattle.choice.specs.First.{first_of}
use Rattle.record.specs.declared.rule.Rule.{Rule}
use Rattle.record.specs.declared.rule.Rule.TheVariants.{BacktrackExists, Fail, Unit, Monotone, Decide, BacktrackForall, Succeed}

-- the rule is Decide
abbrev pub decides : Rule → Bool
decides (BacktrackExists i c) = false
decides (Fail c) = false
decides (Unit l c) = false
decides (Monotone l) = false
decides (Decide l) = true
decides (BacktrackForall i) = false
decides Succeed = false

-- the first open literal of a list, 0 if it has none [run.proposes]
unfoldable pub first_open : List ℤ → Assignment → List ℤ → ℤ
first_open p ρ ls = on_found (first_of (λ l. cond (is_open p ρ l) (Some (literal l)) None) ls) (λ l. l.0) (pos 0)

-- what a run proposes where a rule is due: one of its preferences at Decide only [run.proposes]
abbrev pub proposal_of : List ℤ → Assignment → List ℤ → Rule → ℤ
proposal_of p ρ preferred rule = cond (decides rule) (first_open p ρ preferred) (pos 0)
