-- [reasons] Why an entry was made: what each rule answers, what it leaves in the reasons, and which reasons are wrong.
use Rattle.std.specs.Prelude.{ℕ, zero, suc, ◌+◌, Bool, false, not, ◌&&◌, ◌||◌, List, eqb, ltb, get_or, set}
use Rattle.record.specs.Trail.{wiped}
use Rattle.record.specs.declared.rule.Rule.{Rule}
use Rattle.record.specs.declared.rule.Rule.TheVariants.{BacktrackExists, Fail, Unit, Monotone, Decide, BacktrackForall, Succeed}

-- [step.reason] the number of the clause that decided the rule, plus one; 0 if none did
abbrev pub reason_of : Rule → ℕ
reason_of (BacktrackExists i c) = c + 1
reason_of (Fail c) = c + 1
reason_of (Unit l c) = c + 1
reason_of (Monotone l) = 0
reason_of (Decide l) = 0
reason_of (BacktrackForall i) = 0
reason_of Succeed = 0

-- what a rule leaves in the reasons ws of a record of n entries: [reasons.unit] an entry's own, which is 0 unless Unit made it; [reasons.cut] 0 from
-- the cut's place to the old length
abbrev pub noted : Rule → ℕ → List ℕ → List ℕ
noted (BacktrackExists i c) n ws = wiped 0 ws i n
noted (Fail c) n ws = ws
noted (Unit l c) n ws = set ws n (c + 1)
noted (Monotone l) n ws = set ws n 0
noted (Decide l) n ws = set ws n 0
noted (BacktrackForall i) n ws = wiped 0 ws i n
noted Succeed n ws = ws

-- the reasons as they are, and the last step's
pub record Why : Type 0 where
  pub reasons : List ℕ
  pub last : ℕ

abbrev pub why : List ℕ → ℕ → Why
why ws w = record { reasons = ws; last = w }

-- after a rule
abbrev pub told : Rule → ℕ → List ℕ → Why
told rule n ws = why (noted rule n ws) (reason_of rule)

-- [row.12.reason] with c clauses and beside the kind k: it is above C, or it stands beside a decision
abbrev pub bad_reason : ℕ → ℕ → ℕ → Bool
bad_reason c k w = ltb c w || (not (eqb k 0) && not (eqb w 0))

-- some reason among the first n
unfoldable pub bad_reasons : ℕ → List ℕ → List ℕ → ℕ → Bool
bad_reasons c ks ws zero = false
bad_reasons c ks ws (suc n) = bad_reason c (get_or ks n 0) (get_or ws n 0) || bad_reasons c ks ws n
