-- That a promise leaves one answer, where that rests on a law: of any kinds there is a record.
use Rattle.std.specs.Prelude.{◌≡◌, List, ℕ, ◌≤◌, length}
use Rattle.words.specs.Outcomes.{only_one}
use Rattle.record.specs.declared.rule.Rule.{Rule}
use Rattle.rules.specs.Promises.{DueConflictPromise}
use Rattle.rules.proofs.Laws.Kinds.{kinds_tabled}

pub only_due_conflict : {r r' : Rule} (ks : List ℕ) (n c : ℕ) → n ≤ length ks → DueConflictPromise ks n c r → DueConflictPromise ks n c r' → r ≡ r'
only_due_conflict ks n c h p q = let (R, table, t) = kinds_tabled ks n h in only_one (p R table t) (q R table t)
