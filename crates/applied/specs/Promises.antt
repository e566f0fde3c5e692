-- What each public function promises of everything at entry, r being its answer and t' the record's buffers as it leaves them; and [only] that
-- the promise fits one answer and one content of each lent buffer. A promise is an equation with a definition.
use Rattle.std.specs.Prelude.{◌≡◌, List, ℕ, ℤ}
use Rattle.std.proofs.Common.{ap}
use Rattle.words.specs.Outcomes.{only_one, Same}
use Rattle.words.specs.declared.Literal.{Literal}
use Rattle.formula.specs.Formula.{prefix_of}
use Rattle.record.specs.declared.rule.Reached.{Reached}
use Rattle.record.specs.declared.rule.Rule.{Rule}
use Rattle.record.specs.declared.rule.State.TheVariants.{Open}
use Rattle.record.specs.Trail.{Trail}
use Rattle.record.specs.Search.{Search, search, reached}
use Rattle.applied.specs.Apply.{append, apply}

abbrev pub ApplyPromise : List ℤ → Trail → ℕ → Rule → Literal → Reached → Trail → Type 0
ApplyPromise b t n rule l r t' = reached r t' ≡ apply (prefix_of b) rule l.0 (search t n Open)

abbrev pub AppendPromise : Trail → ℕ → ℕ → Literal → Reached → Trail → Type 0
AppendPromise t n k l r t' = reached r t' ≡ append k l.0 (search t n Open)

one_reached : {r r' : Reached} {t' t'' : Trail} {s : Search} → reached r t' ≡ s → reached r' t'' ≡ s → Same r r' t' t''
one_reached p q =
    let e = only_one p q in
    record { answer = ap (λ (s : Search). record { count = s.count; state = s.state }) e; memory = ap (λ (s : Search). s.trail) e }

pub only_apply : {r r' : Reached} {t' t'' : Trail} (b : List ℤ) (t : Trail) (n : ℕ) (rule : Rule) (l : Literal)
    → ApplyPromise b t n rule l r t' → ApplyPromise b t n rule l r' t'' → Same r r' t' t''
only_apply b t n rule l = one_reached

pub only_append : {r r' : Reached} {t' t'' : Trail} (t : Trail) (n k : ℕ) (l : Literal) → AppendPromise t n k l r t' → AppendPromise t n k l r' t'' → Same r r' t' t''
only_append t n k l = one_reached
