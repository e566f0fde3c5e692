-- What each public function promises of everything at entry, r being its answer and m' the memory that it leaves; and [only] that the promise fits
-- one answer and one content of each lent buffer. A promise is an equation with a definition.
use Rattle.std.specs.Prelude.{◌≡◌, Bool, List, ℕ, ℤ}
use Rattle.std.proofs.Common.{ap₂}
use Rattle.words.specs.Outcomes.{only_one, outcome, Same, same_answer, same_memory, both_same}
use Rattle.formula.specs.Formula.{formula_of}
use Rattle.record.specs.declared.rule.Rule.{Rule}
use Rattle.record.specs.declared.rule.State.{State}
use Rattle.record.specs.declared.rule.State.TheVariants.{Open}
use Rattle.record.specs.Search.{search, reached}
use Rattle.choice.specs.Preferred.{decides}
use Rattle.memory.specs.Memory.{Memory}
use Rattle.memory.specs.Reasons.{Why, why}
use Rattle.search.specs.declared.searches.Searched.{Searched}
use Rattle.search.specs.Run.{over, Trip, trip, run_from, why_from}

-- ---- what is asked of a state and of a rule
abbrev pub IsOverPromise : State → Bool → Type 0
IsOverPromise st r = r ≡ over st

abbrev pub IsDecidePromise : Rule → Bool → Type 0
IsDecidePromise rule r = r ≡ decides rule

pub only_is_over : {r r' : Bool} (st : State) → IsOverPromise st r → IsOverPromise st r' → r ≡ r'
only_is_over st = only_one

pub only_is_decide : {r r' : Bool} (rule : Rule) → IsDecidePromise rule r → IsDecidePromise rule r' → r ≡ r'
only_is_decide rule = only_one

-- ---- the search
-- two equations: where the search leads, which the reasons have no part in, and the reasons. s is the table that is lent blank: it is left as it was
abbrev pub SearchPromise : List ℤ → Memory → ℕ → ℕ → List ℤ → List ℕ → Searched → Memory → List ℕ → Type 0
SearchPromise b m n budget preferred s r m' s' =
    let F = formula_of b in
    let t = search m.trail n Open in
    (outcome (trip (reached r.reached m'.trail) r.steps) s' ≡ outcome (run_from F preferred budget t 0) s)
    × (why m'.reasons r.reason ≡ why_from F preferred budget t (why m.reasons 0))

pub only_search : {r r' : Searched} {m' m'' : Memory} {s' s'' : List ℕ} (b : List ℤ) (m : Memory) (n budget : ℕ) (preferred : List ℤ) (s : List ℕ)
    → SearchPromise b m n budget preferred s r m' s' → SearchPromise b m n budget preferred s r' m'' s'' → Same r r' (outcome m' s') (outcome m'' s'')
only_search b m n budget preferred s (p, x) (q, y) =
    let e = same_answer (only_one p q) in
    let f = only_one x y in
    record {
      answer = ap₂ (λ (u : Trip) (w : Why). record { reached = record { count = u.reached.count; state = u.reached.state }; steps = u.steps; reason = w.last }) e f;
      memory = both_same (ap₂ (λ (u : Trip) (w : Why). record { trail = u.reached.trail; reasons = w.reasons }) e f) (same_memory (only_one p q));
    }
