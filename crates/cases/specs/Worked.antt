-- What the definitions say of the same blocks and calls, and the one claim: they say what the table says. By computing.
use Rattle.std.specs.Prelude.{ℕ, ◌-◌, ◌≡◌, refl, ℤ, pos, get_or, replicate, Result, Ok, Err}
use mathlib.Core.List.{List, [], ◌∷◌, map, zip_with}
use Rattle.std.specs.Int.Count.{ones}
use Rattle.words.specs.Lists.{all, any}
use Rattle.words.specs.declared.Refusal.{Refusal}
use Rattle.words.specs.Outcomes.{Outcome, refused}
use Rattle.words.specs.Words.{eq_z, mem}
use Rattle.formula.specs.Limits.{limits}
use Rattle.formula.specs.Formula.{formula_of, variables_of, clauses_from, existential, universal, change, level_of, level, run, first_group}
use Rattle.formula.specs.Block.{refusal, twice, bad_ends, both_signs, repeats}
use Rattle.theory.specs.Record.{literals, assigned}
use Rattle.theory.specs.Tests.{unassigned_existential, unassigned_universal, in_conflict, unit_on, occurs, one_sign, untrue_of, monotone as isMonotone, is_open}
use Rattle.record.specs.declared.rule.State.{State}
use Rattle.record.specs.declared.rule.State.TheVariants.{Open}
use Rattle.record.specs.declared.rule.Rule.{Rule}
use Rattle.record.specs.declared.rule.Rule.TheVariants.{BacktrackExists, Fail, Unit, Monotone, Decide, BacktrackForall, Succeed}
use Rattle.record.specs.Found.{literal, last}
use Rattle.choice.specs.First.{first_of, first_unassigned}
use Rattle.clauses.specs.Lowest.{lowest}
use Rattle.rules.specs.Due.{due, candidate, lowest_unit, first_monotone}
use Rattle.choice.specs.Preferred.{first_open}
use Rattle.record.specs.Trail.{record_of, wiped, entries}
use Rattle.applied.specs.Apply.{apply}
use Rattle.record.specs.Check.{bad_entries, bad_record}
use Rattle.session.specs.declared.Session.{Session}
use Rattle.session.specs.declared.Stepped.{Stepped}
use Rattle.session.specs.declared.Ran.{Ran}
use Rattle.memory.specs.Refusals.{open_refusal}
use Rattle.session.specs.Refusals.{step_refusal, run_refusal}
use Rattle.memory.specs.Memory.{Memory, memory}
use Rattle.session.specs.Outcome.{open_outcome, step_outcome}
use Rattle.memory.specs.Reasons.{bad_reasons}
use Rattle.search.specs.Run.{advance, run_from, why_from}
use Rattle.session.specs.Run.{run_of}
use Rattle.listing.specs.declared.sheets.Page.{Page}
use Rattle.listing.specs.Opening.{values_of, opening_start}
use Rattle.listing.specs.Page.{PageMemory, page_refusal, page_from, page_of}
use Rattle.cases.specs.Table as said
use Rattle.cases.specs.Table.{Asked, Said, Case, table, all_0, block_a, block_g, case_a, case_a_monotone, case_b, case_c, case_d, case_e, case_f, case_g, case_h, case_i, case_j, case_k, least_word, case_l, case_l_calls, case_m, case_n, case_o}

-- a rule by its name, with the literal that it wrote; where a clause decided it, with the reason that the step answered
abbrev pub named : Rule → ℤ → ℕ → Said
named (BacktrackExists i c) l w = said.backtrack_exists l w
named (Fail c) l w = said.fail w
named (Unit x c) l w = said.unit l w
named (Monotone x) l w = said.monotone l
named (Decide x) l w = said.decide l
named (BacktrackForall i) l w = said.backtrack_forall l
named Succeed l w = said.succeed

pub record Seen : Type 0 where
  pub heard : List Said
  pub state : State
  pub reasons : List ℕ

abbrev pub seen : List Said → State → List ℕ → Seen
seen s t ws = record { heard = s; state = t; reasons = ws }

-- the next thing said, and what is said of the rest of the calls
abbrev pub next : Said → Seen → Seen
next x u = seen (x ∷ u.heard) u.state u.reasons

-- the last literal of a record of n entries
abbrev pub last_of : Memory → ℕ → ℤ
last_of m n = get_or m.trail.lits (n - 1) (pos 0)

abbrev pub stepped : Session → Rule → Memory → Result Stepped Refusal → (Session → Memory → Seen) → Seen
stepped s r m (Ok t) rest = next (named r (last_of m t.session.length) t.reason) (rest t.session m)
stepped s r m (Err e) rest = next (said.refused e.0) (rest s m)

abbrev pub run_as : Session → Memory → Result Ran Refusal → (Session → Memory → Seen) → Seen
run_as s m (Ok t) rest = next (said.ran t.steps (last_of m t.session.length) t.reason) (rest t.session m)
run_as s m (Err e) rest = next (said.refused e.0) (rest s m)

abbrev pub paged_as : PageMemory → Result Page Refusal → Said
paged_as m (Ok a) = said.listed a.next a.entries a.paused m.output
paged_as m (Err e) = said.refused e.0

pub calling : List ℤ → List Asked → Session → Memory → Seen
calling b [] s m = seen [] s.state m.reasons
calling b (said.step rev l ∷ rest) s m =
    let o = step_outcome limits s b m (record { 0 = rev }) (literal l) in
    stepped s (due (formula_of b) (record_of m.trail s.length)) o.memory o.answer (calling b rest)
calling b (said.run rev budget preferred ∷ rest) s m =
    let o = run_of limits s b m (record { 0 = rev }) budget preferred in
    run_as s o.memory o.answer (calling b rest)
calling b (said.page start budget out ∷ rest) s m =
    let o = page_of limits b (record { work = m.trail; output = out }) start [] budget in
    next (paged_as o.memory o.answer) (calling b rest s (record { trail = o.memory.work; reasons = m.reasons }))

-- from the opening, on buffers of V places that hold something
abbrev pub opened : List ℤ → List Asked → Outcome Memory (Result Session Refusal) → Result Session Refusal → Seen
opened b calls o (Ok s) = calling b calls s o.memory
opened b calls o (Err e) = seen (said.refused e.0 ∷ []) Open []

pub worked : Case → Seen
worked c =
    let v = variables_of c.block in
    let o = open_outcome limits c.block (memory (replicate v (pos 7)) (replicate v 7) (replicate v 7)) (record { 0 = 0 }) in
    opened c.block c.calls o o.answer

pub worked_by_hand : map worked table ≡ map (λ (c : Case). seen c.said c.state c.reasons) table
unfolding table case_a case_a_monotone case_b case_c case_d case_e case_f case_g case_h case_i case_j case_k least_word case_l case_l_calls case_m case_n case_o block_a block_g all_0 worked calling step_outcome open_outcome run_of step_refusal open_refusal run_refusal page_of page_refusal page_from values_of opening_start advance run_from why_from bad_reasons refusal limits twice bad_ends both_signs repeats all any eq_z mem formula_of clauses_from existential universal change level_of level run first_group literals assigned unassigned_existential unassigned_universal in_conflict unit_on occurs one_sign untrue_of isMonotone is_open due lowest last candidate lowest_unit first_of first_monotone first_unassigned first_open entries zip_with record_of wiped apply bad_entries bad_record ones
worked_by_hand = refl

-- [case.n] the same on record buffers of no places: 23 is looked at before 11
pub without_places : (open_outcome limits case_n.block (memory [] [] []) (record { 0 = 0 })).answer ≡ refused 23
unfolding case_n open_outcome open_refusal refusal limits twice bad_ends both_signs repeats all any eq_z mem clauses_from
without_places = refl
