-- What is shown, by computation: a witness of each kind, a variable that the record leaves out, and each row of the call's own.
use Rattle.std.specs.Prelude.{◌≡◌, refl, ℕ, ℤ, pos, negsuc, Result, Ok}
use mathlib.Core.List.{List, [], ◌∷◌, zip_with}
use Rattle.words.specs.Lists.{all, any}
use Rattle.words.specs.Outcomes.{outcome, refused}
use Rattle.words.specs.declared.Refusal.{Refusal}
use Rattle.words.specs.Words.{eq_z, mem}
use Rattle.formula.specs.Limits.{limits}
use Rattle.formula.specs.Formula.{formula_of, clauses_from, existential, universal, run, first_group}
use Rattle.formula.specs.Block.{twice, bad_ends, both_signs, repeats}
use Rattle.theory.specs.Record.{literals, assigned}
use Rattle.theory.specs.Tests.{unassigned_existential, in_conflict}
use Rattle.theory.specs.Witness.{conflicting, shown_true, signed, witness_of}
use Rattle.record.specs.declared.rule.State.{State}
use Rattle.record.specs.declared.rule.State.TheVariants.{Open, Valid, Unsat}
use Rattle.record.specs.Trail.{trail, record_of, entries}
use Rattle.record.specs.Check.{bad_record, bad_entries}
use Rattle.session.specs.Outcome.{session}
use Rattle.shown.specs.Shown.{shown_refusal, shown_of}

-- a session in the state st, with n entries in the buffers, at revision 5
unfoldable Tells : List ℤ → State → ℕ → List ℤ → List ℕ → List ℤ → Result ℕ Refusal → List ℤ → Type 0
Tells b st n ls ks out a o = shown_of limits (session n 5 st) b (trail ls ks) out ≡ outcome a o

-- case J, whose record is empty: the universal variable is shown against the clause in conflict, and the place behind it stays
shown_j : let b = pos 2 ∷ pos 1 ∷ pos 1 ∷ pos 6 ∷ pos 8 ∷ pos 9 ∷ negsuc 0 ∷ pos 2 ∷ pos 1 ∷ pos 1 ∷ [] in
    Tells b Unsat 0 (pos 0 ∷ pos 0 ∷ []) (0 ∷ 0 ∷ []) (pos 7 ∷ pos 7 ∷ []) (Ok 1) (negsuc 0 ∷ pos 7 ∷ [])
    × Tells b Open 0 (pos 0 ∷ pos 0 ∷ []) (0 ∷ 0 ∷ []) [] (refused 32) []
    × Tells b Valid 0 (pos 0 ∷ pos 0 ∷ []) (0 ∷ 0 ∷ []) [] (refused 32) []
    × Tells b Unsat 0 (pos 0 ∷ pos 0 ∷ []) (0 ∷ 0 ∷ []) [] (refused 30) []
    × Tells b Unsat 3 (pos 0 ∷ pos 0 ∷ []) (0 ∷ 0 ∷ []) [] (refused 12) []
unfolding Tells limits shown_of shown_refusal witness_of conflicting shown_true signed in_conflict unassigned_existential existential universal assigned literals record_of entries bad_record bad_entries formula_of clauses_from run first_group bad_ends any all twice both_signs repeats mem eq_z zip_with
shown_j = (refl, refl, refl, refl, refl)

-- the clause {1,-2}, both existential, with the record 2 (1), 1 (0): in prefix order, and not where the session is Unsat
shown_order : let b = pos 2 ∷ pos 1 ∷ pos 2 ∷ pos 6 ∷ pos 8 ∷ pos 9 ∷ pos 1 ∷ pos 2 ∷ pos 2 ∷ pos 1 ∷ negsuc 1 ∷ [] in
    Tells b Valid 2 (pos 2 ∷ pos 1 ∷ []) (1 ∷ 0 ∷ []) (pos 7 ∷ pos 7 ∷ pos 7 ∷ []) (Ok 2) (pos 1 ∷ pos 2 ∷ pos 7 ∷ [])
    × Tells b Unsat 2 (pos 2 ∷ pos 1 ∷ []) (1 ∷ 0 ∷ []) (pos 7 ∷ pos 7 ∷ []) (refused 32) (pos 7 ∷ pos 7 ∷ [])
unfolding Tells limits shown_of shown_refusal witness_of conflicting shown_true signed in_conflict unassigned_existential existential universal assigned literals record_of entries bad_record bad_entries formula_of clauses_from run first_group bad_ends any all twice both_signs repeats mem eq_z zip_with
shown_order = (refl, refl)
