-- [shown] The witness of an ended session: when the call is refused, and what it writes, for any words.
use Rattle.std.specs.Prelude.{ℕ, Bool, true, not, List, [], ◌∷◌, ◌++◌, ltb, ℤ, length, Result, Ok}
use Rattle.std.proofs.lemmas.List.Edits.{sets}
use Rattle.words.specs.Rows.{Row, row, refusal_of}
use Rattle.words.specs.Outcomes.{Outcome, outcome, unless, refused}
use Rattle.words.specs.declared.Refusal.{Refusal}
use Rattle.formula.specs.Limits.{Limits}
use Rattle.formula.specs.Formula.{variables_of, formula_of, prefix_of, first_group}
use Rattle.theory.specs.Witness.{witness_of}
use Rattle.record.specs.declared.rule.State.{State}
use Rattle.record.specs.declared.rule.State.TheVariants.{Open, Valid, Unsat}
use Rattle.record.specs.Trail.{Trail, record_of}
use Rattle.record.specs.Check.{bad_record}
use Rattle.memory.specs.Memory.{record_places}
use Rattle.memory.specs.Refusals.{open_rows}
use Rattle.session.specs.declared.Session.{Session}
use Rattle.listing.specs.Page.{first_universal}

-- [row.32] nothing is to be shown: while the session is open; of a universal first group where it is Valid, of any other where it is Unsat
abbrev pub no_witness : State → Bool → Bool
no_witness Open universal = true
no_witness Valid universal = universal
no_witness Unsat universal = not universal

-- ---- [calls.shown] when the call is refused: rows 12, 32 and 30, after those of an opening on the record's buffers. room is the output's length
abbrev pub of_shown : Session → List ℤ → Trail → ℕ → List Row
of_shown s b t room =
    let F = formula_of b in
    row 12 (bad_record (prefix_of b) t s.length)
    ∷ row 32 (no_witness s.state (first_universal F))
    ∷ row 30 (ltb room (variables_of b))
    ∷ []

abbrev pub shown_rows : Limits → Session → List ℤ → Trail → ℕ → List Row
shown_rows L s b t room = open_rows L b (record_places t) ++ of_shown s b t room

unfoldable pub shown_refusal : Limits → Session → List ℤ → Trail → ℕ → ℕ
shown_refusal L s b t room = refusal_of (shown_rows L s b t room)

-- ---- [shown.output] the values in the output's first places, and how many there are; [table.leaves] else the number, and the output as it was
unfoldable pub shown_of : Limits → Session → List ℤ → Trail → List ℤ → Outcome (List ℤ) (Result ℕ Refusal)
shown_of L s b t out =
    let F = formula_of b in
    unless refused (shown_refusal L s b t (length out)) out
    (outcome (Ok (first_group F.prefix)) (sets out 0 (witness_of F (record_of t s.length))))
