-- The ways out of the call: the number of a row, or the values. What the guard has passed says that the block, the record and the output will do.
use Rattle.std.specs.Prelude.{Option, Ok, Err}
use Prim.Native.Nat.{ℕ, ◌≤◌}
use mathlib.Core.Path.{◌≡◌, refl, ◌∙◌}
use mathlib.Core.List.{List}
use native.Mathlib.Omega.{arith}
use lib.IntN.{ℤ}
use lib.ListN.{length, take}
use lib.Seq.{sets}
use borrow.Author.Tests.{ltb-false}
use Rattle.words.specs.Outcomes.{outcome}
use Rattle.words.specs.declared.Refusal.{Refusal}
use Rattle.formula.specs.Check.{checked_of}
use Rattle.formula.specs.Laws.Check.{checked_accepted, checked_leaves}
use Rattle.words.specs.Laws.Rows.{first_part, passed}
use Rattle.formula.specs.Limits.{limits}
use Rattle.formula.specs.Formula.{variables_of, formula_of, prefix_of, ends_of, literals_of, clauses_from, first_group}
use Rattle.theory.specs.Record.{Assignment, among, true_in}
use Rattle.theory.specs.Witness.{conflicting, shown_true, signed, witness_of}
use Rattle.record.specs.Trail.{Trail, record_of}
use Rattle.record.specs.Inner.Tables.{Values}
use Rattle.record.specs.Inner.Ready.{OnBlock}
use Rattle.record.proofs.Laws.Accepted.{on_block, kept_literals_lem}
use Rattle.rules.specs.Due.{due}
use Rattle.memory.specs.Memory.{record_places}
use Rattle.memory.specs.Refusals.{open_rows, open_refusal}
use Rattle.memory.proofs.Laws.Opened.{opened, record_room}
use Rattle.session.specs.declared.Session.{Session}
use Rattle.listing.proofs.Groups.{group_within, group_long, group_word}
use Rattle.shown.specs.Shown.{of_shown, shown_rows, shown_refusal, shown_of}
use Rattle.shown.specs.Inner.Conflict.{conflict_of, clause_of}
use Rattle.shown.specs.Inner.Writing.{Writable}
use Rattle.shown.specs.Laws.Conflict.{conflicting_due}

module _ (s : Session) (b : List ℤ) (t : Trail) (out : List ℤ) where
  pub refuses : (e : Refusal) → Err e ≡ checked_of (shown_refusal limits s b t (length out)) → outcome (Err e) out ≡ shown_of limits s b t out
  unfolding shown_of
  refuses e h = checked_leaves (shown_refusal limits s b t (length out)) out _ e h

  module _ (u : Unit {0}) (h : Ok u ≡ checked_of (shown_refusal limits s b t (length out))) where
    none : shown_refusal limits s b t (length out) ≡ 0
    none = checked_accepted (shown_refusal limits s b t (length out)) u h

    pub on_record : OnBlock limits b t s.length
    unfolding open_refusal shown_refusal
    on_record =
        let o = opened limits b (record_places t) (first_part (open_rows limits b (record_places t)) (of_shown s b t (length out)) none) in
        on_block b t s.length (record_room t o) (passed (shown_rows limits s b t (length out)) refl none 12)

    enough : first_group (prefix_of b) ≤ length out
    unfolding shown_refusal formula_of
    enough =
        let v = ltb-false (length out) (variables_of b) (passed (shown_rows limits s b t (length out)) refl none 30) in
        omega (arith, v, group_within b on_record.block)

    module _ {p : List ℤ} (cut : p ≡ prefix_of b) {k : ℕ} (group : k ≡ first_group p) {g : List ℤ} (taken : g ≡ take k p) where
      group_is : g ≡ take (first_group (prefix_of b)) (prefix_of b)
      group_is = taken ∙ rw (group, cut)

      -- the group's words are small, and there is room for them
      pub writable : Writable g out
      writable = rw group_is (record { room = omega (arith, group_long b on_record.block, enough); small = group_word b on_record.block })

      -- what the table and the clause say is what the record shows
      pub writes : {f : Option ℕ} → f ≡ conflict_of (due (formula_of b) (record_of t s.length)) → {C : List ℤ} → C ≡ clause_of (clauses_from (literals_of b) 0 (ends_of b)) f
          → (table : List ℕ) → Values (among (take s.length t.lits)) table → {out' : List ℤ} → ((ρ : Assignment) → Values ρ table → out' ≡ sets out 0 (signed (shown_true ρ C) g))
          → outcome (Ok k) out' ≡ shown_of limits s b t out
      unfolding shown_of witness_of formula_of
      writes named {C = C} is table v {out' = out'} w =
          let n = s.length in
          let m = clauses_from (literals_of b) 0 (ends_of b) in
          let against : C ≡ conflicting (prefix_of b) m (true_in (record_of t n)) = is ∙ rw named (conflicting_due (formula_of b) (record_of t n)) in
          let d : out' ≡ sets out 0 (signed (shown_true (true_in (record_of t n)) (conflicting (prefix_of b) m (true_in (record_of t n)))) (take (first_group (prefix_of b)) (prefix_of b)))
          = w (among (take n t.lits)) v ∙ rw (group_is, against, kept_literals_lem (prefix_of b) t n on_record.kept) in
          rw (none, d, group, cut)
