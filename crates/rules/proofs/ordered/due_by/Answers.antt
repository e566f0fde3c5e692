-- What the clauses make due picks the case; the parts are those of an accepted block.
use Rattle.std.proofs.Common.{◌≡◌, List, ℕ, sym, ◌∙◌, ap, subst}
use Rattle.std.specs.Prelude.{ℤ}
use Rattle.formula.specs.Limits.{limits}
use Rattle.formula.specs.Block.{refusal}
use Rattle.formula.specs.Formula.{clauses_from, prefix_of, ends_of, literals_of, formula_of}
use Rattle.theory.specs.Record.{Record, true_in}
use Rattle.record.specs.Found.{on_found}
use Rattle.rules.specs.Due.{due_conflict, due_monotone, due}
use Rattle.clauses.specs.Inner.Clauses.{level_by, on_deciding, deciding_by}
use Rattle.tables.specs.Inner.ByLiteral.{status_in}
use Rattle.record.specs.Inner.Ready.{formula, Ready}
use Rattle.tables.specs.Inner.Levels.{Levels}
use Rattle.rules.specs.Inner.Tabled.{Sorts}
use Rattle.rules.proofs.Laws.ClausesReady.{ready_clauses, deciding_ready}
use Rattle.record.proofs.Laws.Accepted.{accepted_ready, formula_is}
use Rattle.record.specs.declared.rule.Rule.TheVariants.{Unit}
use Rattle.clauses.specs.declared.found.Deciding.{Deciding}
use Rattle.clauses.specs.declared.found.Deciding.TheVariants.{Quiet}
use Rattle.rules.proofs.ordered.due_by.Goals as goal

-- the block's parts, and what the clauses make due
module _ (b : List ℤ) (h : refusal limits b ≡ 0) {p es ls : List ℤ} (e : p ≡ prefix_of b) (f : es ≡ ends_of b) (g : ls ≡ literals_of b) where
  parts : Ready p es ls
  parts = rw (e, f, g) (accepted_ready b h)

  due_is : (statuses levels : List ℕ) → Levels (prefix_of b) levels → (r : Record) → Sorts (prefix_of b) (true_in r) statuses
      → {d : Deciding} → d ≡ deciding_by (status_in statuses) (level_by levels) 0 (clauses_from ls 0 es)
      → on_deciding d (due_conflict r) (λ u. on_found u (λ w. Unit w.literal w.clause) (due_monotone (formula p es ls) r)) ≡ due (formula_of b) r
  unfolding due
  due_is statuses levels told r sorting d =
      rw (formula_is b e f g)
      (deciding_ready p es ls parts _ statuses (subst (λ q. Sorts q (true_in r) statuses) (sym e) sorting) levels (subst (λ q. Levels q levels) (sym e) told) d _ _)

pub deciding-requires : goal.deciding-requires
deciding-requires c = ready_clauses _ _ _ (parts _ c.requires.block_value c.prefix-prefix.ensures c.ends-ends.ensures c.literals-literals.ensures)

pub due_free-requires-clause-ready : goal.due_free-requires-clause-ready
due_free-requires-clause-ready c = parts _ c.requires.block_value c.prefix-prefix.ensures c.ends-ends.ensures c.literals-literals.ensures

pub returns-in-Conflict : goal.returns-in-Conflict
returns-in-Conflict c r told sorting =
    c.due_conflict.ensures _ _ told
    ∙ due_is _ c.requires.block_value c.prefix-prefix.ensures c.ends-ends.ensures c.literals-literals.ensures _ _ c.requires.levels r sorting (sym c.in-Conflict.is ∙ c.deciding.ensures)

pub returns-in-Quiet-Some : goal.returns-in-Quiet-Some
returns-in-Quiet-Some c r told sorting =
    due_is _ c.requires.block_value c.prefix-prefix.ensures c.ends-ends.ensures c.literals-literals.ensures _ _ c.requires.levels r sorting
    (sym (c.in-Quiet-Some.is ∙ ap Quiet c.in-Quiet-Some.field-0-is) ∙ c.deciding.ensures)

pub returns-in-Quiet-None : goal.returns-in-Quiet-None
returns-in-Quiet-None c r told sorting =
    c.due_free.ensures r told (rw c.prefix-prefix.ensures sorting)
    ∙ due_is _ c.requires.block_value c.prefix-prefix.ensures c.ends-ends.ensures c.literals-literals.ensures _ _ c.requires.levels r sorting
    (sym (c.in-Quiet-None.is ∙ ap Quiet c.in-Quiet-None.field-0-is) ∙ c.deciding.ensures)
