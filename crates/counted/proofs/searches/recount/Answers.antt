-- Of an ended search there is nothing to count; of another the entry at the place is one more.
use Rattle.std.specs.Prelude.{pos, get_or}
use Rattle.std.proofs.Common.{◌∙◌, rules, sym, w32, FitsSigned}
use mir.ValLaws.{to_z-of_z}
use Rattle.counted.proofs.Laws.Search.{entering, entered_is, recount_over}
use Rattle.counted.proofs.searches.recount.Goals as goal

pub returns-then-is_over : goal.returns-then-is_over
returns-then-is_over c x = recount_over _ _ _ _ _ _ _ _ _ x (sym c.is_over.ensures ∙ c.if-is_over.true)

pub bounds-lits-at : goal.bounds-lits-at
bounds-lits-at c = (c.requires.entrant (sym c.is_over.ensures ∙ c.if-is_over.false)).inside

pub count_entry-requires : goal.count_entry-requires
count_entry-requires c =
    let word : FitsSigned w32 (get_or c.args.lits.now c.args.at (pos 0)) = search rules in
    rw (to_z-of_z w32 _ word) (entering _ _ _ _ _ _ _ _ _ c.requires (sym c.is_over.ensures ∙ c.if-is_over.false))

pub returns : goal.returns
returns c x =
    let word : FitsSigned w32 (get_or c.args.lits.now c.args.at (pos 0)) = search rules in
    let on = sym c.is_over.ensures ∙ c.if-is_over.false in
    entered_is _ _ _ _ _ _ _ _ _ x on ((rw (to_z-of_z w32 _ word) at c.count_entry.ensures) (entering _ _ _ _ _ _ _ _ _ x on))
