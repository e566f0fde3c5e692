-- By the laws of one literal more.
use Rattle.std.specs.Prelude.{◌≡◌}
use mir.ValLaws.{to_z-of_z}
use Rattle.formula.specs.Inner.Places.{place_of}
use Rattle.std.proofs.Common.{◌∙◌, ap, w32, refl, arith}
use Rattle.counted.proofs.Laws.Entry.{first_asks, second_asks, set_then}
use Rattle.counted.proofs.Laws.Held.{parts}
use Rattle.counted.proofs.Laws.Statuses.{own_in}
use Rattle.counted.proofs.entry.count_entry.Goals as goal
use Rattle.counted.proofs.entry.count_entry.Goals.{After-place-own}

place_is : (c : After-place-own) → c.place-own.result ≡ place_of c.args.word
place_is c = c.place-own.ensures ∙ ap place_of (to_z-of_z w32 _ c.ranges.word)

pub overflow_sub-other : goal.overflow_sub-other
overflow_sub-other c = let h = own_in c.requires.p c.requires.room _ c.requires.named _ _ (place_is (goal.at.overflow_sub-other c).After-place-own) refl in omega arith

pub bounds-statuses-own : goal.bounds-statuses-own
bounds-statuses-own c = own_in c.requires.p c.requires.room _ c.requires.named _ _ (place_is (goal.at.bounds-statuses-own c).After-place-own) refl

pub bounds-statuses-own-2 : goal.bounds-statuses-own-2
bounds-statuses-own-2 c = own_in c.requires.p c.requires.room _ c.requires.named _ _ (place_is (goal.at.bounds-statuses-own-2 c).After-place-own) refl

pub part-requires-clause-p_lt_literal_places : goal.part-requires-clause-p_lt_literal_places
part-requires-clause-p_lt_literal_places c = own_in c.requires.p c.requires.room _ c.requires.named _ _ (place_is (goal.at.part-requires-clause-p_lt_literal_places c).After-place-own) refl

pub part-requires-clause-parts : goal.part-requires-clause-parts
part-requires-clause-parts c = parts _ _ _ _ c.requires.indexed

pub renumber-half-requires-clause-of_trues : goal.renumber-half-requires-clause-of_trues
renumber-half-requires-clause-of_trues c = (first_asks _ _ _ _ _ _ _ c.requires _ _ _ (place_is (goal.at.renumber-half-requires-clause-of_trues c).After-place-own) refl c.from.ensures _ _ c.part.ensures refl).0

pub renumber-half-requires-clause-of_opens : goal.renumber-half-requires-clause-of_opens
renumber-half-requires-clause-of_opens c = (first_asks _ _ _ _ _ _ _ c.requires _ _ _ (place_is (goal.at.renumber-half-requires-clause-of_opens c).After-place-own) refl c.from.ensures _ _ c.part.ensures refl).1

pub part-requires-2-clause-parts : goal.part-requires-2-clause-parts
part-requires-2-clause-parts c = parts _ _ _ _ c.requires.indexed

pub renumber-requires-clause-of_trues : goal.renumber-requires-clause-of_trues
renumber-requires-clause-of_trues c = (second_asks _ _ _ _ _ _ _ c.requires _ _ _ (place_is (goal.at.renumber-requires-clause-of_trues c).After-place-own) refl c.from.ensures _ _ c.part.ensures c.part-2.ensures _ _ _ c.renumber-half.ensures).0

pub renumber-requires-clause-of_opens : goal.renumber-requires-clause-of_opens
renumber-requires-clause-of_opens c = (second_asks _ _ _ _ _ _ _ c.requires _ _ _ (place_is (goal.at.renumber-requires-clause-of_opens c).After-place-own) refl c.from.ensures _ _ c.part.ensures c.part-2.ensures _ _ _ c.renumber-half.ensures).1

pub returns : goal.returns
returns c x = set_then _ _ _ _ _ _ _ x _ _ _ (place_is (goal.at.returns c).After-place-own) refl c.from.ensures _ _ c.part.ensures c.part-2.ensures _ _ _ c.renumber-half.ensures _ _ _ c.renumber.ensures
