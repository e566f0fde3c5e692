-- By the laws of the last literal taken back.
use Rattle.std.specs.Prelude.{◌≡◌, nat_abs}
use mir.ValLaws.{to_z-of_z}
use Rattle.formula.specs.Inner.Places.{place_of}
use Rattle.std.proofs.Common.{◌∙◌, ap, w32, refl, arith}
use Rattle.formula.specs.Laws.Limits.{variables_are}
use Rattle.counted.proofs.Laws.Entry.{first_back, back_then, second_back}
use Rattle.counted.proofs.Laws.Held.{parts}
use Rattle.counted.proofs.Laws.Statuses.{own_in}
use Rattle.counted.proofs.entry.uncount_entry.Goals as goal
use Rattle.counted.proofs.entry.uncount_entry.Goals.{After-place-own, After-size}

place_is : (c : After-place-own) → c.place-own.result ≡ place_of c.args.word
place_is c = c.place-own.ensures ∙ ap place_of (to_z-of_z w32 _ c.ranges.word)

size_is : (c : After-size) → c.size.result ≡ nat_abs c.args.word
size_is c = c.size.ensures ∙ ap nat_abs (to_z-of_z w32 _ c.ranges.word)

pub overflow_sub-other : goal.overflow_sub-other
overflow_sub-other c = let h = own_in c.requires.p c.requires.bound.room _ c.requires.named _ _ (place_is (goal.at.overflow_sub-other c).After-place-own) refl in omega arith

pub bounds-fixed-size : goal.bounds-fixed-size
bounds-fixed-size c = omega (arith, (size_is (goal.at.bounds-fixed-size c).After-size), variables_are, c.requires.named.most, c.requires.bound.room)

pub bounds-statuses-own : goal.bounds-statuses-own
bounds-statuses-own c = own_in c.requires.p c.requires.bound.room _ c.requires.named _ _ (place_is (goal.at.bounds-statuses-own c).After-place-own) refl

pub part-requires-clause-p_lt_literal_places : goal.part-requires-clause-p_lt_literal_places
part-requires-clause-p_lt_literal_places c = own_in c.requires.p c.requires.bound.room _ c.requires.named _ _ (place_is (goal.at.part-requires-clause-p_lt_literal_places c).After-place-own) refl

pub part-requires-clause-parts : goal.part-requires-clause-parts
part-requires-clause-parts c = parts _ _ _ _ c.requires.indexed

pub renumber-half-requires-clause-of_trues : goal.renumber-half-requires-clause-of_trues
renumber-half-requires-clause-of_trues c = (first_back _ _ _ _ _ _ _ _ c.requires _ _ (size_is (goal.at.renumber-half-requires-clause-of_trues c).After-size) refl _ _ _ _ (place_is (goal.at.renumber-half-requires-clause-of_trues c).After-place-own) refl c.from.ensures refl _ _ c.part.ensures refl).0

pub renumber-half-requires-clause-of_opens : goal.renumber-half-requires-clause-of_opens
renumber-half-requires-clause-of_opens c = (first_back _ _ _ _ _ _ _ _ c.requires _ _ (size_is (goal.at.renumber-half-requires-clause-of_opens c).After-size) refl _ _ _ _ (place_is (goal.at.renumber-half-requires-clause-of_opens c).After-place-own) refl c.from.ensures refl _ _ c.part.ensures refl).1

pub part-requires-2-clause-parts : goal.part-requires-2-clause-parts
part-requires-2-clause-parts c = parts _ _ _ _ c.requires.indexed

pub renumber-requires-clause-of_trues : goal.renumber-requires-clause-of_trues
renumber-requires-clause-of_trues c = (second_back _ _ _ _ _ _ _ _ c.requires _ _ (size_is (goal.at.renumber-requires-clause-of_trues c).After-size) refl _ _ _ _ (place_is (goal.at.renumber-requires-clause-of_trues c).After-place-own) refl c.from.ensures refl _ _ c.part.ensures c.part-2.ensures _ _ _ c.renumber-half.ensures).0

pub renumber-requires-clause-of_opens : goal.renumber-requires-clause-of_opens
renumber-requires-clause-of_opens c = (second_back _ _ _ _ _ _ _ _ c.requires _ _ (size_is (goal.at.renumber-requires-clause-of_opens c).After-size) refl _ _ _ _ (place_is (goal.at.renumber-requires-clause-of_opens c).After-place-own) refl c.from.ensures refl _ _ c.part.ensures c.part-2.ensures _ _ _ c.renumber-half.ensures).1

pub returns : goal.returns
returns c x = back_then _ _ _ _ _ _ _ _ x _ _ (size_is (goal.at.returns c).After-size) refl _ _ _ _ (place_is (goal.at.returns c).After-place-own) refl c.from.ensures refl _ _ c.part.ensures c.part-2.ensures _ _ _ c.renumber-half.ensures _ _ _ c.renumber.ensures
