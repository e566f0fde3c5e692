-- A word's place is one of the table's, and its count is at most the number of words.
use Rattle.std.proofs.Common.{◌∙◌, ◌≡◌, ◌<◌, ap, arith, rules, get_or, pos, w32, FitsSigned}
use mir.ValLaws.{to_z-of_z}
use Rattle.formula.specs.Inner.Places.{literal_places, place_of}
use Rattle.formula.specs.Laws.Limits.{literals_are}
use Rattle.counted.proofs.Counting.{count_begin, count_end, count_small, count_turn, placed}
use Rattle.counted.proofs.index.count_literals.Goals as goal
use Rattle.counted.proofs.index.count_literals.Goals.{After-place}

-- the place of this turn's word
module _ (c : After-place) where
  place_is : c.place.result ≡ place_of (get_or c.args.words.now c.loop-word.word-index (pos 0))
  place_is =
      let word : FitsSigned w32 (get_or c.args.words.now c.loop-word.word-index (pos 0)) = search rules in
      c.place.ensures ∙ ap place_of (to_z-of_z w32 _ word)

  here : c.place.result < literal_places
  here = placed c.args.words.now _ _ c.requires.placed place_is

pub loop-word-init : goal.loop-word-init
loop-word-init c = count_begin literal_places c.args.words.now

pub offset_bounds-counts-place : goal.offset_bounds-counts-place
offset_bounds-counts-place c = let k = here (goal.at.offset_bounds-counts-place c).After-place in search rules

pub bounds-counts-place : goal.bounds-counts-place
bounds-counts-place c = here (goal.at.bounds-counts-place c).After-place

pub overflow_add-counts : goal.overflow_add-counts
overflow_add-counts c =
    let k = count_small _ _ _ _ c.loop-word.invariant c.loop-word-test.true _ (place_is (goal.at.overflow_add-counts c).After-place) in
    omega (arith, literals_are, c.requires.words_len_bound)

pub bounds-counts-place-in-loop-word : goal.bounds-counts-place-in-loop-word
bounds-counts-place-in-loop-word c = here (goal.at.bounds-counts-place-in-loop-word c).After-place

pub loop-word-preserved : goal.loop-word-preserved
loop-word-preserved c =
    let at = (goal.at.loop-word-preserved c).After-place in
    count_turn _ _ _ _ c.loop-word.invariant c.loop-word-test.true _ (place_is at) (here at)

pub returns : goal.returns
returns c = record { long = c.loop-word.invariant.long; said = λ p h. count_end _ _ _ _ c.loop-word-test.false c.loop-word.invariant p }
