-- Each word's clause is entered at the stop of its place, which lies within the words.
use Rattle.std.specs.Prelude.{◌≡◌, ◌<◌, ℕ, [], pos, length, get_or}
use Rattle.std.proofs.Common.{◌∙◌, rules, arith, ap, inl, w32, FitsSigned}
use mir.ValLaws.{to_z-of_z}
use Rattle.formula.specs.Formula.{clauses_from}
use Rattle.formula.specs.Inner.Places.{literal_places, place_of}
use Rattle.formula.specs.Laws.Clauses.{clauses_length}
use Rattle.formula.specs.Laws.Limits.{clauses_are, literals_are}
use Rattle.counted.specs.Inner.Index.{at, listed}
use Rattle.counted.proofs.Counting.{placed}
use Rattle.counted.proofs.Entered.{inner_begin, inner_end, inner_turn, listed_size, outer_begin, outer_end, word_room, word_small}
use Rattle.counted.proofs.Turns.{after_is, coming_inside, coming_placed, none_more, one_inside, one_is}
use Rattle.counted.proofs.index.enter_clauses.Goals as goal
use Rattle.counted.proofs.index.enter_clauses.Goals.{After-place-p, In-Some}

-- the clause of this turn
module _ (c : In-Some) where
  inside : c.in-Some.c < length (clauses_from c.args.words.now 0 c.args.ends.now)
  inside = let s = c.in-Some.ensures.steps in omega (arith, one_inside (clauses_from c.args.words.now 0 c.args.ends.now) c.loop-c.c-iterator.count c.loop-c.invariant.0 s.0, s.1)

  clause_is : c.in-Some.clause.now ≡ get_or (clauses_from c.args.words.now 0 c.args.ends.now) c.in-Some.c []
  clause_is = let s = c.in-Some.ensures.steps in rw s.1 (one_is (clauses_from c.args.words.now 0 c.args.ends.now) c.loop-c.c-iterator.count c.loop-c.invariant.0 s.0 [])

-- the word of this turn
module _ (c : After-place-p) where
  place_is : c.place-p.result ≡ place_of (get_or c.in-Some.clause.now c.loop-word.word-index (pos 0))
  place_is =
      let word : FitsSigned w32 (get_or c.in-Some.clause.now c.loop-word.word-index (pos 0)) = search rules in
      c.place-p.ensures ∙ ap place_of (to_z-of_z w32 _ word)

  here : c.place-p.result < literal_places
  here = placed c.in-Some.clause.now _ _ (coming_placed c.args.ends.now _ _ c.loop-c.invariant.0 c.in-Some.ensures.steps.0 c.requires.few.clauses.placed) place_is

  sizes : (p : ℕ) → length (listed 0 (clauses_from c.args.words.now 0 c.args.ends.now) p) ≡ at p c.args.words.now
  sizes = listed_size _ _ c.requires.few.clauses.ends

  room : get_or c.loop-word.stops c.place-p.result 0 < length c.loop-word.index
  room = word_room _ _ sizes _ _ _ _ _ _ c.loop-word.invariant c.loop-word-test.true _ place_is here

  small : get_or c.loop-word.stops c.place-p.result 0 < length c.args.words.now
  small = word_small _ _ sizes _ _ _ _ _ _ c.loop-word.invariant c.loop-word-test.true _ place_is here

pub of-requires : goal.of-requires
of-requires c = c.requires.few.clauses.ends

pub loop-c-init-derived : goal.loop-c-init-derived
loop-c-init-derived c =
    let few = c.requires.few.few_clauses in
    ((tt, tt, inl (rw (c.into_iter-c-iterator.ensures.into_iter_gives, c.enumerate-c-items.ensures.count, c.enumerate-c-items.ensures.source, c.of.ensures) (omega (arith, clauses_length c.args.words.now 0 c.args.ends.now, clauses_are)))), tt)

pub loop-c-init : goal.loop-c-init
loop-c-init c =
    rw (c.into_iter-c-iterator.ensures.into_iter_gives, c.enumerate-c-items.ensures.count, c.enumerate-c-items.ensures.source)
    (c.of.ensures, outer_begin _ _ _ _ c.requires.words_in_bounds c.starts_of-stops.ensures)

pub loop-word-init : goal.loop-word-init
loop-word-init c =
    let at = (goal.at.loop-word-init c).In-Some in
    inner_begin _ _ _ _ _ _ _ (inside at) (clause_is at) (rw c.in-Some.ensures.steps.1 c.loop-c.invariant.1)

pub loop-c-preserved : goal.loop-c-preserved
loop-c-preserved c =
    let s = c.in-Some.ensures.steps in (
      rw s.2 (after_is (clauses_from c.args.words.now 0 c.args.ends.now) c.loop-c.c-iterator.count c.loop-c.invariant.0 s.0),
      rw (s.2, ← s.1) (inner_end _ _ _ _ _ _ _ _ c.loop-word-test.false c.loop-word.invariant),
    )

pub place-p-requires : goal.place-p-requires
place-p-requires c =
    let word : FitsSigned w32 (get_or c.in-Some.clause.now c.loop-word.word-index (pos 0)) = search rules in
    rw (to_z-of_z w32 _ word) (coming_placed c.args.ends.now _ _ c.loop-c.invariant.0 c.in-Some.ensures.steps.0 c.requires.few.clauses.placed c.loop-word.word-index)

pub offset_bounds-stops-p : goal.offset_bounds-stops-p
offset_bounds-stops-p c = let k = here (goal.at.offset_bounds-stops-p c).After-place-p in search rules

pub bounds-stops-p : goal.bounds-stops-p
bounds-stops-p c = here (goal.at.bounds-stops-p c).After-place-p

pub overflow_cast-index : goal.overflow_cast-index
overflow_cast-index c = omega (arith, coming_inside c.args.ends.now _ _ c.loop-c.invariant.0 c.in-Some.ensures.steps.0, c.in-Some.ensures.steps.1, c.requires.few.few_clauses, clauses_are)

pub overflow_cast-index-in-loop-word : goal.overflow_cast-index-in-loop-word
overflow_cast-index-in-loop-word c = omega (arith, small (goal.at.overflow_cast-index-in-loop-word c).After-place-p, c.requires.few.few_literals, literals_are)

pub offset_bounds-index-stop : goal.offset_bounds-index-stop
offset_bounds-index-stop c = omega (arith, small (goal.at.offset_bounds-index-stop c).After-place-p, c.requires.few.few_literals, literals_are)

pub bounds-index-stop : goal.bounds-index-stop
bounds-index-stop c = room (goal.at.bounds-index-stop c).After-place-p

pub overflow_add-stops : goal.overflow_add-stops
overflow_add-stops c = omega (arith, small (goal.at.overflow_add-stops c).After-place-p, c.requires.few.few_literals, literals_are)

pub offset_bounds-stops-p-in-loop-word : goal.offset_bounds-stops-p-in-loop-word
offset_bounds-stops-p-in-loop-word c = let k = here (goal.at.offset_bounds-stops-p-in-loop-word c).After-place-p in search rules

pub bounds-stops-p-in-loop-word : goal.bounds-stops-p-in-loop-word
bounds-stops-p-in-loop-word c = here (goal.at.bounds-stops-p-in-loop-word c).After-place-p

pub loop-word-preserved : goal.loop-word-preserved
loop-word-preserved c =
    let at = (goal.at.loop-word-preserved c).After-place-p in
    inner_turn _ _ (sizes at) _ _ _ _ _ _ c.loop-word.invariant c.loop-word-test.true _ (place_is at) (here at)

pub returns : goal.returns
returns c =
    outer_end _ _ (listed_size _ _ c.requires.few.clauses.ends) _ _ _ _ (none_more (clauses_from c.args.words.now 0 c.args.ends.now) c.loop-c.c-iterator.count c.loop-c.invariant.0 c.in-None.ensures.steps.0.0) c.loop-c.invariant.1
