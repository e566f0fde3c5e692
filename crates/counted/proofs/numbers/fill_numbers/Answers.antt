-- Each clause's numbers are written at its number.
use Rattle.std.specs.Prelude.{[]}
use Rattle.std.proofs.Common.{rules, arith, inl}
use Rattle.formula.specs.Formula.{clauses_from}
use Rattle.formula.specs.Laws.Clauses.{clauses_length}
use Rattle.formula.specs.Laws.Limits.{clauses_are}
use Rattle.counted.proofs.Filling.{fill_end, fill_turn}
use Rattle.counted.proofs.Turns.{after_is, coming_few, coming_inside, coming_placed, none_more, one_inside, one_is}
use Rattle.counted.proofs.numbers.fill_numbers.Goals as goal

pub of-requires : goal.of-requires
of-requires c = c.requires.few.clauses.ends

pub loop-c-init-derived : goal.loop-c-init-derived
loop-c-init-derived c =
    let few = c.requires.few.few_clauses in
    ((tt, tt, inl (rw (c.into_iter-c-iterator.ensures.into_iter_gives, c.enumerate-c-items.ensures.count, c.enumerate-c-items.ensures.source, c.of.ensures) (omega (arith, clauses_length c.args.words.now 0 c.args.ends.now, clauses_are)))), tt)

pub count_clause-numbers-requires-clause-placed : goal.count_clause-numbers-requires-clause-placed
count_clause-numbers-requires-clause-placed c = coming_placed c.args.ends.now _ _ c.loop-c.invariant.0 c.in-Some.ensures.steps.0 c.requires.few.clauses.placed

pub count_clause-numbers-requires-clause-clause_len_bound : goal.count_clause-numbers-requires-clause-clause_len_bound
count_clause-numbers-requires-clause-clause_len_bound c = omega (arith, coming_few c.args.ends.now _ _ c.loop-c.invariant.0 c.in-Some.ensures.steps.0, c.requires.few.few_literals)

pub offset_bounds-trues-c : goal.offset_bounds-trues-c
offset_bounds-trues-c c = let k = coming_inside c.args.ends.now _ _ c.loop-c.invariant.0 c.in-Some.ensures.steps.0 in let e = c.in-Some.ensures.steps.1 in search rules

pub bounds-trues-c : goal.bounds-trues-c
bounds-trues-c c = omega (arith, coming_inside c.args.ends.now _ _ c.loop-c.invariant.0 c.in-Some.ensures.steps.0, c.in-Some.ensures.steps.1)

pub offset_bounds-opens-c : goal.offset_bounds-opens-c
offset_bounds-opens-c c = let k = coming_inside c.args.ends.now _ _ c.loop-c.invariant.0 c.in-Some.ensures.steps.0 in let e = c.in-Some.ensures.steps.1 in search rules

pub bounds-opens-c : goal.bounds-opens-c
bounds-opens-c c = omega (arith, coming_inside c.args.ends.now _ _ c.loop-c.invariant.0 c.in-Some.ensures.steps.0, c.in-Some.ensures.steps.1)

pub loop-c-preserved : goal.loop-c-preserved
loop-c-preserved c =
    let s = c.in-Some.ensures.steps in
    let n = clauses_length c.args.words.now 0 c.args.ends.now in
    let all = clauses_from c.args.words.now 0 c.args.ends.now in
    let h = one_inside all c.loop-c.c-iterator.count c.loop-c.invariant.0 s.0 in
    let numbers = rw (one_is all c.loop-c.c-iterator.count c.loop-c.invariant.0 s.0 []) at c.count_clause-numbers.ensures in (
      rw s.2 (after_is all c.loop-c.c-iterator.count c.loop-c.invariant.0 s.0),
      rw (s.2, s.1) (fill_turn _ _ _ _ (omega (arith, c.requires.trues_room)) (omega (arith, c.requires.opens_room)) _ _ _ c.loop-c.invariant.1 h _ numbers),
    )

pub returns : goal.returns
returns c =
    let n = clauses_length c.args.words.now 0 c.args.ends.now in
    let all = clauses_from c.args.words.now 0 c.args.ends.now in
    fill_end _ _ _ _ (omega (arith, c.requires.trues_room)) (omega (arith, c.requires.opens_room)) _ _ _ c.loop-c.invariant.1 (none_more all c.loop-c.c-iterator.count c.loop-c.invariant.0 c.in-None.ensures.steps.0.0)
