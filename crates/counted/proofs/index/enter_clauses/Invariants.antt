-- Before clause c, and before a word of it.
use Rattle.std.specs.Prelude.{◌≡◌, drop}
use Rattle.formula.specs.Formula.{clauses_from}
use Rattle.counted.proofs.Entered.{Inner, Outer}
use Rattle.counted.proofs.Turns.{left}
use Rattle.counted.proofs.index.enter_clauses.Given as goal

abbrev pub invariant-loop-word : goal.invariant-loop-word
invariant-loop-word l = Inner l.words (clauses_from l.words 0 l.ends) l.fn.index l.stops l.index l.c l.clause l.word-index

abbrev pub invariant-loop-c : goal.invariant-loop-c
invariant-loop-c l =
    let all = clauses_from l.words 0 l.ends in
    (left l.c-iterator.iter ≡ drop l.c-iterator.count all) × Outer l.words all l.fn.index l.stops l.index l.c-iterator.count
