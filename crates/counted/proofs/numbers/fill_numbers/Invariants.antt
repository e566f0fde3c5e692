-- The clauses before c have their numbers, and those from c on are left.
use Rattle.std.specs.Prelude.{◌≡◌, drop}
use Rattle.formula.specs.Formula.{clauses_from}
use Rattle.tables.specs.Inner.ByLiteral.{status_in}
use Rattle.counted.proofs.Filling.{Filling}
use Rattle.counted.proofs.Turns.{left}
use Rattle.counted.proofs.numbers.fill_numbers.Given as goal

abbrev pub invariant-loop-c : goal.invariant-loop-c
invariant-loop-c l =
    let all = clauses_from l.words 0 l.ends in
    (left l.c-iterator.iter ≡ drop l.c-iterator.count all) × Filling (status_in l.statuses) all l.fn.trues l.fn.opens l.trues l.opens l.c-iterator.count
