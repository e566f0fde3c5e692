-- The problem line, the lines of the groups, the lines of the clauses.
use Rattle.std.specs.Prelude.{◌≡◌, List, ◌++◌, ℕ, ℤ, length}
use Rattle.formula.specs.Limits.{limits}
use Rattle.formula.specs.Formula.{prefix_of, ends_of, literals_of, clauses_from}
use Rattle.formula.specs.Block.{refusal}
use Rattle.grammar.specs.Written.{problem_line, group_lines, clause_lines}
use Rattle.writer.specs.Write.{groups_of}
use Rattle.writer.specs.Inner.Writing.{Near}
use Rattle.writer.proofs.WrittenBack.{written_parts}
use Rattle.writer.proofs.Laws.Writing.{three_first, three_second, three_third, three_whole}
use Rattle.writer.proofs.Laws.WriteExits.{text_near}
use Rattle.writer.proofs.writing.text.Goals as goal

abbrev first : List ℤ → List ℕ
first b = problem_line (length (prefix_of b)) (length (ends_of b))

abbrev second : List ℤ → List ℕ
second b = group_lines (groups_of (prefix_of b))

abbrev third : List ℤ → List ℕ
third b = clause_lines (clauses_from (literals_of b) 0 (ends_of b))

near : (b : List ℤ) → refusal limits b ≡ 0 → Near 0 (first b ++ (second b ++ third b))
near b e = rw (written_parts b) at (text_near b e)

pub problem_line-first-requires : goal.problem_line-first-requires
problem_line-first-requires c =
    let b = c.args.block.now in
    rw (c.prefix-prefix.ensures, c.ends-ends.ensures) (three_first c.args.output.now _ (first b) (second b) (third b) (near b c.requires))

pub group_lines-second-requires : goal.group_lines-second-requires
group_lines-second-requires c =
    let b = c.args.block.now in
    rw c.prefix-prefix.ensures (three_second _ _ (first b) (second b) (third b) (rw (c.prefix-prefix.ensures, c.ends-ends.ensures) at c.problem_line-first.ensures) (near b c.requires))

pub clause_lines-requires : goal.clause_lines-requires
clause_lines-requires c =
    let b = c.args.block.now in
    rw (c.literals.ensures, c.ends-ends.ensures)
    (three_third _ _ (first b) (second b) (third b) (rw (c.prefix-prefix.ensures, c.ends-ends.ensures) at c.problem_line-first.ensures) (rw c.prefix-prefix.ensures at c.group_lines-second.ensures) (near b c.requires))

pub returns : goal.returns
returns c =
    let b = c.args.block.now in
    rw (written_parts b)
    (three_whole _ _ (first b) (second b) (third b) (rw (c.prefix-prefix.ensures, c.ends-ends.ensures) at c.problem_line-first.ensures) (rw c.prefix-prefix.ensures at c.group_lines-second.ensures) (rw (c.literals.ensures, c.ends-ends.ensures) at c.clause_lines.ensures))
