-- A literal, and then the rest of the line; behind the last one the line ends.
use Rattle.std.specs.Prelude.{◌≡◌, [], ◌∷◌, ◌++◌, map, ◌+◌, pos, get_or, drop}
use Rattle.std.proofs.Common.{rules, to_z, of_z, w32}
use Rattle.grammar.specs.Grammar.{space}
use Rattle.grammar.specs.Written.{literal, line}
use Rattle.writer.proofs.Laws.Writing.{left_near, turn_near, turn_on, turns_end, line_turn, line_ended}
use Rattle.writer.proofs.writing.clause_line.Goals as goal

pub literal-at-requires : goal.literal-at-requires
literal-at-requires c =
    let ls = c.args.clause.now in
    let i = c.loop-word.word-index in
    let word : to_z w32 (of_z w32 (get_or ls i (pos 0))) ≡ get_or ls i (pos 0) = search rules in
    rw word (turn_near c.loop-word.invariant (literal (get_or ls i (pos 0)) ++ (space ∷ [])) (line (map literal (drop (i + 1) ls))) (line_turn ls i c.loop-word-test.true) c.requires)

pub loop-word-preserved : goal.loop-word-preserved
loop-word-preserved c =
    let ls = c.args.clause.now in
    let i = c.loop-word.word-index in
    let word : to_z w32 (of_z w32 (get_or ls i (pos 0))) ≡ get_or ls i (pos 0) = search rules in
    turn_on c.loop-word.invariant (literal (get_or ls i (pos 0)) ++ (space ∷ [])) (line (map literal (drop (i + 1) ls))) (line_turn ls i c.loop-word-test.true) (rw word at c.literal-at.ensures)

pub line_end-requires : goal.line_end-requires
line_end-requires c = rw (line_ended c.args.clause.now c.loop-word.word-index c.loop-word-test.false) at (left_near c.loop-word.invariant c.requires)

pub returns : goal.returns
returns c = turns_end c.loop-word.invariant (rw (← line_ended c.args.clause.now c.loop-word.word-index c.loop-word-test.false) at c.line_end.ensures)
