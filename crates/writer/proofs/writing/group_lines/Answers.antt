-- A word, and then the rest of the prefix.
use Rattle.std.specs.Prelude.{◌≡◌, ◌+◌, pos, nat_abs, get_or, drop}
use Rattle.std.proofs.Common.{rules, to_z, of_z, w32}
use Rattle.words.specs.Words.{negative}
use Rattle.writer.specs.Write.{last_of_group}
use Rattle.writer.specs.Inner.Writing.{group_word, group_words}
use Rattle.writer.proofs.Laws.Groups.{streamed}
use Rattle.writer.proofs.Laws.Writing.{owed, turn_near, turn_on, turns_over, group_turn, groups_over}
use Rattle.writer.proofs.writing.group_lines.Goals as goal

pub loop-i-init : goal.loop-i-init
loop-i-init c = owed c.args.output.now c.args.from (streamed c.args.prefix.now).new

pub group_word-at-requires : goal.group_word-at-requires
group_word-at-requires c =
    let p = c.args.prefix.now in
    let l = c.loop-i in
    let w = get_or p l.i (pos 0) in
    let last = last_of_group w (drop (l.i + 1) p) in
    let word : to_z w32 (of_z w32 (get_or p l.i (pos 0))) ≡ get_or p l.i (pos 0) = search rules in
    rw (word, c.is_last-last.ensures) (turn_near l.invariant (group_word l.new (negative w) last (nat_abs w)) (group_words last (drop (l.i + 1) p)) (group_turn p l.i l.new c.loop-i-test.true) c.requires)

pub loop-i-preserved : goal.loop-i-preserved
loop-i-preserved c =
    let p = c.args.prefix.now in
    let l = c.loop-i in
    let w = get_or p l.i (pos 0) in
    let last = last_of_group w (drop (l.i + 1) p) in
    let word : to_z w32 (of_z w32 (get_or p l.i (pos 0))) ≡ get_or p l.i (pos 0) = search rules in
    rw c.is_last-last.ensures
    (turn_on l.invariant (group_word l.new (negative w) last (nat_abs w)) (group_words last (drop (l.i + 1) p)) (group_turn p l.i l.new c.loop-i-test.true) (rw (word, c.is_last-last.ensures) at c.group_word-at.ensures))

pub returns : goal.returns
returns c = turns_over c.loop-i.invariant (groups_over c.args.prefix.now c.loop-i.i c.loop-i.new c.loop-i-test.false)
