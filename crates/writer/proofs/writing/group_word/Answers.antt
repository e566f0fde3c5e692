-- What the line begins with, the number, and what the line ends with.
use Rattle.std.specs.Prelude.{◌≡◌, nat_abs}
use Rattle.std.proofs.Common.{rules}
use Rattle.words.specs.Words.{negative}
use Rattle.writer.specs.Inner.Writing.{spaced, line_start, line_end, group_word}
use Rattle.writer.proofs.Laws.Writing.{three_first, three_second, three_third, three_whole}
use Rattle.writer.proofs.writing.group_word.Goals as goal

pub line_start-first-requires : goal.line_start-first-requires
unfolding group_word
line_start-first-requires c =
    let sign : c.negative.result ≡ negative c.args.word = search rules in
    rw sign (three_first c.args.output.now _ (line_start c.args.new (negative c.args.word)) (spaced (nat_abs c.args.word)) (line_end c.args.last) c.requires)

pub number_spaced-end-requires : goal.number_spaced-end-requires
unfolding group_word
number_spaced-end-requires c =
    let sign : c.negative.result ≡ negative c.args.word = search rules in
    let size : c.size.result ≡ nat_abs c.args.word = search rules in
    rw size (three_second _ _ (line_start c.args.new (negative c.args.word)) (spaced (nat_abs c.args.word)) (line_end c.args.last) (rw sign at c.line_start-first.ensures) c.requires)

pub line_end-requires : goal.line_end-requires
unfolding group_word
line_end-requires c =
    let sign : c.negative.result ≡ negative c.args.word = search rules in
    let size : c.size.result ≡ nat_abs c.args.word = search rules in
    three_third _ _ (line_start c.args.new (negative c.args.word)) (spaced (nat_abs c.args.word)) (line_end c.args.last) (rw sign at c.line_start-first.ensures) (rw size at c.number_spaced-end.ensures) c.requires

pub returns : goal.returns
unfolding group_word
returns c =
    let sign : c.negative.result ≡ negative c.args.word = search rules in
    let size : c.size.result ≡ nat_abs c.args.word = search rules in
    three_whole _ _ (line_start c.args.new (negative c.args.word)) (spaced (nat_abs c.args.word)) (line_end c.args.last) (rw sign at c.line_start-first.ensures) (rw size at c.number_spaced-end.ensures) c.line_end.ensures
