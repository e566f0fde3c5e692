-- The word behind it has another sign, or there is none.
use Rattle.std.proofs.Common.{rules, sym, ◌+◌}
use Rattle.std.specs.Prelude.{◌≡◌, get_or, pos}
use Rattle.words.specs.Words.{negative}
use Rattle.writer.proofs.Laws.Writing.{last_sign, last_none}
use Rattle.writer.proofs.writing.is_last.Goals as goal

pub returns-in-Some : goal.returns-in-Some
returns-in-Some c =
    let ws = c.args.prefix.now in
    let i = c.args.i in
    let this : c.negative.result ≡ negative (get_or ws i (pos 0)) = search rules in
    let next : c.in-Some.next.now ≡ get_or ws (i + 1) (pos 0) = search rules in
    let sign : c.negative-in-Some.result ≡ negative c.in-Some.next.now = search rules in
    last_sign ws i this (rw next at sign) (search rules)

pub returns-in-None : goal.returns-in-None
returns-in-None c = sym (last_none c.args.prefix.now c.args.i (search rules))
