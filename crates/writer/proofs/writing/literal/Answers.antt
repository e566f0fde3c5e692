-- The sign, then the number and a space.
use Rattle.std.specs.Prelude.{◌≡◌, nat_abs}
use Rattle.std.proofs.Common.{rules, ◌∙◌}
use Rattle.words.specs.Words.{negative}
use Rattle.writer.specs.Inner.Writing.{sign_of, spaced}
use Rattle.writer.proofs.Laws.Writing.{wrote_on, near_on, near_first, literal_parts}
use Rattle.writer.proofs.writing.literal.Goals as goal

pub sign-first-requires : goal.sign-first-requires
sign-first-requires c =
    let sign : c.negative.result ≡ negative c.args.word = search rules in
    rw sign (near_first _ (sign_of (negative c.args.word)) (spaced (nat_abs c.args.word)) (rw (literal_parts c.args.word) at c.requires))

pub number_spaced-requires : goal.number_spaced-requires
number_spaced-requires c =
    let sign : c.negative.result ≡ negative c.args.word = search rules in
    let size : c.size.result ≡ nat_abs c.args.word = search rules in
    rw size (near_on _ _ (sign_of (negative c.args.word)) (spaced (nat_abs c.args.word)) (rw sign at c.sign-first.ensures) (rw (literal_parts c.args.word) at c.requires))

pub returns : goal.returns
returns c =
    let sign : c.negative.result ≡ negative c.args.word = search rules in
    let size : c.size.result ≡ nat_abs c.args.word = search rules in
    rw (literal_parts c.args.word) (rw size at c.number_spaced.ensures ∙ wrote_on _ _ (sign_of (negative c.args.word)) (spaced (nat_abs c.args.word)) (rw sign at c.sign-first.ensures))
