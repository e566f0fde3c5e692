-- What it begins with, the two numbers, and the line feed.
use Rattle.std.specs.Prelude.{[], ◌∷◌, ◌++◌}
use Rattle.std.proofs.Common.{◌∙◌}
use Rattle.grammar.specs.Grammar.{feed}
use Rattle.grammar.specs.Written.{numeral}
use Rattle.writer.specs.Inner.Writing.{spaced}
use Rattle.writer.proofs.Laws.Writing.{wrote_on, near_on, near_first, three_second, three_third, three_whole, problem_head, problem_parts}
use Rattle.writer.proofs.writing.problem_line.Goals as goal

pub put-first-requires : goal.put-first-requires
put-first-requires c = near_first _ problem_head (spaced c.args.v ++ (numeral c.args.c ++ (feed ∷ []))) (rw (problem_parts c.args.v c.args.c) at c.requires)

pub number_spaced-second-requires : goal.number_spaced-second-requires
number_spaced-second-requires c = three_second _ _ problem_head (spaced c.args.v) (numeral c.args.c ++ (feed ∷ [])) c.put-first.ensures (rw (problem_parts c.args.v c.args.c) at c.requires)

pub number-end-requires : goal.number-end-requires
number-end-requires c =
    let n = three_third _ _ problem_head (spaced c.args.v) (numeral c.args.c ++ (feed ∷ [])) c.put-first.ensures c.number_spaced-second.ensures (rw (problem_parts c.args.v c.args.c) at c.requires) in
    near_first _ (numeral c.args.c) (feed ∷ []) n

pub put-requires : goal.put-requires
put-requires c =
    let n = three_third _ _ problem_head (spaced c.args.v) (numeral c.args.c ++ (feed ∷ [])) c.put-first.ensures c.number_spaced-second.ensures (rw (problem_parts c.args.v c.args.c) at c.requires) in
    near_on _ _ (numeral c.args.c) (feed ∷ []) c.number-end.ensures n

pub returns : goal.returns
returns c =
    rw (problem_parts c.args.v c.args.c)
    (three_whole _ _ problem_head (spaced c.args.v) (numeral c.args.c ++ (feed ∷ [])) c.put-first.ensures c.number_spaced-second.ensures (c.put.ensures ∙ wrote_on _ _ (numeral c.args.c) (feed ∷ []) c.number-end.ensures))
