-- One piece, from the start to the end, is the whole text.
use Rattle.std.proofs.Common.{◌∙◌, ap, List, ℤ}
use Rattle.words.specs.Outcomes.{Outcome}
use Rattle.formula.specs.Limits.{limits}
use Rattle.reader.specs.declared.Reader.{Reader}
use Rattle.text.specs.Pieces.{piece_of, end_of}
use Rattle.text.proofs.Whole.{read_is}
use Rattle.text.proofs.Laws.Rows.{limits_hidden}
use Rattle.text.proofs.read.Goals as goal

pub returns : goal.returns
returns c =
    let bytes = c.args.bytes.now in
    let o = c.args.output.now in
    c.end.ensures
    ∙ ap (λ (u : Outcome (List ℤ) Reader). end_of limits u.answer u.memory) (c.piece.ensures ∙ ap (λ (r : Reader). piece_of bytes r o) c.begin.ensures)
    ∙ read_is limits limits_hidden bytes o
