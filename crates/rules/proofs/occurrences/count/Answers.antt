-- A clause with a true literal is passed over, any other is marked.
use Rattle.std.proofs.Common.{◌∙◌, sym}
use Rattle.tables.specs.Inner.ByLiteral.{status_in}
use Rattle.rules.specs.Inner.Occurrences.{true_by}
use Rattle.rules.proofs.Occurring.{counts, passes}
use Rattle.rules.proofs.occurrences.count.Goals as goal

pub returns-then-not-has_true : goal.returns-then-not-has_true
returns-then-not-has_true c = counts (true_by (status_in c.args.statuses.now)) c.args.clause.now c.args.occurs.now (sym c.has_true.ensures ∙ c.if-not-has_true.true) _ c.mark.ensures

pub returns-else-not-has_true : goal.returns-else-not-has_true
returns-else-not-has_true c = passes (true_by (status_in c.args.statuses.now)) c.args.clause.now c.args.occurs.now (sym c.has_true.ensures ∙ c.if-not-has_true.false) c.requires.occurs_len
