-- The digits that stand are the last ones; what is left of the number has the others, and there is room for them.
use Rattle.std.proofs.Common.{◌≡◌, ◌<◌, length}
use Rattle.writer.proofs.Laws.Writing.{Behind}
use Rattle.writer.proofs.writing.number.Given as goal

abbrev pub invariant-loop-rest : goal.invariant-loop-rest
invariant-loop-rest l = record { long : length l.digits ≡ 20; place : l.first < 20; behind : Behind l.n l.rest l.first l.digits }

abbrev pub decreases-loop-rest : goal.decreases-loop-rest
decreases-loop-rest l = l.rest
