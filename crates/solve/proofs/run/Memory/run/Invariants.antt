-- Each slice makes the budget that is left smaller.
use Rattle.solve.proofs.run.Memory.run.Given as goal

abbrev pub decreases-loop-left : goal.decreases-loop-left
decreases-loop-left g l = l.left
