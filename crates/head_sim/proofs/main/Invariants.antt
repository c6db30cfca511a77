-- Each call takes a byte.
use Rattle.std.proofs.Common.{length}
use Rattle.head_sim.proofs.main.Given as goal

abbrev pub decreases-loop-left : goal.decreases-loop-left
decreases-loop-left l = length l.left
