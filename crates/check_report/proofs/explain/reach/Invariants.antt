-- Each turn passes a packet of what is before the place.
use Rattle.std.proofs.Common.{length}
use Rattle.check_report.proofs.explain.reach.Given as goal

abbrev pub decreases-loop-before : goal.decreases-loop-before
decreases-loop-before l = length l.before
