-- The loop of `best_of`: so many of the trials have been read.
use Rattle.report.proofs.trials.Turns.{Walked}
use Rattle.report.proofs.trials.best_of.Given as goal

abbrev pub invariant-loop-i : goal.invariant-loop-i
invariant-loop-i l = Walked l.r l.i l.at l.last l.best
