-- The loop's invariant: the digits of n are those of what is left, and those that stand after the place.
use Rattle.std.proofs.Common.{◌+◌, ◌≡◌, ◌++◌, ◌<◌, length, drop}
use Rattle.report.specs.Line.{decimal}
use Rattle.report.proofs.line.digits_of.Given as goal

abbrev pub invariant-loop-left : goal.invariant-loop-left
invariant-loop-left l = (l.from < 20) × (length l.room ≡ 20) × (decimal l.n ≡ decimal l.left ++ drop (l.from + 1) l.room)

abbrev pub decreases-loop-left : goal.decreases-loop-left
decreases-loop-left l = l.left
