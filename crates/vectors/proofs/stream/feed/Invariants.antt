-- Each turn that goes on has taken a byte.
use Rattle.std.proofs.Common.{length}
use Rattle.vectors.proofs.stream.feed.Given as goal

abbrev pub decreases-loop-rest : goal.decreases-loop-rest
decreases-loop-rest g l = length l.rest
