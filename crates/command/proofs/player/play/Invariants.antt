-- The loop of `play`: what is left of the bytes goes on from where the play stands.
use Rattle.std.proofs.Common.{◌≡◌, ◌-◌, ◌≤◌, true, length}
use Rattle.command.specs.Controller.{transfer_in_rule}
use Rattle.command.specs.Inner.{state_in}
use Rattle.command.proofs.player.Turns.{Going}
use Rattle.command.proofs.player.play.Given as goal

abbrev pub invariant-loop-size : goal.invariant-loop-size
invariant-loop-size l =
    (l.at ≤ length l.b) × (transfer_in_rule l.transfer ≡ true) × (length l.buffer ≡ 1024)
    × Going l.initial.settings l.b (state_in l.settings l.transfer l.buffer) l.first l.opener l.at

abbrev pub decreases-loop-size : goal.decreases-loop-size
decreases-loop-size l = length l.b - l.at
