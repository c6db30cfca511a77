-- The loop of `store`: the bytes before i stand in the room.
use Rattle.std.proofs.Common.{◌≡◌, take}
use Rattle.packet.proofs.bytes.store.Given as goal

abbrev pub invariant-loop-i : goal.invariant-loop-i
invariant-loop-i l = take l.i l.room ≡ take l.i l.stored
