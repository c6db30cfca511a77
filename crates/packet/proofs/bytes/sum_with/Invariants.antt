-- The loop of `sum_with`: the running sum of the bytes before i.
use Rattle.std.proofs.Common.{◌≡◌, ◌+◌, ◌%◌, take}
use Rattle.std.specs.List.{fold}
use Rattle.packet.proofs.bytes.sum_with.Given as goal

abbrev pub invariant-loop-i : goal.invariant-loop-i
invariant-loop-i l = l.sum ≡ fold (λ s x. (s + x) % 256) l.from (take l.i l.b)
