-- The loop of `put_response`: the sum of the length and of the bytes before i.
use Rattle.std.proofs.Common.{◌≡◌, ◌+◌, ◌%◌, take}
use Rattle.std.specs.List.{fold}
use Rattle.dlpc200.proofs.response.put_response.Given as goal

abbrev pub invariant-loop-i : goal.invariant-loop-i
invariant-loop-i l = l.sum ≡ fold (λ s x. (s + x) % 256) l.n (take l.i l.payload)
