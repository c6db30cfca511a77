-- A packet written to a lent buffer: "at the output's start, the rest untouched". The answer, and each byte of the buffer.
use Rattle.std.specs.Prelude.{ℕ, ◌+◌, Bool, cond, ◌&&◌, List, ◌++◌, length, drop, nat_le, Option, None, Some}
use Rattle.packet.specs.Packet.{packet_of}

-- "A packet is 7 to 65,542 bytes": the data go into one, and the packet into a buffer of so many bytes
unfoldable pub fits : ℕ → List ℕ → Bool
fits room d = nat_le (length d) 65535 && nat_le (length d + 7) room

-- how many bytes are written, where the packet fits
abbrev pub answer_to : ℕ → List ℕ → Option ℕ
answer_to room d = cond (fits room d) (Some (length d + 7)) None

-- a buffer with these bytes at its start, the rest untouched
unfoldable pub written : List ℕ → List ℕ → List ℕ
written b out = b ++ drop (length b) out

-- the buffer afterwards: where the packet does not fit, all of it untouched
abbrev pub output_after : ℕ → ℕ → ℕ → ℕ → List ℕ → List ℕ → List ℕ
output_after type cmd1 cmd2 flags d out = cond (fits (length out) d) (written (packet_of type cmd1 cmd2 flags d) out) out
