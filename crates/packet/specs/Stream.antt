-- The whole packets of some bytes, in order, and what is left. "While at least 7 bytes are left, and at least 7 plus what bytes 4 and 5 of them say, that many
-- are cut off as the next packet"; "too few bytes for a packet end it".
use Rattle.std.specs.Prelude.{ℕ, zero, suc, ◌+◌, Bool, cond, ◌&&◌, List, [], ◌∷◌, length, take, drop, nat_le, Option, None, Some}
use Rattle.packet.specs.Packet.{payload_length, right_sum}
use Rattle.packet.specs.declared.stream.WholePacket.{WholePacket}

-- "the length field frames every packet": 7 bytes, and what bytes 4 and 5 say
unfoldable pub size : List ℕ → ℕ
size b = 7 + payload_length b

-- b begins with a whole packet
unfoldable pub has_packet : List ℕ → Bool
has_packet b = nat_le 7 (length b) && nat_le (size b) (length b)

-- what stands at the start of b: a packet of so many bytes, its checksum right or not, or none
unfoldable pub next_in : List ℕ → Option WholePacket
next_in b = cond (has_packet b) (Some (record { size = size b; right = right_sum b })) None

-- at most n packets from the start of b
unfoldable pub packets_in : ℕ → List ℕ → List (List ℕ)
packets_in zero b = []
packets_in (suc n) b = let more = take (size b) b ∷ packets_in n (drop (size b) b) in cond (has_packet b) more []

-- the packets of b: there are no more than b has bytes
unfoldable pub packets : List ℕ → List (List ℕ)
packets b = packets_in (length b) b

-- the number of bytes of some packets
unfoldable pub bytes_in : List (List ℕ) → ℕ
bytes_in [] = 0
bytes_in (p ∷ ps) = length p + bytes_in ps

-- what the packets of b leave: too few bytes for one more
unfoldable pub rest : List ℕ → List ℕ
rest b = drop (bytes_in (packets b)) b
