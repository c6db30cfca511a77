-- The extended packet of section 6: CMD1, CMD2, CMD3, CMD4, Len_LSB, Len_MSB, 0-504 data bytes, checksum.
-- Bytes 4 and 5 are the length and one byte follows the data, as in the packet layer, so the packets of a stream are `packets` there and their data `payload`. The header's other bytes mean something else, and the checksum is another sum.
use Rattle.std.specs.Prelude.{ℕ, ◌+◌, ◌*◌, ◌%◌, Bool, List, [], ◌∷◌, ◌++◌, length, take, drop, ◌==◌, slice_index}
use Rattle.packet.specs.Number.{bytes_of}
use Rattle.packet.specs.Packet.{payload_length, sum}

-- The fields of a packet, by their places. ("CMD3 is reserved or unused"; the request: "not judged".)

abbrev pub cmd1_of : List ℕ → ℕ
cmd1_of p = slice_index p 0

abbrev pub cmd2_of : List ℕ → ℕ
cmd2_of p = slice_index p 1

abbrev pub cmd4_of : List ℕ → ℕ
cmd4_of p = slice_index p 3

-- the extended packet ID, in Data[0] and Data[1]
abbrev pub id_of : List ℕ → ℕ
id_of d = slice_index d 0 + 256 * slice_index d 1

-- "Definition of CMD1": WRITE, WRITE_RESP, READ, READ_RESP.

abbrev pub write : ℕ
write = 0x02

abbrev pub write_resp : ℕ
write_resp = 0x03

abbrev pub read : ℕ
read = 0x04

abbrev pub read_resp : ℕ
read_resp = 0x05

-- "Definition of CMD2": the packet is of Extended Packet type.
abbrev pub extended : ℕ
extended = 0xAA

-- "Definition of CMD4": the only transfer of a command.
abbrev pub only : ℕ
only = 0x00

-- "Checksum (of everything after CMD4)": the first place that it covers,
abbrev pub after_cmd4 : ℕ
after_cmd4 = 4

-- and the checksum, the bytes before it being b
unfoldable pub checksum : List ℕ → ℕ
checksum b = sum (drop after_cmd4 b) % 256

-- the checksum of the packet p is right
unfoldable pub right_sum : List ℕ → Bool
right_sum p = slice_index p (6 + payload_length p) == checksum (take (6 + payload_length p) p)

-- The packet of a CMD1 and data, with AA, 00, 00 as CMD2 to CMD4.

abbrev pub front : ℕ → List ℕ → List ℕ
front cmd1 d = cmd1 ∷ extended ∷ 0x00 ∷ only ∷ bytes_of 2 (length d) ++ d

unfoldable pub packet_of : ℕ → List ℕ → List ℕ
packet_of cmd1 d = front cmd1 d ++ (checksum (front cmd1 d) ∷ [])
