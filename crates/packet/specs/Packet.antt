-- The packet: "Byte 0 type, 1 CMD1, 2 CMD2, 3 flags, 4 and 5 payload length, then the payload, then the checksum."
use Rattle.std.specs.Prelude.{ℕ, ◌+◌, ◌*◌, ◌%◌, Bool, List, [], ◌∷◌, ◌++◌, length, take, drop, ◌==◌, slice_index}
use Rattle.packet.specs.Number.{bytes_of}

-- The fields of a packet, by their places.

abbrev pub type_of : List ℕ → ℕ
type_of p = slice_index p 0

abbrev pub cmd1_of : List ℕ → ℕ
cmd1_of p = slice_index p 1

abbrev pub cmd2_of : List ℕ → ℕ
cmd2_of p = slice_index p 2

abbrev pub flags_of : List ℕ → ℕ
flags_of p = slice_index p 3

abbrev pub payload_length : List ℕ → ℕ
payload_length p = slice_index p 4 + 256 * slice_index p 5

unfoldable pub payload : List ℕ → List ℕ
payload p = take (payload_length p) (drop 6 p)

-- "Types: 02 host write, 04 host read; 01 error, 03 write response, 05 read response."

abbrev pub error : ℕ
error = 0x01

abbrev pub host_write : ℕ
host_write = 0x02

abbrev pub write_response : ℕ
write_response = 0x03

abbrev pub host_read : ℕ
host_read = 0x04

abbrev pub read_response : ℕ
read_response = 0x05

-- "Flags: 00 whole, 01 beginning, 02 intermediate, 03 last."

abbrev pub whole : ℕ
whole = 0x00

abbrev pub beginning : ℕ
beginning = 0x01

abbrev pub intermediate : ℕ
intermediate = 0x02

abbrev pub last : ℕ
last = 0x03

-- The checksum: "the sum of every earlier byte of the packet, modulo 256".

unfoldable pub sum : List ℕ → ℕ
sum [] = 0
sum (b ∷ bs) = b + sum bs

unfoldable pub checksum : List ℕ → ℕ
checksum b = sum b % 256

-- the checksum of the packet p is right
unfoldable pub right_sum : List ℕ → Bool
right_sum p = slice_index p (6 + payload_length p) == checksum (take (6 + payload_length p) p)

-- The bytes of a packet of given type, CMD1, CMD2, flags and data.

-- all that stands before n bytes of data
abbrev pub header : ℕ → ℕ → ℕ → ℕ → ℕ → List ℕ
header type cmd1 cmd2 flags n = type ∷ cmd1 ∷ cmd2 ∷ flags ∷ bytes_of 2 n

-- some bytes, then their checksum
unfoldable pub sealed : List ℕ → List ℕ
sealed b = b ++ (checksum b ∷ [])

unfoldable pub packet_of : ℕ → ℕ → ℕ → ℕ → List ℕ → List ℕ
packet_of type cmd1 cmd2 flags d = sealed (header type cmd1 cmd2 flags (length d) ++ d)
