-- The faults of a packet, and the two status bytes of its response, by the table of section 6. (Its other bits are "not applicable and will be set to '0'".)
use Rattle.std.specs.Prelude.{ℕ, ◌+◌, Bool, false, cond, ◌||◌, bit_and, count_ones}
use Rattle.dlpc200.specs.declared.status.Faults.{Faults}

-- one of them holds, or several
abbrev pub any_fault : Faults → Bool
any_fault f = f.checksum || f.cmd1 || f.cmd2 || f.cmd4 || f.size

abbrev pub no_faults : Faults
no_faults = record { checksum = false; cmd1 = false; cmd2 = false; cmd4 = false; size = false }

-- a bit, where its fault holds
abbrev pub bit : Bool → ℕ → ℕ
bit holds value = cond holds value 0

-- Data[0] of a failed packet: bit 0 checksum error, bit 1 invalid CMD1, bit 2 invalid CMD2, bit 4 invalid CMD4, and bit 6, "Extended Packet processing failed"
abbrev pub data0 : Faults → ℕ
data0 f = bit f.checksum 0x01 + bit f.cmd1 0x02 + bit f.cmd2 0x04 + bit f.cmd4 0x10 + 0x40

-- Data[1]: bit 3, "insufficient or excess data"
abbrev pub data1 : Faults → ℕ
data1 f = bit f.size 0x08

-- "how many faults a response carries beside bit 6: the number of error bits set", in all bits of the two bytes but bit 6 of Data[0]
unfoldable pub fault_bits : ℕ → ℕ → ℕ
fault_bits d0 d1 = count_ones (bit_and d0 0xBF) + count_ones d1

-- how many faults hold
unfoldable pub faults_held : Faults → ℕ
faults_held f = bit f.checksum 1 + bit f.cmd1 1 + bit f.cmd2 1 + bit f.cmd4 1 + bit f.size 1
