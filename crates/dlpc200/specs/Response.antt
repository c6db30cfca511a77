-- The response that a packet draws.
use Rattle.std.specs.Prelude.{ℕ, cond, List, [], ◌∷◌, ◌==◌, Result, Ok, Err}
use Rattle.dlpc200.specs.Packet.{read, write_resp, read_resp, packet_of}
use Rattle.dlpc200.specs.States.{shown_of, data_of}
use Rattle.dlpc200.specs.Status.{data0, data1}
use Rattle.dlpc200.specs.declared.table.Command.{Command}
use Rattle.dlpc200.specs.declared.status.Faults.{Faults}
use Rattle.dlpc200.specs.declared.judgement.Arrived.{Arrived}
use Rattle.dlpc200.specs.declared.states.States.{States}

-- "a read response for CMD1 04 and a write response otherwise"
abbrev pub response_type : ℕ → ℕ
response_type cmd1 = cond (cmd1 == read) read_resp write_resp

-- the two status bytes, and after them the state that was read; of a failed packet "the two status bytes only"
abbrev pub response_data : States → Result Command Faults → List ℕ
response_data s (Err f) = data0 f ∷ data1 f ∷ []
response_data s (Ok c) = 0x00 ∷ 0x00 ∷ data_of (shown_of s c)

-- with AA, 00, 00 as CMD2 to CMD4 (`packet_of`), whatever came
unfoldable pub response : States → Arrived → Result Command Faults → List ℕ
response s p j = packet_of (response_type p.cmd1) (response_data s j)
