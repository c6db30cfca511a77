-- The response that a judgement draws.
use Rattle.std.specs.Prelude.{ℕ, Bool, List, [], eqb, Option, None}
use Rattle.packet.specs.Packet.{packet_of, error, write_response, read_response, whole}
use Rattle.command.specs.Value.{data_of}
use Rattle.command.specs.Faults.{Arrived, codes_of}
use Rattle.command.specs.declared.settings.Settings.{Settings}
use Rattle.command.specs.declared.judgement.Judgement.{Judgement}
use Rattle.command.specs.declared.judgement.Judgement.TheVariants.{Error, Hold, Write, Read}

-- The response: its type and its payload. It repeats the CMD1 and CMD2 received, with flags 00.

abbrev pub response_type : Judgement → ℕ
response_type (Error k) = error
response_type (Hold c) = write_response
response_type (Write v) = write_response
response_type (Read c) = read_response

-- "a packet is acknowledged when it draws a write response"
abbrev pub acknowledged : Judgement → Bool
acknowledged j = eqb (response_type j) write_response

abbrev pub response_data : Settings → Judgement → List ℕ
response_data s (Error k) = codes_of k
response_data s (Hold c) = []
response_data s (Write v) = []
response_data s (Read c) = data_of c s

abbrev pub response_to : ℕ → ℕ → Settings → Judgement → List ℕ
response_to cmd1 cmd2 s j = packet_of (response_type j) cmd1 cmd2 whole (response_data s j)

-- to a packet
unfoldable pub response : Settings → Arrived → Judgement → List ℕ
response s p j = response_to p.cmd1 p.cmd2 s j

-- the codes that a judgement draws: none where the packet is acknowledged or read
abbrev pub codes_in : Judgement → List ℕ
codes_in (Error k) = codes_of k
codes_in (Hold c) = []
codes_in (Write v) = []
codes_in (Read c) = []

-- the byte that it names: "with code 03 the receive call reports it beside the response, whose bytes stay the same" (request 4)
abbrev pub wrong_in : Judgement → Option ℕ
wrong_in (Error k) = k.wrong
wrong_in (Hold c) = None
wrong_in (Write v) = None
wrong_in (Read c) = None
