-- Demand 2: "Responses and settings follow the LightCrafter DM365 command guide as document 01 condenses it, however the byte stream was cut. Our own encoder's
-- packet for a legal write, sent to a head with nothing half received and no transfer open, is read back as that same write, and every write accepted in one packet
-- encodes to the bytes it arrived as." It is a claim about the calls: receive_call is the contract of `receive`, by value, and of
-- `Controller::receive`, on a controller that is lent, and encode_call that of `encode`. Proved in proofs/Demand2.antt.
use Rattle.std.specs.Prelude.{ℕ, ◌+◌, ◌≤◌, ◌≡◌, true, false, List, [], ◌∷◌, ◌++◌, length, take}
use Rattle.packet.specs.Calls.{Served}
use Rattle.packet.specs.Number.{Bytes}
use Rattle.packet.specs.Packet.{type_of, flags_of, packet_of, host_read, write_response, read_response, whole}
use Rattle.packet.specs.Receiver.{Receiver, with}
use Rattle.packet.specs.Stream.{packets, rest}
use Rattle.command.specs.Table.{cmd1_for, cmd2_for, readable}
use Rattle.command.specs.Settings.{store}
use Rattle.command.specs.Rules.{allowed, blocked}
use Rattle.command.specs.Data.{Fit}
use Rattle.command.specs.Value.{command_in, values_in, widths, data_in}
use Rattle.command.specs.Faults.{mode_fault}
use Rattle.command.specs.Player.{judged, responses, after}
use Rattle.command.specs.Controller.{state_of, receiver_in, fresh}
use Rattle.command.specs.Encoder.{Outcome as Encoding, Refuses as EncoderRefuses, Writes, writes, encode_call}
use Rattle.command.specs.Sending.{Sending, sent_to, Ready, Boundary, Idle}
use Rattle.command.specs.declared.table.Command.{Command}
use Rattle.command.specs.declared.value.Value.{Value}
use Rattle.command.specs.declared.judgement.Judgement.TheVariants.{Error, Write}
use Rattle.command.specs.declared.controller.Controller.{Controller}

-- "Responses and settings follow .. document 01": the bytes b were sent to the head c at a packet boundary, and r is what it answered and the controller afterwards.
-- They are those of playing the bytes: the responses in order, the settings and the open transfer, and the unfinished packet, of which the receiver has all bytes
-- that came in. The head stays in rule.
pub record Follows (c : Controller) (b : List ℕ) (r : Served Controller (List ℕ)) : Type 0 where
  pub given : r.given ≡ responses (state_of c) (packets b)
  pub ends : state_of r.state ≡ after (state_of c) (packets b)
  pub base : Receiver
  pub boundary : base.received ≡ 0
  pub unfinished : receiver_in r.state ≡ with 0 base (rest b)
  pub ready : Ready r.state

-- The encoder.

-- a legal write: its values are allowed. That they fit their widths is what the types of the code give.
pub record Legal (v : Value) : Type 0 where
  pub fit : Fit (widths (command_in v)) (values_in v)
  pub values : allowed (command_in v) (values_in v) ≡ true

-- "our own encoder's packet": the bytes at the output's start, as many as the call answers
abbrev pub at_start : Encoding → List ℕ → List ℕ
at_start (EncoderRefuses n) out = []
at_start (Writes n) out = take n out

abbrev pub packet_by : Value → List ℕ → List ℕ
packet_by v out = at_start (encode_call v out).answer (encode_call v out).output

-- the write response of a command, byte by byte
abbrev pub acknowledgement : Command → List ℕ
acknowledgement c = 0x03 ∷ cmd1_for c ∷ cmd2_for c ∷ 0x00 ∷ 0x00 ∷ 0x00 ∷ (0x03 + cmd1_for c + cmd2_for c) ∷ []

-- the error packet that run 1 outside mode 4 draws
abbrev pub not_in_mode : List ℕ
not_in_mode = 0x01 ∷ 0x04 ∷ 0x02 ∷ 0x00 ∷ 0x01 ∷ 0x00 ∷ 0x07 ∷ 0x0F ∷ []

-- the read of a command: no request data
abbrev pub read_packet : Command → List ℕ
read_packet c = packet_of host_read (cmd1_for c) (cmd2_for c) whole []

abbrev pub read_answer : Command → List ℕ → List ℕ
read_answer c d = packet_of read_response (cmd1_for c) (cmd2_for c) whole d

-- "is read back as that same write": the packet p was sent to the head c, was judged as the write v, drew one response and left just that write stored
pub record ReadBack (v : Value) (c : Controller) (p : List ℕ) (r : Served Controller (List ℕ)) : Type 0 where
  pub judgement : judged (state_of c) p ≡ Write v
  pub given : r.given ≡ acknowledgement (command_in v) ∷ []
  pub settings : r.state.settings ≡ store (command_in v) (values_in v) c.settings
  pub idle : Idle r.state

-- "only run 1 outside mode 4 draws 07 instead", and leaves the settings
pub record Blocked (c : Controller) (p : List ℕ) (r : Served Controller (List ℕ)) : Type 0 where
  pub judgement : judged (state_of c) p ≡ Error mode_fault
  pub given : r.given ≡ not_in_mode ∷ []
  pub settings : r.state.settings ≡ c.settings
  pub idle : Idle r.state

-- "encodes to the bytes it arrived as": the packet p was sent to the head c and carried out as some write, and the encoder writes p for it
pub record Remade (c : Controller) (p : List ℕ) (r : Served Controller (List ℕ)) : Type 0 where
  pub write : Value
  pub judgement : judged (state_of c) p ≡ Write write
  pub settings : r.state.settings ≡ store (command_in write) (values_in write) c.settings
  pub encodes : (out : List ℕ) → 64 ≤ length out → encode_call write out ≡ writes p out

pub record Demand2 : Type 0 where
  -- "however the byte stream was cut": every way of sending the same bytes to a head in rule, with half a packet received or none, gives the same
  pub cut : (c : Controller) (b : List ℕ) (s t : Sending b) → Ready c → sent_to c s ≡ sent_to c t
  -- "Responses and settings follow .. document 01"
  pub follows : (c : Controller) (b : List ℕ) (s : Sending b) → Boundary c → Follows c b (sent_to c s)
  -- "Our own encoder's packet for a legal write": one whole packet, at the output's start, the rest untouched
  pub encoder : (v : Value) (out : List ℕ) → Legal v → 64 ≤ length out
      → (encode_call v out ≡ writes (packet_by v out) out) × (packets (packet_by v out) ≡ packet_by v out ∷ [])
  -- "sent to a head with nothing half received and no transfer open, is read back as that same write"
  pub accepted : (v : Value) (out : List ℕ) → Legal v → 64 ≤ length out → (c : Controller) (s : Sending (packet_by v out)) → Idle c
      → blocked (command_in v) (values_in v) c.settings.mode ≡ false → ReadBack v c (packet_by v out) (sent_to c s)
  pub blocks : (v : Value) (out : List ℕ) → Legal v → 64 ≤ length out → (c : Controller) (s : Sending (packet_by v out)) → Idle c
      → blocked (command_in v) (values_in v) c.settings.mode ≡ true → Blocked c (packet_by v out) (sent_to c s)
  -- a read that follows it answers the data written
  pub reads : (v : Value) (out : List ℕ) → Legal v → 64 ≤ length out → (c : Controller) (s : Sending (packet_by v out ++ read_packet (command_in v)))
      → Idle c → blocked (command_in v) (values_in v) c.settings.mode ≡ false → readable (command_in v) ≡ true
      → (sent_to c s).given ≡ acknowledgement (command_in v) ∷ read_answer (command_in v) (data_in v) ∷ []
  -- "every write accepted in one packet encodes to the bytes it arrived as": one packet of flags 00 drew a write response
  pub remade : (c : Controller) (p r : List ℕ) (s : Sending p) → Boundary c → Bytes p → packets p ≡ p ∷ [] → flags_of p ≡ whole
      → (sent_to c s).given ≡ r ∷ [] → type_of r ≡ write_response → Remade c p (sent_to c s)
  -- a fresh head is one of those
  pub begins : Idle fresh
