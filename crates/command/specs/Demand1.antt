-- Demand 1: "Every call answers on every input and controller handed to it, damaged ones included. A bad packet gets the error packet its faults call for and
-- leaves all settings as they stood; a bad call gets its refusal number and touches nothing lent."
-- The faults of a packet are said here once more, line by line as document 01 lists them, by equations and orders: of the rules only the table's columns are cited.
use Rattle.std.specs.Prelude.{ℕ, ◌+◌, ◌<◌, ◌≤◌, ◌≡◌, ◌↔◌, ◌⊎◌, false, cond, length, take, drop, get_or, Some}
use mathlib.Core.List.{List, [], ◌∷◌, ◌++◌, Memᴰ}
use Rattle.packet.specs.Answer.{Refuses, Waits, Answers, Answering}
use Rattle.packet.specs.Packet.{type_of, cmd1_of, cmd2_of, flags_of, payload_length, payload, checksum, packet_of, error, host_write, host_read, write_response, read_response, whole, beginning, intermediate, last}
use Rattle.packet.specs.Stream.{packets}
use Rattle.packet.specs.Writer.{written}
use Rattle.command.specs.Table.{cmd1_for, cmd2_for, layout, size_of}
use Rattle.command.specs.Settings.{values_of, store}
use Rattle.command.specs.Rules.{allowed}
use Rattle.command.specs.Data.{split_all}
use Rattle.command.specs.Value.{command_in, values_in, data_of}
use Rattle.command.specs.Transfer.{Transfer, Closed, Opened, held}
use Rattle.command.specs.Faults.{Arrived, arrived}
use Rattle.command.specs.Response.{response}
use Rattle.command.specs.Player.{State, from, judged, next, judgements, end_settings, end_offence}
use Rattle.command.specs.Controller.{state_of}
use Rattle.command.specs.Endpoint.{taken_by, arrived_in, response_in, receive_call}
use Rattle.command.specs.Encoder.{encoded, standard_list, encode_call, list_call}
use Rattle.command.specs.Encoder as encoder
use Rattle.command.specs.Sending.{Sending, sent_to, Boundary}
use Rattle.command.specs.declared.table.Command.{Command}
use Rattle.command.specs.declared.table.Command.TheVariants.{SequenceRun}
use Rattle.command.specs.declared.settings.Settings.{Settings}
use Rattle.command.specs.declared.value.Value.{Value}
use Rattle.command.specs.declared.judgement.Judgement.{Judgement}
use Rattle.command.specs.declared.judgement.Judgement.TheVariants.{Error, Hold, Write, Read}
use Rattle.command.specs.declared.controller.Controller.{Controller}

-- How a complete packet is judged.

-- CMD1 and CMD2 are this command's in the table
abbrev pub Names : ℕ → ℕ → Command → Type 0
Names cmd1 cmd2 c = (cmd1 ≡ cmd1_for c) × (cmd2 ≡ cmd2_for c)

-- flags 02 or 03; flags 00 or 01; flags 00 or 03
abbrev pub Continues : ℕ → Type 0
Continues f = (f ≡ intermediate) ⊎ (f ≡ last)

abbrev pub Starts : ℕ → Type 0
Starts f = (f ≡ whole) ⊎ (f ≡ beginning)

abbrev pub Completes : ℕ → Type 0
Completes f = (f ≡ whole) ⊎ (f ≡ last)

-- First group: the packet p, that comes while t is the open transfer or none, has a fault of this code.
pub data FirstFault (t : Transfer) (p : Arrived) : ℕ → Type 0 where
  -- 09: checksum wrong
  WrongChecksum : p.right ≡ false → FirstFault t p 0x09
  -- 02: type neither 02 nor 04,
  UnknownType : (p.type ≡ host_write → ⊥) → (p.type ≡ host_read → ⊥) → FirstFault t p 0x02
  -- or command not in the table,
  UnknownCommand : ((c : Command) → Names p.cmd1 p.cmd2 c → ⊥) → FirstFault t p 0x02
  -- or a read of 01 06
  ColourRead : p.type ≡ host_read → p.cmd1 ≡ 0x01 → p.cmd2 ≡ 0x06 → FirstFault t p 0x02
  -- 04: payload length over 1,024;
  LongPayload : 1024 < p.size → FirstFault t p 0x04
  -- or flags 02 or 03 with a transfer open and held bytes plus this payload over 1,024
  LongTransfer : (c : Command) (d : List ℕ) → Continues p.flags → t ≡ Opened c d → 1024 < length d + p.size → FirstFault t p 0x04
  -- 0B: flags over 03;
  UnknownFlags : last < p.flags → FirstFault t p 0x0B
  -- a type other than 02 with nonzero flags;
  NoWriteInParts : (p.type ≡ host_write → ⊥) → (p.flags ≡ whole → ⊥) → FirstFault t p 0x0B
  -- flags 02 or 03 with no transfer open
  NoneOpen : Continues p.flags → t ≡ Closed → FirstFault t p 0x0B
  -- or one open for another command;
  OpenForAnother : (c : Command) (d : List ℕ) → Continues p.flags → t ≡ Opened c d → (Names p.cmd1 p.cmd2 c → ⊥) → FirstFault t p 0x0B
  -- flags 00 or 01 while a transfer is open
  StillOpen : (c : Command) (d : List ℕ) → Starts p.flags → t ≡ Opened c d → FirstFault t p 0x0B

-- the joined data: those held, then the payload
abbrev pub joined_data : Transfer → Arrived → List ℕ
joined_data t p = held t ++ p.body

-- The codes that come alone, each only where the one before does not hold.
pub data LaterFault (mode : ℕ) (t : Transfer) (p : Arrived) : ℕ → Type 0 where
  -- 0A if the joined data hasn't the command's size
  WrongSize : (c : Command) → p.type ≡ host_write → Names p.cmd1 p.cmd2 c → (length (joined_data t p) ≡ size_of c → ⊥) → LaterFault mode t p 0x0A
  -- (for a read: none)
  DataInRead : p.type ≡ host_read → (length (joined_data t p) ≡ 0 → ⊥) → LaterFault mode t p 0x0A
  -- then 03 if a value isn't allowed
  ValueNotAllowed : (c : Command) → p.type ≡ host_write → Names p.cmd1 p.cmd2 c → length (joined_data t p) ≡ size_of c
      → allowed c (split_all (layout c) (joined_data t p)) ≡ false
      → LaterFault mode t p 0x03
  -- then 07 for run 1 outside mode 4
  RunOutsideMode : p.type ≡ host_write → Names p.cmd1 p.cmd2 SequenceRun → joined_data t p ≡ 1 ∷ [] → (mode ≡ 4 → ⊥) → LaterFault mode t p 0x07

-- each above the one before it, the first above n
abbrev pub Ascending : ℕ → List ℕ → Type 0
Ascending n [] = Unit {0}
Ascending n (x ∷ xs) = (n < x) × Ascending x xs

-- The faults of the packet p call for an error packet with these codes.
pub data Draws (mode : ℕ) (t : Transfer) (p : Arrived) : List ℕ → Type 0 where
  -- First group, every one that holds is reported (`Memᴰ n codes`: n is one of the codes): one byte for each code, ascending, none twice.
  FirstGroup : (codes : List ℕ) → (codes ≡ [] → ⊥) → Ascending 0 codes → ((n : ℕ) → Memᴰ n codes ↔ FirstFault t p n) → Draws mode t p codes
  -- Only with none of these, and only for flags 00 or 03.
  Alone : (n : ℕ) → ((k : ℕ) → FirstFault t p k → ⊥) → Completes p.flags → LaterFault mode t p n → Draws mode t p (n ∷ [])

-- on the state of a head
abbrev pub DrawsOn : State → Arrived → List ℕ → Type 0
DrawsOn a p codes = Draws a.settings.mode a.transfer p codes

-- the error packet with these codes that answers p
abbrev pub error_packet : Arrived → List ℕ → List ℕ
error_packet p codes = packet_of error p.cmd1 p.cmd2 whole codes

-- "Each response repeats the CMD1 and CMD2 received, with flags 00. Write response: no payload."
abbrev pub write_response_to : List ℕ → List ℕ
write_response_to q = packet_of write_response (cmd1_of q) (cmd2_of q) whole []

-- "Read response: the command's data."
abbrev pub read_response_to : List ℕ → Command → Settings → List ℕ
read_response_to q c s = packet_of read_response (cmd1_of q) (cmd2_of q) whole (data_of c s)

-- The packet q is accepted on the state a: the response that it draws, and the state after it.
pub data Accepted (a : State) (q : List ℕ) : List ℕ → State → Type 0 where
  -- "An accepted 01 opens a transfer": none was open, and its data are the payload;
  Opens : (c : Command) → type_of q ≡ host_write → flags_of q ≡ beginning → Names (cmd1_of q) (cmd2_of q) c → a.transfer ≡ Closed
      → Accepted a q (write_response_to q) (record { settings = a.settings; transfer = Opened c (payload q) })
  -- "02 adds to it". "Flags 01 and 02, accepted, change only the transfer."
  Adds : (c : Command) (d : List ℕ) → type_of q ≡ host_write → flags_of q ≡ intermediate → Names (cmd1_of q) (cmd2_of q) c → a.transfer ≡ Opened c d
      → Accepted a q (write_response_to q) (record { settings = a.settings; transfer = Opened c (d ++ payload q) })
  -- "03 adds and carries it out": it "stores the joined data and closes the transfer".
  CarriesOut : (c : Command) (d : List ℕ) → type_of q ≡ host_write → flags_of q ≡ last → Names (cmd1_of q) (cmd2_of q) c → a.transfer ≡ Opened c d
      → Accepted a q (write_response_to q) (from (store c (split_all (layout c) (d ++ payload q)) a.settings))
  -- "A write accepted with flags 00 stores its data."
  Stores : (c : Command) → type_of q ≡ host_write → flags_of q ≡ whole → Names (cmd1_of q) (cmd2_of q) c → a.transfer ≡ Closed
      → Accepted a q (write_response_to q) (from (store c (split_all (layout c) (payload q)) a.settings))
  -- "A read that draws a read response changes nothing."
  ReadsOut : (c : Command) → type_of q ≡ host_read → flags_of q ≡ whole → Names (cmd1_of q) (cmd2_of q) c → Accepted a q (read_response_to q c a.settings) a

-- Every error packet that a receive call sends, on a controller of any values; m is the response's length in its answer.
pub record ErrorSent (c : Controller) (input out : List ℕ) (m : ℕ) : Type 0 where
  pub codes : List ℕ
  -- the faults of the packet that arrived call for these codes
  pub called : DrawsOn (state_of c) (arrived_in (taken_by c input)) codes
  -- the error packet is at the output's start, the rest untouched
  pub packet : (receive_call c input out).output ≡ written (error_packet (arrived_in (taken_by c input)) codes) out
  pub size : m ≡ length (error_packet (arrived_in (taken_by c input)) codes)
  -- all settings are as they stood, and no transfer is open
  pub settings : (receive_call c input out).controller.settings ≡ c.settings
  pub inactive : (receive_call c input out).controller.registers.active ≡ 0
  pub closed : (state_of (receive_call c input out).controller).transfer ≡ Closed

-- Over whole streams.

-- the writes that were accepted and carried out, in order
unfoldable pub accepted_writes : List Judgement → List Value
accepted_writes [] = []
accepted_writes (Error k ∷ js) = accepted_writes js
accepted_writes (Hold c ∷ js) = accepted_writes js
accepted_writes (Write v ∷ js) = v ∷ accepted_writes js
accepted_writes (Read c ∷ js) = accepted_writes js

-- writes stored one after the other
unfoldable pub store_all : List Value → Settings → Settings
store_all [] s = s
store_all (v ∷ vs) s = store_all vs (store (command_in v) (values_in v) s)

-- packets that each draw an error packet
pub data AllBad : State → List (List ℕ) → Type 0 where
  NoPacket : {a : State} → AllBad a []
  BadPacket : {a : State} {q : List ℕ} {qs : List (List ℕ)} (codes : List ℕ) → DrawsOn a (arrived q) codes → AllBad (next a q) qs → AllBad a (q ∷ qs)

-- Refusals.

-- settings out of rule: a setting not allowed, run 1 outside mode 4
pub data SettingsOutOfRule (s : Settings) : Type 0 where
  SettingNotAllowed : (c : Command) → allowed c (values_of c s) ≡ false → SettingsOutOfRule s
  RunsOutsideMode : s.run ≡ 1 → (s.mode ≡ 4 → ⊥) → SettingsOutOfRule s

-- a controller out of rule: besides,
pub data OutOfRule (c : Controller) : Type 0 where
  BadSettings : SettingsOutOfRule c.settings → OutOfRule c
  -- over 1,024 held bytes,
  HeldTooLong : 1024 < c.registers.held → OutOfRule c
  -- a transfer open for a command not in the table,
  OpenForUnknown : (c.registers.active ≡ 0 → ⊥) → ((d : Command) → Names c.registers.cmd1 c.registers.cmd2 d → ⊥)
      → OutOfRule c
  -- or a half-received packet that already has all its bytes
  HasAllBytes : 7 + payload_length c.registers.header ≤ c.registers.received → OutOfRule c

pub record Demand1 : Type 0 where
  -- "A bad packet gets the error packet its faults call for": that one and no other, and no packet besides gets one
  pub called : (a : State) (q codes : List ℕ) → (response a.settings (arrived q) (judged a q) ≡ error_packet (arrived q) codes) ↔ DrawsOn a (arrived q) codes
  -- the checksum of its bytes is wrong where the last is not the sum of every earlier one
  pub wrong_sum : (q : List ℕ) → ((arrived q).right ≡ false) ↔ (get_or q (6 + payload_length q) 0 ≡ checksum (take (6 + payload_length q) q) → ⊥)
  -- a packet with no fault is accepted: it draws the response of its kind and changes what its kind changes, no more
  pub good : (a : State) (q : List ℕ) → ((codes : List ℕ) → DrawsOn a (arrived q) codes → ⊥)
      → Accepted a q (response a.settings (arrived q) (judged a q)) (next a q)
  -- "and leaves all settings as they stood"; no transfer is left open
  pub leaves : (a : State) (q codes : List ℕ) → DrawsOn a (arrived q) codes → next a q ≡ from a.settings
  -- so on the call, whatever the controller: an answer that begins with the error type is that error packet,
  pub sent : (c : Controller) (input out : List ℕ) (n m : ℕ) → (receive_call c input out).answer ≡ Answers n m
      → type_of (receive_call c input out).output ≡ error
      → ErrorSent c input out m
  -- and every packet whose faults call for one gets it
  pub owed : (c : Controller) (input out codes : List ℕ) (n m : ℕ) → (receive_call c input out).answer ≡ Answers n m
      → DrawsOn (state_of c) (arrived_in (taken_by c input)) codes
      → take m (receive_call c input out).output ≡ error_packet (arrived_in (taken_by c input)) codes
  -- a call that completes no packet leaves the output, the settings and the transfer, whatever the controller
  pub waits : (c : Controller) (input out : List ℕ) (n : ℕ) → (receive_call c input out).answer ≡ Waits n
      → ((receive_call c input out).output ≡ out) × (state_of (receive_call c input out).controller ≡ state_of c)
  -- and one that answers leaves the output after the response
  pub behind : (c : Controller) (input out : List ℕ) (n m : ℕ) → (receive_call c input out).answer ≡ Answers n m → drop m (receive_call c input out).output ≡ drop m out
  -- over whole streams, sent to a head in rule at a packet boundary however they were cut, the settings are the accepted writes alone, stored one after the other,
  pub stream : (c : Controller) (b : List ℕ) (s : Sending b) → Boundary c
      → (sent_to c s).state.settings ≡ store_all (accepted_writes (judgements (state_of c) (packets b))) c.settings
  -- and packets that are all bad leave all settings as they stood
  pub bad_stream : (c : Controller) (b : List ℕ) (s : Sending b) → Boundary c → AllBad (state_of c) (packets b)
      → (sent_to c s).state.settings ≡ c.settings
  -- "Every call answers"; "a bad call gets its refusal number and touches nothing lent". The receive call: 1 and 3; else "waiting", all bytes taken, or "answered"
  pub receive : (c : Controller) (input out : List ℕ)
      → let r = receive_call c input out in
      let t = taken_by c input in
      Answering (λ n. r.answer ≡ Refuses n) out 64 3 (OutOfRule c) ((r.controller ≡ c) × (r.output ≡ out))
      (r.answer ≡ cond t.complete (Answers t.taken (length (response_in c t))) (Waits (length input)))
  -- playing is no call of the table: settings out of rule are not played, they stay and the place is 0
  pub play : (s : Settings) (b : List ℕ) → SettingsOutOfRule s → (end_settings s b ≡ s) × (end_offence s b ≡ Some 0)
  -- the encoder: 1 and 2; else the length of one whole packet
  pub encode : (v : Value) (out : List ℕ)
      → let r = encode_call v out in
      Answering (λ n. r.answer ≡ encoder.Refuses n) out 64 2 (allowed (command_in v) (values_in v) ≡ false) (r.output ≡ out)
      (r.answer ≡ encoder.Writes (length (encoded v)))
  -- the standard list: 1 and 3; else its length
  pub list : (s : Settings) (out : List ℕ)
      → let r = list_call s out in
      Answering (λ n. r.answer ≡ encoder.Refuses n) out 128 3 (SettingsOutOfRule s) (r.output ≡ out) (r.answer ≡ encoder.Writes (length (standard_list s)))
