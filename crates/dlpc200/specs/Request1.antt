-- What ticket 1 asks of the device and its receive call, as one claim. The faults of a packet and the refusals are said here once more, as the ticket lists them, by
-- equations and orders.
use Rattle.std.specs.Prelude.{◌≡◌, ℕ, ◌+◌, ◌<◌, ◌≤◌, true, cond, ◌⊎◌, ◌↔◌, List, [], ◌∷◌, ◌++◌, length, take, drop, ◌≢◌, slice_index, slice_index_or, Ok, Err}
use Rattle.packet.specs.Answer.{Refuses, Waits, Answers, Answering}
use Rattle.packet.specs.Calls.{Served}
use Rattle.packet.specs.Packet.{payload_length, payload}
use Rattle.packet.specs.Receiver.{Receiver as PacketReceiver, with}
use Rattle.packet.specs.Stream.{packets, rest}
use Rattle.dlpc200.specs.Packet.{cmd1_of, cmd2_of, cmd4_of, id_of, write, read, read_resp, extended, only, after_cmd4, checksum as checksum_of, right_sum, packet_of}
use Rattle.dlpc200.specs.Table.{id_for, cmd1_for, size_for}
use Rattle.dlpc200.specs.States.{shown_of, data_of}
use Rattle.dlpc200.specs.Status.{any_fault, no_faults, data0, data1, fault_bits, faults_held}
use Rattle.dlpc200.specs.Judgement.{arrived}
use Rattle.dlpc200.specs.Response.{response_type}
use Rattle.dlpc200.specs.Playing.{judged, answer_to, next, responses, after}
use Rattle.dlpc200.specs.Device.{device_with, in_rule, receiver_of, receiving}
use Rattle.dlpc200.specs.Endpoint.{response_in, receive_call}
use Rattle.dlpc200.specs.Sending.{Sending, sent_to, Ready, Boundary}
use Rattle.dlpc200.specs.declared.table.Command.{Command}
use Rattle.dlpc200.specs.declared.table.Command.TheVariants.{ParkDmd, UnparkDmd, GetDmdSoftwareParkState}
use Rattle.dlpc200.specs.declared.status.Faults.{Faults}
use Rattle.dlpc200.specs.declared.states.States.{States}
use Rattle.dlpc200.specs.declared.device.Device.{Device}

-- The bytes b were sent to the device d at a packet boundary, and r is what it answered and the device afterwards. They are those of judging the packets of b one
-- after the other: the responses in order, the states, and the unfinished packet, of which the receiver has all bytes that came in. The device stays in rule.
pub record Follows (d : Device) (b : List ℕ) (r : Served Device (List ℕ)) : Type 0 where
  pub given : r.given ≡ responses d.states (packets b)
  pub ends : r.state.states ≡ after d.states (packets b)
  pub base : PacketReceiver
  pub boundary : base.received ≡ 0
  pub unfinished : receiver_of r.state ≡ with after_cmd4 base (rest b)
  pub ready : Ready r.state

-- The faults of a packet, by equations and orders: of the rules only the table's columns are cited.

-- the packet p is of the command c, by the ID in its first two data bytes
abbrev pub Names : List ℕ → Command → Type 0
Names p c = (2 ≤ payload_length p) × (id_of (payload p) ≡ id_for c)

-- "a CMD1 that is neither 02 nor 04 or is the wrong one for its command"
pub data WrongCmd1 (p : List ℕ) : Type 0 where
  NeitherCmd1 : (cmd1_of p ≢ write) → (cmd1_of p ≢ read) → WrongCmd1 p
  OtherCmd1 : (c : Command) → Names p c → (cmd1_of p ≢ cmd1_for c) → WrongCmd1 p

-- "data of the wrong size, under two or over 504 bytes"
pub data WrongSize (p : List ℕ) : Type 0 where
  UnderTwo : payload_length p < 2 → WrongSize p
  Over504 : 504 < payload_length p → WrongSize p
  OtherSize : (c : Command) → Names p c → (payload_length p ≢ size_for c) → WrongSize p

-- f are all faults that hold of the packet p, and no others
pub record FaultsHold (p : List ℕ) (f : Faults) : Type 0 where
  -- "a wrong checksum"
  pub checksum : (f.checksum ≡ true) ↔ (slice_index p (6 + payload_length p) ≢ checksum_of (take (6 + payload_length p) p))
  pub cmd1 : (f.cmd1 ≡ true) ↔ WrongCmd1 p
  -- "CMD2 not AA"
  pub cmd2 : (f.cmd2 ≡ true) ↔ (cmd2_of p ≢ extended)
  -- "CMD4 not 00"
  pub cmd4 : (f.cmd4 ≡ true) ↔ (cmd4_of p ≢ only)
  pub size : (f.size ≡ true) ↔ WrongSize p

-- a packet with these faults fails if there is one of them, or if its command is unknown
pub data Fails (p : List ℕ) (f : Faults) : Type 0 where
  HasFault : any_fault f ≡ true → Fails p f
  UnknownCommand : ((c : Command) → Names p c → ⊥) → Fails p f

-- packets that all fail
abbrev pub AllFail : List (List ℕ) → Type 0
AllFail [] = Unit {0}
AllFail (p ∷ ps) = ((f : Faults) × (judged p ≡ Err f)) × AllFail ps

-- Park and unpark.

-- no packet of these is a park or an unpark that is carried out
abbrev pub NoneParks : List (List ℕ) → Type 0
NoneParks [] = Unit {0}
NoneParks (p ∷ ps) = (judged p ≢ Ok ParkDmd) × (judged p ≢ Ok UnparkDmd) × NoneParks ps

-- After the command c a read of 0015 answers v: on every device at a packet boundary and for every stream, however it is sent.
-- Among the packets of the stream p carries out c, and q, later, a read of 0015; none between them is a park or an unpark that is carried out. The answer to q
-- comes after as many as q has packets before it.
abbrev pub ReadAfter : Command → ℕ → Type 0
ReadAfter c v =
    (d : Device) (b : List ℕ) (s : Sending b) (before between later : List (List ℕ)) (p q : List ℕ)
    → Boundary d
    → packets b ≡ (before ++ (p ∷ between)) ++ (q ∷ later)
    → judged p ≡ Ok c
    → NoneParks between
    → judged q ≡ Ok GetDmdSoftwareParkState
    → slice_index_or (sent_to d s).given (length (before ++ (p ∷ between))) [] ≡ packet_of read_resp (0x00 ∷ 0x00 ∷ v ∷ [])

-- the states t are s but for the park state
pub record OthersStay (s t : States) : Type 0 where
  pub sequence : t.sequence ≡ s.sequence
  pub eeprom : t.eeprom ≡ s.eeprom
  pub flash : t.flash ≡ s.flash
  pub lit : t.lit ≡ s.lit

-- The sum.

abbrev pub with_sum : Device → ℕ → Device
with_sum d n = record { received = d.received; header = d.header; hold = d.hold; sum = n; states = d.states }

-- Refusals.

-- a state out of its section's range: 0 or 1 (6.22, 6.23, 6.24, 6.43), and that of 0029 from 0 to 7 (6.42)
pub data OutOfRange (s : States) : Type 0 where
  ParkOut : 1 < s.park → OutOfRange s
  SequenceOut : 1 < s.sequence → OutOfRange s
  EepromOut : 1 < s.eeprom → OutOfRange s
  FlashOut : 7 < s.flash → OutOfRange s
  LitOut : 1 < s.lit → OutOfRange s

-- a device out of rule: "a state out of range or a half-received packet that has all its bytes"
pub data OutOfRule (d : Device) : Type 0 where
  BadState : OutOfRange d.states → OutOfRule d
  HasAllBytes : 7 + payload_length d.header ≤ d.received → OutOfRule d

pub record Request1 : Type 0 where
  -- "framed by the length field": the calls on a stream give what judging its packets gives, and no more,
  pub follows : (d : Device) (b : List ℕ) (s : Sending b) → Boundary d → Follows d b (sent_to d s)
  -- and every way of sending the same bytes to a device in rule, with half a packet received or none, gives the same
  pub cut : (d : Device) (b : List ℕ) (s t : Sending b) → Ready d → sent_to d s ≡ sent_to d t
  -- "CMD3 00 (not judged)": a packet with another is the same to the rules
  pub cmd3 : (first second third other : ℕ) (q : List ℕ) → arrived (first ∷ second ∷ third ∷ q) ≡ arrived (first ∷ second ∷ other ∷ q)
  -- a packet fails with all faults that hold of it, exactly when there is one or its command is unknown,
  pub failed : (p : List ℕ) (f : Faults) → (judged p ≡ Err f) ↔ (FaultsHold p f × Fails p f)
  -- and its command is carried out exactly when the packet names it and no fault holds
  pub done : (p : List ℕ) (c : Command) → (judged p ≡ Ok c) ↔ (Names p c × FaultsHold p no_faults)
  -- a failed packet changes no state, and a stream of such packets none
  pub leaves : (s : States) (p : List ℕ) (f : Faults) → judged p ≡ Err f → next s p ≡ s
  pub bad_stream : (d : Device) (b : List ℕ) (s : Sending b) → Boundary d → AllFail (packets b) → (sent_to d s).state.states ≡ d.states
  -- "A failed packet sets the bits of all that hold and bit 6 of Data[0] too"; "its response has the two status bytes only, as a read response for CMD1 04 and a write
  -- response otherwise";
  pub status : (s : States) (p : List ℕ) (f : Faults) → judged p ≡ Err f
      → answer_to s p ≡ packet_of (response_type (cmd1_of p)) (data0 f ∷ data1 f ∷ [])
  -- "an unknown command by itself sets bit 6 alone"
  pub alone : (s : States) (p : List ℕ) → ((c : Command) → Names p c → ⊥) → FaultsHold p no_faults
      → answer_to s p ≡ packet_of (response_type (cmd1_of p)) (0x40 ∷ 0x00 ∷ [])
  -- a command that is carried out is answered as in its section: no error bit, and after the status bytes the state that it reads
  pub answers : (s : States) (p : List ℕ) (c : Command) → judged p ≡ Ok c
      → answer_to s p ≡ packet_of (response_type (cmd1_for c)) (0x00 ∷ 0x00 ∷ data_of (shown_of s c))
  -- "Every response carries AA, 00, 00 as CMD2 to CMD4, whatever came"
  pub front : (s : States) (p : List ℕ) → take 4 (answer_to s p) ≡ response_type (cmd1_of p) ∷ 0xAA ∷ 0x00 ∷ 0x00 ∷ []
  -- and is one whole packet with a right checksum
  pub whole : (s : States) (p : List ℕ) → (packets (answer_to s p) ≡ answer_to s p ∷ []) × (right_sum (answer_to s p) ≡ true)
  -- "how many faults a response carries beside bit 6: the number of error bits set" is how many hold of its packet
  pub faults : (s : States) (p : List ℕ) (f : Faults) → FaultsHold p f → fault_bits (slice_index (answer_to s p) 6) (slice_index (answer_to s p) 7) ≡ faults_held f
  -- "Park sets what 0015 reads and unpark clears it"
  pub parked : ReadAfter ParkDmd 1
  pub unparked : ReadAfter UnparkDmd 0
  -- "the other states are bytes the host supplies": no packet changes them, and no call, whatever the device;
  pub others : (s : States) (p : List ℕ) → OthersStay s (next s p)
  pub kept : (d : Device) (input out : List ℕ) → OthersStay d.states (receive_call d input out).device.states
  -- a command that is carried out and is neither park nor unpark leaves the park state too
  pub reads : (s : States) (p : List ℕ) (c : Command) → judged p ≡ Ok c → (c ≢ ParkDmd) → (c ≢ UnparkDmd) → next s p ≡ s
  -- "in their sections' ranges": a device made with such states is one of those
  pub begins : (s : States) → (OutOfRange s → ⊥) → Boundary (device_with s)
  -- "checksum over everything after CMD4": with up to four bytes received nothing is summed yet, and the sum begins anew with the first byte after CMD4. To a call
  -- that takes that byte it does not matter what stood in the sum.
  pub sum : (d : Device) (n : ℕ) (b out : List ℕ)
      → 64 ≤ length out
      → in_rule d ≡ true
      → d.received ≤ after_cmd4
      → after_cmd4 < d.received + length b
      → receive_call (with_sum d n) b out ≡ receive_call d b out
  -- "waiting": a call that completes no packet leaves the output and the states, whatever the device
  pub waits : (d : Device) (input out : List ℕ) (n : ℕ) → (receive_call d input out).answer ≡ Waits n
      → ((receive_call d input out).output ≡ out) × ((receive_call d input out).device.states ≡ d.states)
  -- "answered": the output begins with the response to the packet that arrived, as long as the answer says, and stays as it was behind it, whatever the device
  pub behind : (d : Device) (input out : List ℕ) (n m : ℕ) → (receive_call d input out).answer ≡ Answers n m
      → (take m (receive_call d input out).output ≡ response_in d.states (receiving d input))
      × (drop m (receive_call d input out).output ≡ drop m out)
  -- the size of a response is the two status bytes in a packet, or those and a state: never 0, which is the size that a call tells where there is none (`size_of`)
  pub sized : (d : Device) (input out : List ℕ) (n m : ℕ) → (receive_call d input out).answer ≡ Answers n m → (m ≡ 9) ⊎ (m ≡ 10)
  -- "calls keep 1, then 3"; else "waiting", all bytes taken, or "answered"
  pub refuses : (d : Device) (input out : List ℕ)
      → let r = receive_call d input out in
      let t = receiving d input in
      Answering (λ n. r.answer ≡ Refuses n) out 64 3 (OutOfRule d) ((r.device ≡ d) × (r.output ≡ out))
      (r.answer ≡ cond t.complete (Answers t.taken (length (response_in d.states t))) (Waits (length input)))
