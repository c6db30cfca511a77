-- A stream of bytes sent to a device, call after call, however it is cut.
use Rattle.std.specs.Prelude.{◌≡◌, ℕ, true, List, length}
use Rattle.packet.specs.Answer.{taken_of, response_of}
use Rattle.packet.specs.Calls.{Call, Served, Sending as SendingWith, sent}
use Rattle.dlpc200.specs.Device.{in_rule}
use Rattle.dlpc200.specs.Endpoint.{After, receive_call}
use Rattle.dlpc200.specs.declared.device.Device.{Device}

-- what a receive call shows: how many bytes it took, and the response at the output's start
abbrev pub shown : After → Call Device (List ℕ)
shown r = record { taken = taken_of r.answer; gives = response_of r.answer r.output; state = r.device }

-- the receive call with this output lent
abbrev pub serves : List ℕ → Device → List ℕ → Call Device (List ℕ)
serves out d b = shown (receive_call d b out)

-- a way of sending the bytes b: cut into any pieces, each call with an output of its own that is long enough, whatever stands in it
abbrev pub Sending : List ℕ → Type 0
Sending b = SendingWith 64 b

-- the bytes sent so to the device d: the responses in order, and the device afterwards
abbrev pub sent_to : Device → {b : List ℕ} → Sending b → Served Device (List ℕ)
sent_to d s = sent serves d s

-- a device in rule; its arrays have the lengths that their types give
pub record Ready (d : Device) : Type 0 where
  pub rule : in_rule d ≡ true
  pub header : length d.header ≡ 6
  pub hold : length d.hold ≡ 4

-- with nothing half received, whatever its arrays and its sum hold
pub record Boundary (d : Device) : Type 0 where
  pub ready : Ready d
  pub received : d.received ≡ 0
