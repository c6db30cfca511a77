-- The device: what has come in of the current packet, and the states; when it is in rule, and how it takes bytes.
use Rattle.std.specs.Prelude.{ℕ, Bool, ◌&&◌, List, replicate}
use Rattle.packet.specs.Receiver.{Receiver, Received, packet_in_rule, receiving as packet_receiving}
use Rattle.dlpc200.specs.Packet.{after_cmd4}
use Rattle.dlpc200.specs.States.{in_range}
use Rattle.dlpc200.specs.declared.states.States.{States}
use Rattle.dlpc200.specs.declared.device.Device.{Device}

-- a device between two packets, with the states that the host supplies
abbrev pub device_with : States → Device
device_with s = record { received = 0; header = replicate 6 0; hold = replicate 4 0; sum = 0; states = s }

-- Refusal 3: "a state out of range or a half-received packet that has all its bytes"
abbrev pub in_rule : Device → Bool
in_rule d = in_range d.states && packet_in_rule d.header d.received

-- The length field frames a packet as in the packet layer: a device has that layer's receiver, whose hold has room for four data bytes,
abbrev pub receiver_of : Device → Receiver
receiver_of d = record { header = d.header; running = d.sum; received = d.received; hold = d.hold }

-- and states.
abbrev pub device_of : States → Receiver → Device
device_of s r = record { received = r.received; header = r.header; hold = r.hold; sum = r.running; states = s }

-- one call: it takes bytes until the input ends or one packet is complete. The sum is of everything after CMD4 and begins anew with the first byte of that.
-- A device of any field values is answered.
abbrev pub receiving : Device → List ℕ → Received
receiving d b = packet_receiving after_cmd4 (receiver_of d) b
