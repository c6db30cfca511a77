-- Definitions that exist for the code or a proof alone; nothing here has to be believed. The comment of each says what it stands for, and names the law that ties it
-- to the definition of the ticket's words.
use Rattle.packet.specs.Receiver.{Received}
use Rattle.packet.specs.declared.receiver.Taken.{Taken}
use Rattle.dlpc200.specs.declared.device.Device.{Device}
use Rattle.std.specs.Prelude.{is_some, unwrap_or, false}
use Rattle.dlpc200.specs.Device.{receiver_of}

-- what a device took, as the packet layer's definitions have it: the contract of `take` in src/device.rt says that it is `receiving`
abbrev pub received_by : Taken → Device → Received
received_by t d = record { taken = t.taken; complete = is_some t.complete; right = unwrap_or t.complete false; receiver = receiver_of d }
