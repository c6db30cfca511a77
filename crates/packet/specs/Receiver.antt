-- The receiver: "One receive call takes bytes until the input ends or one packet is complete."
-- A receiver of any field values is answered. One that has all bytes of its packet already takes the next byte for the checksum.
use Rattle.std.specs.Prelude.{ℕ, ◌+◌, ◌-◌, ◌%◌, max, Bool, true, false, cond, List, [], ◌∷◌, length, take, drop, ◌==◌, nat_le, nat_lt, slice_index, is_some, unwrap_or}
use Rattle.std.proofs.lemmas.List.Edits.{sets}
use Rattle.packet.specs.Packet.{payload_length, sum}
use Rattle.packet.specs.declared.receiver.Taken.{Taken}

-- what has come in of the current packet: its header, the running sum, how many of its bytes, and its payload as far as there is room
pub record Receiver : Type 0 where
  pub header : List ℕ
  pub running : ℕ
  pub received : ℕ
  pub hold : List ℕ

-- a running sum with b more; no bytes leave it as it is
abbrev pub plus : ℕ → ℕ → List ℕ → ℕ
plus before stays [] = stays
plus before stays (x ∷ xs) = (before + sum (x ∷ xs)) % 256

-- "running checksum in a byte", b coming in after `received` bytes. It covers the bytes of a packet from place k on, and begins anew with the first of them,
-- whatever stood there. In document 01 the checksum covers every earlier byte: k is 0.
unfoldable pub running_with : ℕ → ℕ → ℕ → List ℕ → ℕ
running_with k received running b = plus (cond (nat_le received k) 0 running) running (drop (k - received) b)

-- the receiver with b received of the current packet: the packet's first six bytes are the header, and its payload goes to the hold.
-- "A longer packet is still received to its end": `sets` drops what would stand past the list's end.
unfoldable pub with : ℕ → Receiver → List ℕ → Receiver
with k r b =
    record {
      header = sets r.header r.received b;
      running = running_with k r.received r.running b;
      received = r.received + length b;
      hold = sets r.hold (r.received - 6) (drop (6 - r.received) b);
    }

-- the receiver between two packets
abbrev pub between : Receiver → Receiver
between r = record { header = r.header; running = 0; received = 0; hold = r.hold }

-- how many bytes the current packet still wants, as the header says once b has come in: the checksum at least. With under six bytes in, the length there is the
-- last packet's; at least seven are wanted then all the same, so that b ends before the packet does.
unfoldable pub missing : Receiver → List ℕ → ℕ
missing r b = max 1 (7 + payload_length (sets r.header r.received b) - r.received)

-- what a call took, and the receiver afterwards; `right` is whether the checksum was, once a packet is complete
pub record Received : Type 0 where
  pub taken : ℕ
  pub complete : Bool
  pub right : Bool
  pub receiver : Receiver

-- the input ends before the packet does: all of it is taken
unfoldable pub waiting : ℕ → Receiver → List ℕ → Received
waiting k r b = record { taken = length b; complete = false; right = false; receiver = with k r b }

-- the packet ends at the nth byte of the input, its checksum, and nothing after that is taken
unfoldable pub completed : ℕ → Receiver → List ℕ → ℕ → Received
completed k r b n =
    record {
      taken = n;
      complete = true;
      right = (slice_index b (n - 1) == (with k r (take (n - 1) b)).running);
      receiver = between (with k r (take (n - 1) b));
    }

-- one call, the checksum covering the bytes from place k on
unfoldable pub receiving : ℕ → Receiver → List ℕ → Received
receiving k r b = cond (nat_lt (length b) (missing r b)) (waiting k r b) (completed k r b (missing r b))

-- "a half-received packet that already has all its bytes" is out of rule
unfoldable pub packet_in_rule : List ℕ → ℕ → Bool
packet_in_rule header received = nat_lt received (7 + payload_length header)

-- The call where header and hold are lent: the receiver of some parts, and what the call's answer tells with the header and the hold that it left.

abbrev pub receiver_of : List ℕ → ℕ → ℕ → List ℕ → Receiver
receiver_of header running received hold = record { header = header; running = running; received = received; hold = hold }

abbrev pub received_of : Taken → List ℕ → List ℕ → Received
received_of t header hold =
    record { taken = t.taken; complete = is_some t.complete; right = unwrap_or t.complete false; receiver = receiver_of header t.sum t.received hold }
