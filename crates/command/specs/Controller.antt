-- The controller: its transfer and its receiver by the controller's numbers, when it is in rule, and a fresh one. Every controller means something, whatever its numbers are.
use Rattle.std.specs.Prelude.{Option, None, Some, ℕ, ◌+◌, Bool, cond, ◌&&◌, ◌||◌, List, eqb, leb, length, take, replicate, is_some}
use Rattle.std.proofs.lemmas.List.Edits.{sets}
use Rattle.packet.specs.Packet.{type_of, cmd1_of, cmd2_of, flags_of, payload_length}
use Rattle.packet.specs.Receiver.{Receiver, packet_in_rule}
use Rattle.command.specs.Table.{cmd1_for, cmd2_for, command_of}
use Rattle.command.specs.Settings.{factory}
use Rattle.command.specs.Rules.{settings_in_rule}
use Rattle.command.specs.Transfer.{Transfer, Closed, Opened}
use Rattle.command.specs.Faults.{Arrived}
use Rattle.command.specs.Player.{State}
use Rattle.command.specs.declared.settings.Settings.{Settings}
use Rattle.command.specs.declared.transfer.TransferState.{TransferState}
use Rattle.command.specs.declared.judgement.Judgement.{Judgement}
use Rattle.command.specs.declared.judgement.Judgement.TheVariants.{Error, Hold, Write, Read}
use Rattle.command.specs.declared.controller.Registers.{Registers}
use Rattle.command.specs.declared.controller.Controller.{Controller}
use Rattle.command.specs.declared.table.Command.{Command}

-- The transfer: none is open where `active` is 0.

-- its numbers, among the registers
abbrev pub transfer_of : Registers → TransferState
transfer_of r = record { active = r.active; cmd1 = r.cmd1; cmd2 = r.cmd2; held = r.held }

-- how many bytes are held
abbrev pub held_in : TransferState → ℕ
held_in t = cond (eqb t.active 0) 0 t.held

abbrev pub opened_for : Option Command → List ℕ → Transfer
opened_for None d = Closed
opened_for (Some c) d = Opened c d

-- the open transfer, its held data being the first bytes of the array `buffer`
abbrev pub transfer_in : TransferState → List ℕ → Transfer
transfer_in t buffer = cond (eqb t.active 0) Closed (opened_for (command_of t.cmd1 t.cmd2) (take t.held buffer))

-- the state of the head, in document 01's terms: "the settings and one open transfer, its command and held data, or none"
abbrev pub state_of : Controller → State
state_of c = record { settings = c.settings; transfer = transfer_in (transfer_of c.registers) c.buffer }

-- the receiver: what has come in of the current packet
abbrev pub receiver_in : Controller → Receiver
receiver_in c =
    record { header = c.registers.header; running = c.registers.sum; received = c.registers.received; hold = c.hold }

-- a complete packet: its header, whether its checksum was right, and its payload
abbrev pub packet_in : List ℕ → Bool → List ℕ → Arrived
packet_in header right body =
    record {
      type = type_of header;
      cmd1 = cmd1_of header;
      cmd2 = cmd2_of header;
      flags = flags_of header;
      size = payload_length header;
      right = right;
      body = body;
    }

abbrev pub no_transfer : TransferState
no_transfer = record { active = 0; cmd1 = 0; cmd2 = 0; held = 0 }

-- the transfer after the judgement of a packet with this payload: its numbers, and the array of its data. An accepted 01 opens one, 02 adds to it.
-- Both together are transfer_after of specs/Carry (law carried_transfer of proofs/carry/Laws).
abbrev pub transfer_state_after : TransferState → List ℕ → Judgement → TransferState
transfer_state_after t body (Error k) = no_transfer
transfer_state_after t body (Hold c) = record { active = 1; cmd1 = cmd1_for c; cmd2 = cmd2_for c; held = held_in t + length body }
transfer_state_after t body (Write v) = no_transfer
transfer_state_after t body (Read c) = t

abbrev pub buffer_after : TransferState → List ℕ → List ℕ → Judgement → List ℕ
buffer_after t buffer body (Error k) = buffer
buffer_after t buffer body (Hold c) = sets buffer (held_in t) body
buffer_after t buffer body (Write v) = buffer
buffer_after t buffer body (Read c) = buffer

-- In rule, as refusal 3 has it: not a setting not allowed, nor run 1 outside mode 4, nor over 1,024 held bytes, nor a transfer open for a command not in
-- the table, nor a half-received packet that already has all its bytes.

unfoldable pub transfer_in_rule : TransferState → Bool
transfer_in_rule t = leb t.held 1024 && (eqb t.active 0 || is_some (command_of t.cmd1 t.cmd2))

unfoldable pub parts_in_rule : Settings → Registers → Bool
parts_in_rule s r = settings_in_rule s && transfer_in_rule (transfer_of r) && packet_in_rule r.header r.received

abbrev pub in_rule : Controller → Bool
in_rule c = parts_in_rule c.settings c.registers

-- "an array of 1,024 zeros"
unfoldable pub zeros : List ℕ
zeros = replicate 1024 0

-- a fresh controller: factory values, nothing half received and no transfer open
abbrev pub fresh : Controller
fresh =
    record {
      settings = factory;
      registers = record { received = 0; held = 0; active = 0; cmd1 = 0; cmd2 = 0; header = replicate 6 0; sum = 0 };
      buffer = zeros;
      hold = zeros;
    }
