-- How a complete packet is judged, and what a judgement changes.
use Rattle.std.specs.Prelude.{ℕ, Bool, cond, not, ◌&&◌, ◌||◌, List, ◌==◌, nat_lt, Option, None, Some, Result, Ok, Err}
use Rattle.packet.specs.Packet.{payload_length, payload}
use Rattle.dlpc200.specs.Packet.{cmd1_of, cmd2_of, cmd4_of, id_of, write, read, extended, only, right_sum}
use Rattle.dlpc200.specs.Table.{cmd1_for, size_for, command_of}
use Rattle.dlpc200.specs.States.{park_after}
use Rattle.dlpc200.specs.Status.{any_fault, no_faults}
use Rattle.dlpc200.specs.declared.table.Command.{Command}
use Rattle.dlpc200.specs.declared.status.Faults.{Faults}
use Rattle.dlpc200.specs.declared.judgement.Arrived.{Arrived}
use Rattle.dlpc200.specs.declared.states.States.{States}

-- the command of a packet with n data bytes, d being the first of them: its ID takes two, and with fewer it has none
unfoldable pub command_in : ℕ → List ℕ → Option Command
command_in n d = cond (nat_lt n 2) None (command_of (id_of d))

-- the packet of this header and these data, of which the first two bytes are enough, its checksum right or not
abbrev pub arrived_of : List ℕ → List ℕ → Bool → Arrived
arrived_of header d right =
    record {
      cmd1 = cmd1_of header;
      cmd2 = cmd2_of header;
      cmd4 = cmd4_of header;
      size = payload_length header;
      right = right;
      command = command_in (payload_length header) d;
    }

-- the packet of these bytes
abbrev pub arrived : List ℕ → Arrived
arrived p = arrived_of p (payload p) (right_sum p)

-- The faults of the request; every one that holds is set.

-- "a CMD1 that is neither 02 nor 04 or is the wrong one for its command"
unfoldable pub wrong_cmd1 : Option Command → ℕ → Bool
wrong_cmd1 None cmd1 = not (cmd1 == write) && not (cmd1 == read)
wrong_cmd1 (Some c) cmd1 = not (cmd1 == write) && not (cmd1 == read) || not (cmd1 == cmd1_for c)

-- "data of the wrong size, under two or over 504 bytes", or not the command's
unfoldable pub wrong_size : Option Command → ℕ → Bool
wrong_size None n = nat_lt n 2 || nat_lt 504 n
wrong_size (Some c) n = nat_lt n 2 || nat_lt 504 n || not (n == size_for c)

unfoldable pub faults_of : Arrived → Faults
faults_of p =
    record {
      checksum = not p.right;
      cmd1 = wrong_cmd1 p.command p.cmd1;
      cmd2 = not (p.cmd2 == extended);
      cmd4 = not (p.cmd4 == only);
      size = wrong_size p.command p.size;
    }

-- with no fault: "an unknown command by itself sets bit 6 alone"
abbrev pub judge_command : Option Command → Result Command Faults
judge_command None = Err no_faults
judge_command (Some c) = Ok c

-- a packet fails if a fault holds, or its command is unknown: it comes to its command, which is carried out, or to the faults with which it failed
unfoldable pub judge : Arrived → Result Command Faults
judge p = cond (any_fault (faults_of p)) (Err (faults_of p)) (judge_command p.command)

-- What a judgement changes: a command the park state, and a failed packet nothing.

abbrev pub with_park : States → ℕ → States
with_park s v = record { park = v; sequence = s.sequence; eeprom = s.eeprom; flash = s.flash; lit = s.lit }

abbrev pub states_after : States → Result Command Faults → States
states_after s (Err f) = s
states_after s (Ok c) = with_park s (park_after c s.park)
