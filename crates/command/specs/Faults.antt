-- The first group of faults of a complete packet, the codes that come alone, and the bytes that report them. Codes have the names that source document 002 gives them.
use Rattle.std.specs.Prelude.{Option, None, ℕ, ◌+◌, Bool, true, false, cond, not, ◌&&◌, ◌||◌, List, [], ◌∷◌, eqb, ltb, length, is_some}
use Rattle.packet.specs.Packet.{type_of, cmd1_of, cmd2_of, flags_of, payload_length, payload, right_sum, host_write, host_read, whole, beginning, intermediate, last}
use Rattle.command.specs.Table.{can_read}
use Rattle.command.specs.Transfer.{Transfer, is_open, held, open_for}
use Rattle.command.specs.declared.faults.Codes.{Codes}
use Rattle.command.specs.declared.table.Command.{Command}

-- a complete packet, as far as it is judged
pub record Arrived : Type 0 where
  pub type : ℕ
  pub cmd1 : ℕ
  pub cmd2 : ℕ
  pub flags : ℕ
  pub size : ℕ
  pub right : Bool
  pub body : List ℕ

-- the packet of these bytes
abbrev pub arrived : List ℕ → Arrived
arrived p =
    record {
      type = type_of p;
      cmd1 = cmd1_of p;
      cmd2 = cmd2_of p;
      flags = flags_of p;
      size = payload_length p;
      right = right_sum p;
      body = payload p;
    }

-- flags 02 or 03
abbrev pub continues : ℕ → Bool
continues f = eqb f intermediate || eqb f last

-- First group, every one that holds is reported.

-- 02: type neither 02 nor 04, or command not in the table, or a read of 01 06
unfoldable pub wrong_command : Option Command → ℕ → Bool
wrong_command c type = not (eqb type host_write || eqb type host_read) || not (is_some c) || (eqb type host_read && not (can_read c))

-- 04: payload length over 1,024; or flags 02 or 03 with a transfer open and held bytes plus this payload over 1,024
unfoldable pub too_long : Bool → ℕ → ℕ → ℕ → Bool
too_long opened n flags size = ltb 1024 size || (continues flags && opened && ltb 1024 (n + size))

-- 0B: flags over 03; a type other than 02 with nonzero flags; flags 02 or 03 with no transfer open or one open for another command;
-- flags 00 or 01 while a transfer is open
unfoldable pub wrong_order : Bool → Bool → ℕ → ℕ → Bool
wrong_order opened ours type flags =
    ltb last flags || (not (eqb type host_write) && not (eqb flags whole)) || (continues flags && not ours) || ((eqb flags whole || eqb flags beginning) && opened)

-- the codes of the first group that a packet draws, with a transfer open or none; 09: checksum wrong
unfoldable pub faults : Option Command → Transfer → Arrived → Codes
faults c t p =
    record {
      failure = false;
      command = wrong_command c p.type;
      parameter = false;
      memory = too_long (is_open t) (length (held t)) p.flags p.size;
      device = false;
      busy = false;
      precondition = false;
      object = false;
      checksum = not p.right;
      format = false;
      continuation = wrong_order (is_open t) (open_for c t) p.type p.flags;
      wrong = None;
    }

-- one of the first group holds
unfoldable pub any_fault : Codes → Bool
any_fault k = k.command || k.memory || k.checksum || k.continuation

-- Only with none of these: 0A, then 03, then 07, each alone.

abbrev pub size_fault : Codes
size_fault =
    record {
      failure = false;
      command = false;
      parameter = false;
      memory = false;
      device = false;
      busy = false;
      precondition = false;
      object = false;
      checksum = false;
      format = true;
      continuation = false;
      wrong = None;
    }

-- 03 names the byte that is wrong
abbrev pub value_fault : Option ℕ → Codes
value_fault w =
    record {
      failure = false;
      command = false;
      parameter = true;
      memory = false;
      device = false;
      busy = false;
      precondition = false;
      object = false;
      checksum = false;
      format = false;
      continuation = false;
      wrong = w;
    }

abbrev pub mode_fault : Codes
mode_fault =
    record {
      failure = false;
      command = false;
      parameter = false;
      memory = false;
      device = false;
      busy = false;
      precondition = true;
      object = false;
      checksum = false;
      format = false;
      continuation = false;
      wrong = None;
    }

-- a code if its fault holds, and then others
unfoldable pub list_if : Bool → ℕ → List ℕ → List ℕ
list_if b n l = cond b (n ∷ l) l

-- one byte for each code, ascending, none twice; the byte that is wrong goes beside them, not among them
unfoldable pub codes_of : Codes → List ℕ
codes_of k =
    list_if k.failure 0x01
    (list_if k.command 0x02
    (list_if k.parameter 0x03
    (list_if k.memory 0x04
    (list_if k.device 0x05
    (list_if k.busy 0x06
    (list_if k.precondition 0x07
    (list_if k.object 0x08
    (list_if k.checksum 0x09
    (list_if k.format 0x0A
    (list_if k.continuation 0x0B []))))))))))
