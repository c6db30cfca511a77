-- A judgement as it is handed out (request 5): a record of numbers and one array. It says what a packet draws, and keeps what it was judged under. Every record
-- means something, whatever its numbers are.
use Rattle.std.specs.Prelude.{ℕ, ◌+◌, ◌^◌, ◌/◌, ◌%◌, Bool, true, false, cond, not, ◌&&◌, ◌||◌, List, [], ◌∷◌, ◌++◌, eqb, leb, length, take, drop, Option, None, Some}
use Rattle.packet.specs.Packet.{cmd1_of, cmd2_of, payload}
use Rattle.command.specs.Table.{command_of, layout, size_of, readable}
use Rattle.command.specs.Rules.{allowed, blocked}
use Rattle.command.specs.Data.{split_all, same_list}
use Rattle.command.specs.Value.{value_from}
use Rattle.command.specs.Transfer.{Transfer, is_open, held, open_for}
use Rattle.command.specs.Response.{codes_in, wrong_in}
use Rattle.command.specs.Player.{is_nil}
use Rattle.command.specs.Controller.{transfer_of, held_in, transfer_in, state_of, transfer_in_rule}
use Rattle.command.specs.declared.table.Command.{Command}
use Rattle.command.specs.declared.table.Command.TheVariants.{DisplayMode}
use Rattle.command.specs.declared.faults.Codes.{Codes}
use Rattle.command.specs.declared.judgement.Judgement.{Judgement}
use Rattle.command.specs.declared.judgement.Judgement.TheVariants.{Error, Hold, Write, Read}
use Rattle.command.specs.declared.transfer.TransferState.{TransferState}
use Rattle.command.specs.declared.settings.Settings.{Settings}
use Rattle.command.specs.declared.controller.Registers.{Registers}
use Rattle.command.specs.declared.controller.Controller.{Controller}
use Rattle.command.specs.declared.ruling.Kept.{Kept}
use Rattle.command.specs.declared.ruling.Ruling.{Ruling}
use Rattle.command.specs.declared.ruling.JudgementRecord.{JudgementRecord}

-- What a packet draws, in numbers.

-- the error codes: bit n is code n
abbrev pub bit : Bool → ℕ → ℕ
bit b n = cond b (2 ^ n) 0

unfoldable pub mask_of : Codes → ℕ
mask_of k =
    bit k.failure 0x01
    + bit k.command 0x02
    + bit k.parameter 0x03
    + bit k.memory 0x04
    + bit k.device 0x05
    + bit k.busy 0x06
    + bit k.precondition 0x07
    + bit k.object 0x08
    + bit k.checksum 0x09
    + bit k.format 0x0A
    + bit k.continuation 0x0B

-- and what such a number says
abbrev pub has_bit : ℕ → ℕ → Bool
has_bit m n = eqb (m / 2 ^ n % 2) 1

unfoldable pub codes_told : ℕ → Codes
codes_told m =
    record {
      failure = has_bit m 0x01;
      command = has_bit m 0x02;
      parameter = has_bit m 0x03;
      memory = has_bit m 0x04;
      device = has_bit m 0x05;
      busy = has_bit m 0x06;
      precondition = has_bit m 0x07;
      object = has_bit m 0x08;
      checksum = has_bit m 0x09;
      format = has_bit m 0x0A;
      continuation = has_bit m 0x0B;
      wrong = None;
    }

abbrev pub mask_in : Judgement → ℕ
mask_in (Error k) = mask_of k
mask_in (Hold c) = 0
mask_in (Write v) = 0
mask_in (Read c) = 0

-- how a packet with no fault is accepted: its data are held, its write is carried out, or it is a read
abbrev pub holds : ℕ
holds = 1

abbrev pub writes : ℕ
writes = 2

abbrev pub reads : ℕ
reads = 3

abbrev pub acceptance : Judgement → ℕ
acceptance (Error k) = 0
acceptance (Hold c) = holds
acceptance (Write v) = writes
acceptance (Read c) = reads

-- the byte that code 03 is about: all 16 bits set where there is none
abbrev pub no_wrong : ℕ
no_wrong = 0xFFFF

abbrev pub wrong_told : Option ℕ → ℕ
wrong_told None = no_wrong
wrong_told (Some n) = n

-- the data that it holds: those that were held, and behind them those that the packet brings, where it is accepted
abbrev pub data_for : List ℕ → List ℕ → Judgement → List ℕ
data_for h b (Error k) = h
data_for h b (Hold c) = h ++ b
data_for h b (Write v) = h ++ b
data_for h b (Read c) = h ++ b

-- "so it keeps the mode, open command and held data it was made under"; none is open where `active` is 0
abbrev pub kept_of : Settings → Registers → Kept
kept_of s r = record { held = r.held; mode = s.mode; active = r.active; cmd1 = r.cmd1; cmd2 = r.cmd2 }

-- the numbers of the judgement j of a packet with this CMD1 and CMD2, the data that it holds being so many
abbrev pub ruling_of : Settings → Registers → ℕ → ℕ → ℕ → Judgement → Ruling
ruling_of s r cmd1 cmd2 count j =
    record {
      codes = mask_in j;
      accepts = acceptance j;
      wrong = wrong_told (wrong_in j);
      count = count;
      cmd1 = cmd1;
      cmd2 = cmd2;
      kept = kept_of s r;
    }

-- those of the judgement j that the packet p draws from the controller c
abbrev pub ruling_for : Controller → List ℕ → Judgement → Ruling
ruling_for c p j = ruling_of c.settings c.registers (cmd1_of p) (cmd2_of p) (length (data_for (held (state_of c).transfer) (payload p) j)) j

-- What a record means, from wherever it comes.

-- the transfer that it was made under, its held data being the first bytes of the array
abbrev pub transfer_of_kept : Kept → TransferState
transfer_of_kept k = record { active = k.active; cmd1 = k.cmd1; cmd2 = k.cmd2; held = k.held }

abbrev pub transfer_kept : JudgementRecord → TransferState
transfer_kept j = transfer_of_kept j.ruling.kept

abbrev pub open_kept : JudgementRecord → Transfer
open_kept j = transfer_in (transfer_kept j) j.joined

-- the joined data, and those of them that the packet brought
abbrev pub joined_in : JudgementRecord → List ℕ
joined_in j = take j.ruling.count j.joined

abbrev pub brought_in : JudgementRecord → List ℕ
brought_in j = drop (held_in (transfer_kept j)) (joined_in j)

-- its command, by the packet's CMD1 and CMD2
abbrev pub command_for : JudgementRecord → Option Command
command_for j = command_of j.ruling.cmd1 j.ruling.cmd2

-- the judgement: an error where there is a code, or one that says how its command was accepted; else "error" with no code at all
abbrev pub accepted_as : Option Command → JudgementRecord → Judgement
accepted_as None j = Error (codes_told 0)
accepted_as (Some c) j =
    cond (eqb j.ruling.accepts holds) (Hold c)
    (cond (eqb j.ruling.accepts writes) (Write (value_from c (split_all (layout c) (joined_in j))))
    (cond (eqb j.ruling.accepts reads) (Read c) (Error (codes_told 0))))

unfoldable pub meant : JudgementRecord → Judgement
meant j = cond (eqb j.ruling.codes 0) (accepted_as (command_for j) j) (Error (codes_told j.ruling.codes))

-- Refusal 2, "for a judgement without error codes that no packet draws from a controller that 3 lets pass and that has what it keeps". By the rules, some packet
-- draws it when:

-- the kept mode is allowed, and a transfer is open for a command of the table with at most 1,024 bytes, or none;
abbrev pub kept_in_rule : JudgementRecord → Bool
kept_in_rule j = allowed DisplayMode (j.ruling.kept.mode ∷ []) && transfer_in_rule (transfer_kept j)

-- the held bytes are the first of the joined data, which are at most 1,024;
abbrev pub joined_in_rule : JudgementRecord → Bool
joined_in_rule j = leb (held_in (transfer_kept j)) j.ruling.count && leb j.ruling.count 1024

-- the command is the open one, or none is open
abbrev pub in_order : Command → JudgementRecord → Bool
in_order c j = not (is_open (open_kept j)) || open_for (Some c) (open_kept j)

-- for a write the data have the command's size, are allowed and not blocked in the kept mode
abbrev pub writable : Command → ℕ → List ℕ → Bool
writable c mode d =
    eqb (length d) (size_of c) && allowed c (split_all (layout c) d) && not (blocked c (split_all (layout c) d) mode)

-- a read has none, no transfer is open, and the command can be read
abbrev pub asks_only : Command → JudgementRecord → Bool
asks_only c j = not (is_open (open_kept j)) && readable c && eqb j.ruling.count 0

abbrev pub acceptable : Option Command → JudgementRecord → Bool
acceptable None j = false
acceptable (Some c) j =
    cond (eqb j.ruling.accepts holds) (in_order c j)
    (cond (eqb j.ruling.accepts writes) (in_order c j && writable c j.ruling.kept.mode (joined_in j))
    (cond (eqb j.ruling.accepts reads) (asks_only c j) false))

-- it has no code and names no byte
unfoldable pub drawable : JudgementRecord → Bool
drawable j =
    eqb j.ruling.codes 0
    && eqb j.ruling.wrong no_wrong
    && kept_in_rule j
    && joined_in_rule j
    && acceptable (command_for j) j

-- "a judgement without error codes"
abbrev pub uncoded : JudgementRecord → Bool
uncoded j = is_nil (codes_in (meant j))

unfoldable pub forged : JudgementRecord → Bool
forged j = uncoded j && not (drawable j)

-- Refusal 4, "exactly when a kept item differs".

-- the kept items: the mode, the open command or none, and the held data with their number. "None open" differs from "open with nothing held".
pub record Items : Type 0 where
  pub mode : ℕ
  pub command : Option (ℕ × ℕ)
  pub count : ℕ
  pub held : List ℕ

abbrev pub items_in : ℕ → TransferState → List ℕ → Items
items_in mode t buffer =
    record {
      mode = mode;
      command = cond (eqb t.active 0) None (Some (t.cmd1, t.cmd2));
      count = held_in t;
      held = take (held_in t) buffer;
    }

-- those of a controller
abbrev pub items_of : Controller → Items
items_of c = items_in c.settings.mode (transfer_of c.registers) c.buffer

-- and those that a judgement keeps
abbrev pub items_kept : JudgementRecord → Items
items_kept j = items_in j.ruling.kept.mode (transfer_kept j) j.joined

abbrev pub same_command : Option (ℕ × ℕ) → Option (ℕ × ℕ) → Bool
same_command None None = true
same_command None (Some d) = false
same_command (Some c) None = false
same_command (Some c) (Some d) = eqb c.0 d.0 && eqb c.1 d.1

unfoldable pub same_items : Items → Items → Bool
same_items a b = eqb a.mode b.mode && same_command a.command b.command && eqb a.count b.count && same_list a.held b.held
