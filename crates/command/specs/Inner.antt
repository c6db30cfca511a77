-- Definitions that exist for the code or a proof alone; nothing here has to be believed. The comment of each says what it stands for, and names the law that ties it to the definition of the paper's words.
use Rattle.std.specs.Prelude.{ℕ, zero, suc, ◌+◌, ◌*◌, Bool, true, false, cond, not, ◌&&◌, ◌||◌, List, [], ◌∷◌, eqb, leb, length, take, get_or, Option, None, Some}
use Rattle.command.specs.Table.{has_code, layout, size_of, readable}
use Rattle.command.specs.Rules.{allowed}
use Rattle.command.specs.Faults.{wrong_command, too_long, wrong_order}
use Rattle.command.specs.Data.{split_all}
use Rattle.command.specs.Value.{value_from}
use Rattle.command.specs.Player.{State}
use Rattle.command.specs.Judgement.{judge_write}
use Rattle.command.specs.Controller.{held_in, transfer_in, receiver_in, transfer_in_rule}
use Rattle.command.specs.Ruling.{acceptance, holds, writes, reads, no_wrong, transfer_of_kept}
use Rattle.command.specs.Endpoint.{After, answered}
use Rattle.command.specs.declared.table.Command.{Command}
use Rattle.command.specs.declared.table.Command.TheVariants.{DisplayMode}
use Rattle.command.specs.declared.faults.Codes.{Codes}
use Rattle.command.specs.declared.settings.Settings.{Settings}
use Rattle.command.specs.declared.transfer.TransferState.{TransferState}
use Rattle.command.specs.declared.controller.Controller.{Controller}
use Rattle.command.specs.declared.controller.Registers.{Registers}
use Rattle.command.specs.declared.judgement.Judgement.{Judgement}
use Rattle.command.specs.declared.judgement.Judgement.TheVariants.{Hold, Read}
use Rattle.command.specs.declared.ruling.Ruling.{Ruling}
use Rattle.command.specs.declared.ruling.JudgementRecord.{JudgementRecord}
use Rattle.command.specs.declared.value.Value.{Value}

-- Data by their layout.

-- the size of data of these widths: size_of of a command's layout (law size_layout of data/Laws)
abbrev pub total : List ℕ → ℕ
total [] = 0
total (w ∷ ws) = w + total ws

-- the number in the w bytes of d from a place on: value_of of them (law number_at_lem of data/Laws)
abbrev pub number_at : ℕ → List ℕ → ℕ → ℕ
number_at zero d at = 0
number_at (suc w) d at = get_or d at 0 + 256 * number_at w d (at + 1)

-- the fields of d from a place on, by their widths: split_all where the place is 0 (law split_places of data/Laws)
abbrev pub split_from : ℕ → List ℕ → List ℕ → List ℕ
split_from at [] d = []
split_from at (w ∷ ws) d = number_at w d at ∷ split_from (at + w) ws d

-- the values that stand in data of the command's size: what judge_write looks at (law write_parsed of judgement/Laws)
unfoldable pub parsed : Command → List ℕ → Option Value
parsed c d = cond (eqb (length d) (size_of c)) (Some (value_from c (split_all (layout c) d))) None

-- The open transfer by the controller's numbers: those of specs/Transfer by the laws open_is and open_for_is of transfer/Laws.

abbrev pub is_open_in : TransferState → Bool
is_open_in t = not (eqb t.active 0)

-- a transfer is open for this command, by its bytes
abbrev pub open_for_in : Option Command → TransferState → Bool
open_for_in None t = false
open_for_in (Some c) t = is_open_in t && has_code t.cmd1 t.cmd2 c

-- the codes of the first group by these numbers: `faults` of a transfer and a packet (law faults_are of transfer/Laws)
unfoldable pub faults_of : Option Command → Bool → Bool → ℕ → ℕ → ℕ → ℕ → Bool → Codes
faults_of c opened ours n type flags size right =
    record {
      failure = false;
      command = wrong_command c type;
      parameter = false;
      memory = too_long opened n flags size;
      device = false;
      busy = false;
      precondition = false;
      object = false;
      checksum = not right;
      format = false;
      continuation = wrong_order opened ours type flags;
      wrong = None;
    }

-- the state of the head by its settings, its transfer's numbers and the array of the transfer's data: state_of of a controller that has these, by computing
abbrev pub state_in : Settings → TransferState → List ℕ → State
state_in s t buffer = record { settings = s; transfer = transfer_in t buffer }

-- the registers with another transfer: registers_of of it, by computing
abbrev pub with_transfer : Registers → TransferState → Registers
with_transfer r t =
    record {
      received = r.received;
      held = t.held;
      active = t.active;
      cmd1 = t.cmd1;
      cmd2 = t.cmd2;
      header = r.header;
      sum = r.sum;
    }

-- what a call answers and leaves once its packet is complete in the receiver, the checksum right or not and n bytes taken (law answers of controller/Controller/receive)
abbrev pub settled : Controller → Bool → ℕ → List ℕ → After
settled c right n out = answered c (record { taken = n; complete = true; right = right; receiver = receiver_in c }) out

-- one of the codes holds: there is one in their list (law any_code_lem of faults/Laws)
abbrev pub any_code : Codes → Bool
any_code k =
    k.failure || k.command || k.parameter || k.memory || k.device || k.busy || k.precondition || k.object || k.checksum || k.format || k.continuation

-- A judgement as it is handed out.

-- the record of these parts
abbrev pub record_of : Ruling → List ℕ → JudgementRecord
record_of n d = record { ruling = n; joined = d }

-- the held bytes of a transfer: those of `transfer_in` (law held_is of transfer/Laws)
abbrev pub held_by : TransferState → List ℕ → List ℕ
held_by t buffer = take (held_in t) buffer

-- the tests of `drawable` that look at the numbers alone (law drawable_is of carrying/Laws)
abbrev pub ruling_in_rule : Ruling → Bool
ruling_in_rule n =
    eqb n.wrong no_wrong
    && allowed DisplayMode (n.kept.mode ∷ [])
    && transfer_in_rule (transfer_of_kept n.kept)
    && leb (held_in (transfer_of_kept n.kept)) n.count
    && leb n.count 1024

-- a judgement that is a write, and no other
abbrev pub if_write : Judgement → Option Judgement
if_write j = cond (eqb (acceptance j) writes) (Some j) None

-- what a record without codes means for a command, its joined data being d, unless no packet draws it: `acceptable` and `accepted_as` (law accepted_is of carrying/Laws)
abbrev pub accepted_by : Command → Ruling → List ℕ → Option Judgement
accepted_by c n d =
    let t = transfer_of_kept n.kept in
    let order = eqb t.active 0 || open_for_in (Some c) t in
    cond (eqb n.accepts holds && order) (Some (Hold c))
    (cond (eqb n.accepts writes && order) (if_write (judge_write c n.kept.mode d))
    (cond (eqb n.accepts reads && eqb t.active 0 && readable c && eqb n.count 0) (Some (Read c)) None))

-- both are open for the same command with as many bytes held, or neither is open: the numbers of `same_items` (law same_numbers_lem of carrying/Laws)
abbrev pub same_numbers : TransferState → TransferState → Bool
same_numbers t k =
    cond (eqb t.active 0 || eqb k.active 0) (eqb t.active 0 && eqb k.active 0)
    (eqb t.cmd1 k.cmd1 && eqb t.cmd2 k.cmd2 && eqb t.held k.held)
