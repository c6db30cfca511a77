-- How a complete packet is judged.
use Rattle.std.specs.Prelude.{Option, None, Some, ℕ, Bool, cond, ◌||◌, List, ◌++◌, eqb, length}
use Rattle.packet.specs.Packet.{host_read, whole, last}
use Rattle.command.specs.Table.{command_of, layout, size_of}
use Rattle.command.specs.Rules.{allowed, wrong_byte, blocked}
use Rattle.command.specs.Data.{split_all}
use Rattle.command.specs.Value.{value_from}
use Rattle.command.specs.Transfer.{Transfer, held}
use Rattle.command.specs.Faults.{Arrived, faults, any_fault, size_fault, value_fault, mode_fault}
use Rattle.command.specs.declared.table.Command.{Command}
use Rattle.command.specs.declared.judgement.Judgement.{Judgement}
use Rattle.command.specs.declared.judgement.Judgement.TheVariants.{Error, Hold, Write, Read}

-- a write of these data: 0A if they haven't the command's size, then 03 if a value isn't allowed, with its byte, then 07 for run 1 outside mode 4
unfoldable pub judge_write : Command → ℕ → List ℕ → Judgement
judge_write c mode d =
    cond (eqb (length d) (size_of c))
    (cond (allowed c (split_all (layout c) d))
    (cond (blocked c (split_all (layout c) d) mode) (Error mode_fault) (Write (value_from c (split_all (layout c) d))))
    (Error (value_fault (wrong_byte c (split_all (layout c) d)))))
    (Error size_fault)

-- a read has no request data
unfoldable pub judge_read : Command → ℕ → Judgement
judge_read c n = cond (eqb n 0) (Read c) (Error size_fault)

-- flags 00 or 03
abbrev pub completes : ℕ → Bool
completes f = eqb f whole || eqb f last

-- only with none of the first group, and only for flags 00 or 03, d being the joined data; else they are held
unfoldable pub judge_data : Command → ℕ → ℕ → ℕ → List ℕ → Judgement
judge_data c mode type flags d =
    cond (completes flags) (cond (eqb type host_read) (judge_read c (length d)) (judge_write c mode d)) (Hold c)

-- a packet of this command: a command not in the table is a fault of the first group by itself
unfoldable pub judge_as : Option Command → ℕ → Transfer → Arrived → Judgement
judge_as None mode t p = Error (faults None t p)
judge_as (Some c) mode t p =
    cond (any_fault (faults (Some c) t p)) (Error (faults (Some c) t p)) (judge_data c mode p.type p.flags (held t ++ p.body))

-- how a complete packet is judged in a display mode, with a transfer open or none
unfoldable pub judge : ℕ → Transfer → Arrived → Judgement
judge mode t p = judge_as (command_of p.cmd1 p.cmd2) mode t p
