-- The open transfer of a head.
use Rattle.std.specs.Prelude.{Option, None, Some, ℕ, Bool, true, false, List, []}
use Rattle.command.specs.Table.{same}
use Rattle.command.specs.declared.table.Command.{Command}

-- one open transfer, its command and held data, or none
pub data Transfer : Type 0 where
  Closed : Transfer
  Opened : Command → List ℕ → Transfer

-- a transfer is open; and its data
abbrev pub is_open : Transfer → Bool
is_open Closed = false
is_open (Opened c d) = true

abbrev pub held : Transfer → List ℕ
held Closed = []
held (Opened c d) = d

-- a transfer is open for this command
abbrev pub open_for : Option Command → Transfer → Bool
open_for None t = false
open_for (Some c) Closed = false
open_for (Some c) (Opened d h) = same c d
