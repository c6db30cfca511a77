-- The table of commands: their bytes and the layout of their data (document 01, "Commands and factory values").
use Rattle.std.specs.Prelude.{Option, None, Some, ℕ, Bool, false, cond, not, ◌&&◌, List, [], ◌∷◌, eqb}
use Rattle.packet.specs.Packet.{sum}
use Rattle.command.specs.declared.table.Command.{Command}
use Rattle.command.specs.declared.table.Command.TheVariants.{DisplayMode, TestPattern, LedCurrent, StaticColour, DisplaySetting, VideoInput, VideoMode, PatternSequence, SequenceRun}

-- the nine commands in table order
abbrev pub table : List Command
table =
    DisplayMode ∷ TestPattern ∷ LedCurrent ∷ StaticColour ∷ DisplaySetting ∷ VideoInput ∷ VideoMode ∷ PatternSequence ∷ SequenceRun ∷ []

-- The column "command": CMD1 and CMD2.
abbrev pub cmd1_for : Command → ℕ
cmd1_for DisplayMode = 0x01
cmd1_for TestPattern = 0x01
cmd1_for LedCurrent = 0x01
cmd1_for StaticColour = 0x01
cmd1_for DisplaySetting = 0x01
cmd1_for VideoInput = 0x02
cmd1_for VideoMode = 0x02
cmd1_for PatternSequence = 0x04
cmd1_for SequenceRun = 0x04

abbrev pub cmd2_for : Command → ℕ
cmd2_for DisplayMode = 0x01
cmd2_for TestPattern = 0x03
cmd2_for LedCurrent = 0x04
cmd2_for StaticColour = 0x06
cmd2_for DisplaySetting = 0x07
cmd2_for VideoInput = 0x00
cmd2_for VideoMode = 0x01
cmd2_for PatternSequence = 0x00
cmd2_for SequenceRun = 0x02

-- CMD1 and CMD2 are this command's
abbrev pub has_code : ℕ → ℕ → Command → Bool
has_code cmd1 cmd2 c = eqb cmd1 (cmd1_for c) && eqb cmd2 (cmd2_for c)

-- the first of the commands that has these bytes
unfoldable pub find : ℕ → ℕ → List Command → Option Command
find cmd1 cmd2 [] = None
find cmd1 cmd2 (c ∷ cs) = let later = find cmd1 cmd2 cs in cond (has_code cmd1 cmd2 c) (Some c) later

-- the command of these bytes, if it is in the table
unfoldable pub command_of : ℕ → ℕ → Option Command
command_of cmd1 cmd2 = find cmd1 cmd2 table

-- the same command
abbrev pub same : Command → Command → Bool
same a b = has_code (cmd1_for a) (cmd2_for a) b

-- The column "data": the widths of the fields of a command's data, in bytes. A command or a field more is a line or a number more here.
abbrev pub layout : Command → List ℕ
layout DisplayMode = 1 ∷ []
layout TestPattern = 1 ∷ []
layout LedCurrent = 2 ∷ 2 ∷ 2 ∷ []
layout StaticColour = 1 ∷ 1 ∷ 1 ∷ 1 ∷ []
layout DisplaySetting = 1 ∷ 1 ∷ 1 ∷ []
layout VideoInput = 2 ∷ 2 ∷ 2 ∷ 2 ∷ 2 ∷ 2 ∷ []
layout VideoMode = 1 ∷ 1 ∷ 1 ∷ []
layout PatternSequence = 1 ∷ 1 ∷ 1 ∷ 1 ∷ 4 ∷ 4 ∷ 4 ∷ 1 ∷ []
layout SequenceRun = 1 ∷ []

-- the size of its data
unfoldable pub size_of : Command → ℕ
size_of c = sum (layout c)

-- all but 01 06 can be read
abbrev pub readable : Command → Bool
readable c = not (same c StaticColour)

-- it is in the table and can be read
abbrev pub can_read : Option Command → Bool
can_read None = false
can_read (Some c) = readable c
