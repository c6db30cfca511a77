-- A command with its values, as the code has it, and its data: what a write carries and a read answers, "in the same layout".
use Rattle.std.specs.Prelude.{ℕ, List, [], ◌∷◌, get_or}
use Rattle.command.specs.Data.{join_all}
use Rattle.command.specs.Fields.{current_values, current_from, colour_values, colour_from, setting_values, setting_from, input_values, input_from, video_values, video_from, sequence_values, sequence_from}
use Rattle.command.specs.Table.{layout}
use Rattle.command.specs.Settings.{values_of}
use Rattle.command.specs.declared.settings.Settings.{Settings}
use Rattle.command.specs.declared.table.Command.{Command}
use Rattle.command.specs.declared.table.Command.TheVariants.{DisplayMode, TestPattern, LedCurrent, StaticColour, DisplaySetting, VideoInput, VideoMode, PatternSequence, SequenceRun}
use Rattle.command.specs.declared.value.Value.{Value}
use Rattle.command.specs.declared.value.Value.TheVariants as value

-- its command
abbrev pub command_in : Value → Command
command_in (value.DisplayMode m) = DisplayMode
command_in (value.TestPattern p) = TestPattern
command_in (value.LedCurrent q) = LedCurrent
command_in (value.StaticColour q) = StaticColour
command_in (value.DisplaySetting q) = DisplaySetting
command_in (value.VideoInput q) = VideoInput
command_in (value.VideoMode q) = VideoMode
command_in (value.PatternSequence q) = PatternSequence
command_in (value.SequenceRun r) = SequenceRun

-- its values, in layout order
abbrev pub values_in : Value → List ℕ
values_in (value.DisplayMode m) = m ∷ []
values_in (value.TestPattern p) = p ∷ []
values_in (value.LedCurrent q) = current_values q
values_in (value.StaticColour q) = colour_values q
values_in (value.DisplaySetting q) = setting_values q
values_in (value.VideoInput q) = input_values q
values_in (value.VideoMode q) = video_values q
values_in (value.PatternSequence q) = sequence_values q
values_in (value.SequenceRun r) = r ∷ []

-- the command with these values
abbrev pub value_from : Command → List ℕ → Value
value_from DisplayMode v = value.DisplayMode (get_or v 0 0)
value_from TestPattern v = value.TestPattern (get_or v 0 0)
value_from LedCurrent v = value.LedCurrent (current_from v)
value_from StaticColour v = value.StaticColour (colour_from v)
value_from DisplaySetting v = value.DisplaySetting (setting_from v)
value_from VideoInput v = value.VideoInput (input_from v)
value_from VideoMode v = value.VideoMode (video_from v)
value_from PatternSequence v = value.PatternSequence (sequence_from v)
value_from SequenceRun v = value.SequenceRun (get_or v 0 0)

-- the widths of the values in the code's types, in bytes: those of the data, but for four fields that are wider there
abbrev pub widths : Command → List ℕ
widths DisplayMode = 1 ∷ []
widths TestPattern = 1 ∷ []
widths LedCurrent = 2 ∷ 2 ∷ 2 ∷ []
widths StaticColour = 1 ∷ 1 ∷ 1 ∷ 1 ∷ []
widths DisplaySetting = 1 ∷ 1 ∷ 2 ∷ []
widths VideoInput = 2 ∷ 2 ∷ 2 ∷ 2 ∷ 2 ∷ 2 ∷ []
widths VideoMode = 1 ∷ 1 ∷ 2 ∷ []
widths PatternSequence = 1 ∷ 1 ∷ 1 ∷ 1 ∷ 4 ∷ 4 ∷ 4 ∷ 4 ∷ []
widths SequenceRun = 4 ∷ []

-- the data of a write
unfoldable pub data_in : Value → List ℕ
data_in v = join_all (layout (command_in v)) (values_in v)

-- the command's data, as a read answers it and a write carries it
unfoldable pub data_of : Command → Settings → List ℕ
data_of c s = join_all (layout c) (values_of c s)
