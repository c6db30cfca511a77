-- The settings, the values of every command in the table: the column "factory", and what a write stores (document 01, "Playing bytes from given settings").
use Rattle.std.specs.Prelude.{ℕ, cond, not, ◌&&◌, List, [], ◌∷◌, eqb, get_or}
use Rattle.command.specs.Fields.{current_values, current_from, colour_values, colour_from, setting_values, setting_from, input_values, input_from, video_values, video_from, sequence_values, sequence_from}
use Rattle.command.specs.Table.{same}
use Rattle.command.specs.declared.table.Command.{Command}
use Rattle.command.specs.declared.table.Command.TheVariants.{DisplayMode, TestPattern, LedCurrent, StaticColour, DisplaySetting, VideoInput, VideoMode, PatternSequence, SequenceRun}
use Rattle.command.specs.declared.settings.Settings.{Settings}

-- the values of a command, in layout order
abbrev pub values_of : Command → Settings → List ℕ
values_of DisplayMode s = s.mode ∷ []
values_of TestPattern s = s.pattern ∷ []
values_of LedCurrent s = current_values s.current
values_of StaticColour s = colour_values s.colour
values_of DisplaySetting s = setting_values s.setting
values_of VideoInput s = input_values s.input
values_of VideoMode s = video_values s.video
values_of PatternSequence s = sequence_values s.sequence
values_of SequenceRun s = s.run ∷ []

-- the settings that have these values
abbrev pub settings_of : (Command → List ℕ) → Settings
settings_of f =
    record {
      mode = get_or (f DisplayMode) 0 0;
      pattern = get_or (f TestPattern) 0 0;
      current = current_from (f LedCurrent);
      colour = colour_from (f StaticColour);
      setting = setting_from (f DisplaySetting);
      input = input_from (f VideoInput);
      video = video_from (f VideoMode);
      sequence = sequence_from (f PatternSequence);
      run = get_or (f SequenceRun) 0 0;
    }

-- The column "factory".
abbrev pub factory_values : Command → List ℕ
factory_values DisplayMode = 0 ∷ []
factory_values TestPattern = 0 ∷ []
factory_values LedCurrent = 274 ∷ 274 ∷ 274 ∷ []
factory_values StaticColour = 0 ∷ 0 ∷ 0 ∷ 0 ∷ []
factory_values DisplaySetting = 0 ∷ 1 ∷ 0 ∷ []
factory_values VideoInput = 608 ∷ 684 ∷ 0 ∷ 0 ∷ 608 ∷ 684 ∷ []
factory_values VideoMode = 60 ∷ 8 ∷ 1 ∷ []
factory_values PatternSequence = 1 ∷ 1 ∷ 0 ∷ 0 ∷ 0 ∷ 0 ∷ 0 ∷ 0 ∷ []
factory_values SequenceRun = 0 ∷ []

-- the factory values
unfoldable pub factory : Settings
factory = settings_of factory_values

-- the values of command d after c was written with v. "Writing a mode other than 4 stops the sequence; writing 4 changes nothing else."
unfoldable pub values_after : Command → List ℕ → Settings → Command → List ℕ
values_after c v s d =
    cond (same d c) v (cond (same c DisplayMode && same d SequenceRun && not (eqb (get_or v 0 0) 4)) (0 ∷ []) (values_of d s))

-- the settings after c was written with v
unfoldable pub store : Command → List ℕ → Settings → Settings
store c v s = settings_of (values_after c v s)
