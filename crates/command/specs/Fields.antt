-- The parts of the settings as lists of numbers, there and back: the fields of a command's data in the order of the column "data".
use Rattle.std.specs.Prelude.{ℕ, List, [], ◌∷◌, get_or}
use Rattle.command.specs.declared.settings.LedCurrent.{LedCurrent}
use Rattle.command.specs.declared.settings.StaticColour.{StaticColour}
use Rattle.command.specs.declared.settings.DisplaySetting.{DisplaySetting}
use Rattle.command.specs.declared.settings.VideoInput.{VideoInput}
use Rattle.command.specs.declared.settings.VideoMode.{VideoMode}
use Rattle.command.specs.declared.settings.PatternSequence.{PatternSequence}

-- red, green, blue
abbrev pub current_values : LedCurrent → List ℕ
current_values q = q.red.0 ∷ q.green.0 ∷ q.blue.0 ∷ []

abbrev pub current_from : List ℕ → LedCurrent
current_from v = record { red = record { 0 = get_or v 0 0 }; green = record { 0 = get_or v 1 0 }; blue = record { 0 = get_or v 2 0 } }

-- blue, green, red, 00
abbrev pub colour_values : StaticColour → List ℕ
colour_values q = q.blue ∷ q.green ∷ q.red ∷ q.last ∷ []

abbrev pub colour_from : List ℕ → StaticColour
colour_from v = record { blue = get_or v 0 0; green = get_or v 1 0; red = get_or v 2 0; last = get_or v 3 0 }

-- long flip, short flip, rotate
abbrev pub setting_values : DisplaySetting → List ℕ
setting_values q = q.long ∷ q.short ∷ q.rotate ∷ []

abbrev pub setting_from : List ℕ → DisplaySetting
setting_from v = record { long = get_or v 0 0; short = get_or v 1 0; rotate = get_or v 2 0 }

-- X, Y, first pixel, first line, width, height
abbrev pub input_values : VideoInput → List ℕ
input_values q = q.x ∷ q.y ∷ q.pixel ∷ q.line ∷ q.width ∷ q.height ∷ []

abbrev pub input_from : List ℕ → VideoInput
input_from v =
    record { x = get_or v 0 0; y = get_or v 1 0; pixel = get_or v 2 0; line = get_or v 3 0; width = get_or v 4 0; height = get_or v 5 0 }

-- frame rate, depth, LED
abbrev pub video_values : VideoMode → List ℕ
video_values q = q.rate ∷ q.depth ∷ q.led ∷ []

abbrev pub video_from : List ℕ → VideoMode
video_from v = record { rate = get_or v 0 0; depth = get_or v 1 0; led = get_or v 2 0 }

-- depth, count, inversion, trigger, delay, period, exposure, LED
abbrev pub sequence_values : PatternSequence → List ℕ
sequence_values q =
    q.depth ∷ q.count ∷ q.inversion ∷ q.trigger ∷ q.delay.0 ∷ q.period.0 ∷ q.exposure.0 ∷ q.led ∷ []

abbrev pub sequence_from : List ℕ → PatternSequence
sequence_from v =
    record {
      depth = get_or v 0 0;
      count = get_or v 1 0;
      inversion = get_or v 2 0;
      trigger = get_or v 3 0;
      delay = record { 0 = get_or v 4 0 };
      period = record { 0 = get_or v 5 0 };
      exposure = record { 0 = get_or v 6 0 };
      led = get_or v 7 0;
    }
