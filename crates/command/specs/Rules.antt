-- The column "allowed" of the table of commands, field by field: which values are allowed, and which byte is wrong. And when the settings keep the rules, as
-- refusal 3 asks.
use Rattle.std.specs.Prelude.{ℕ, ◌+◌, ◌/◌, Bool, true, false, cond, not, ◌&&◌, ◌||◌, List, [], ◌∷◌, eqb, leb, get_or, Option, None, Some}
use Rattle.command.specs.Table.{table, same}
use Rattle.command.specs.Fields.{current_from, colour_from, setting_from, input_from, video_from, sequence_from}
use Rattle.command.specs.Settings.{values_of}
use Rattle.command.specs.declared.table.Command.{Command}
use Rattle.command.specs.declared.table.Command.TheVariants as command
use Rattle.command.specs.declared.settings.LedCurrent.{LedCurrent}
use Rattle.command.specs.declared.settings.StaticColour.{StaticColour}
use Rattle.command.specs.declared.settings.DisplaySetting.{DisplaySetting}
use Rattle.command.specs.declared.settings.VideoInput.{VideoInput}
use Rattle.command.specs.declared.settings.VideoMode.{VideoMode}
use Rattle.command.specs.declared.settings.PatternSequence.{PatternSequence}
use Rattle.command.specs.declared.settings.Settings.{Settings}

-- n is one of these
abbrev pub one_of : ℕ → List ℕ → Bool
one_of n [] = false
one_of n (x ∷ xs) = eqb n x || one_of n xs

-- from a to b
abbrev pub within : ℕ → ℕ → ℕ → Bool
within a b n = leb a n && leb n b

-- the listed pairs, X × Y
abbrev pub pairs : List (ℕ × ℕ)
pairs =
    (240, 320) ∷ (320, 240) ∷ (240, 427) ∷ (427, 240) ∷ (430, 640) ∷ (640, 430) ∷ (480, 640) ∷ (640, 480) ∷ (480, 720) ∷ (720, 480) ∷ (480, 752) ∷ (752, 480)
    ∷ (480, 800) ∷ (800, 480) ∷ (480, 852) ∷ (852, 480) ∷ (480, 853) ∷ (853, 480) ∷ (480, 854) ∷ (854, 480) ∷ (864, 480) ∷ (720, 240) ∷ (720, 288) ∷ (360, 640)
    ∷ (640, 360) ∷ (608, 684) ∷ []

-- x × y is one of these pairs
abbrev pub listed : ℕ → ℕ → List (ℕ × ℕ) → Bool
listed x y [] = false
listed x y (p ∷ ps) = eqb x p.0 && eqb y p.1 || listed x y ps

-- The most patterns of a depth from 1 to 8: "at most 1 plus the whole part of 95/depth" (request 2).
abbrev pub most_patterns : ℕ → ℕ
most_patterns depth = 1 + 95 / depth

-- A field of a command's data: the first of its bytes, counted from 0, and whether its value is allowed.
pub record Field : Type 0 where
  pub byte : ℕ
  pub valid : Bool

abbrev pub field : ℕ → Bool → Field
field n b = record { byte = n; valid = b }

-- any value is allowed
abbrev pub any_value : ℕ → Bool
any_value n = true

-- The column "allowed", a command after the other: its fields in layout order, each with its first byte and its rule. "A rule between two fields counts against
-- the later one" (request 4), so that it stands there.

-- 01 01: 0, 1, 2, 4
abbrev pub mode_fields : ℕ → List Field
mode_fields mode = field 0 (one_of mode (0 ∷ 1 ∷ 2 ∷ 4 ∷ [])) ∷ []

-- 01 03: 0 to 13
abbrev pub pattern_fields : ℕ → List Field
pattern_fields pattern = field 0 (leb pattern 13) ∷ []

-- 01 04: 0 to 1024 each
abbrev pub current_fields : LedCurrent → List Field
current_fields q =
    field 0 (leb q.red.0 1024)
    ∷ field 2 (leb q.green.0 1024)
    ∷ field 4 (leb q.blue.0 1024)
    ∷ []

-- 01 06: last byte 0
abbrev pub colour_fields : StaticColour → List Field
colour_fields q =
    field 0 (any_value q.blue)
    ∷ field 1 (any_value q.green)
    ∷ field 2 (any_value q.red)
    ∷ field 3 (eqb q.last 0)
    ∷ []

-- 01 07: 0 or 1 each
abbrev pub setting_fields : DisplaySetting → List Field
setting_fields q =
    field 0 (leb q.long 1)
    ∷ field 1 (leb q.short 1)
    ∷ field 2 (leb q.rotate 1)
    ∷ []

-- 02 00: X and Y a listed pair; others any
abbrev pub input_fields : VideoInput → List Field
input_fields q =
    field 0 (any_value q.x)
    ∷ field 2 (listed q.x q.y pairs)
    ∷ field 4 (any_value q.pixel)
    ∷ field 6 (any_value q.line)
    ∷ field 8 (any_value q.width)
    ∷ field 10 (any_value q.height)
    ∷ []

-- 02 01: 15, 30, 40, 50 or 60; 1 to 8; 1 to 4
abbrev pub video_fields : VideoMode → List Field
video_fields q =
    field 0 (one_of q.rate (15 ∷ 30 ∷ 40 ∷ 50 ∷ 60 ∷ []))
    ∷ field 1 (within 1 8 q.depth)
    ∷ field 2 (within 1 4 q.led)
    ∷ []

-- 04 00: depth 1 to 8; count 1 to the most of that depth; inversion 0 to 2, nonzero only at depth 1; trigger 0 to 6, with 6 only at depth 1; delay, period and
-- exposure any value; LED 0 to 2
abbrev pub sequence_fields : PatternSequence → List Field
sequence_fields q =
    field 0 (within 1 8 q.depth)
    ∷ field 1 (within 1 (most_patterns q.depth) q.count)
    ∷ field 2 (leb q.inversion 2 && (eqb q.inversion 0 || eqb q.depth 1))
    ∷ field 3 (leb q.trigger 6 && (not (eqb q.trigger 6) || eqb q.depth 1))
    ∷ field 4 (any_value q.delay.0)
    ∷ field 8 (any_value q.period.0)
    ∷ field 12 (any_value q.exposure.0)
    ∷ field 16 (leb q.led 2)
    ∷ []

-- 04 02: 0 or 1
abbrev pub run_fields : ℕ → List Field
run_fields run = field 0 (leb run 1) ∷ []

-- the fields of a command that has these values
abbrev pub fields_of : Command → List ℕ → List Field
fields_of command.DisplayMode v = mode_fields (get_or v 0 0)
fields_of command.TestPattern v = pattern_fields (get_or v 0 0)
fields_of command.LedCurrent v = current_fields (current_from v)
fields_of command.StaticColour v = colour_fields (colour_from v)
fields_of command.DisplaySetting v = setting_fields (setting_from v)
fields_of command.VideoInput v = input_fields (input_from v)
fields_of command.VideoMode v = video_fields (video_from v)
fields_of command.PatternSequence v = sequence_fields (sequence_from v)
fields_of command.SequenceRun v = run_fields (get_or v 0 0)

-- each of these fields is allowed
abbrev pub all_valid : List Field → Bool
all_valid [] = true
all_valid (f ∷ fs) = f.valid && all_valid fs

-- the first byte of the first of them that is not
abbrev pub first_wrong : List Field → Option ℕ
first_wrong [] = None
first_wrong (f ∷ fs) = cond f.valid (first_wrong fs) (Some f.byte)

-- the values of a command are allowed
abbrev pub allowed : Command → List ℕ → Bool
allowed c v = all_valid (fields_of c v)

-- "the first data byte, counted from 0, of the first field not allowed, in layout order" (request 4), or none
abbrev pub wrong_byte : Command → List ℕ → Option ℕ
wrong_byte c v = first_wrong (fields_of c v)

-- "Run 1 needs display mode 4. Run 0 is allowed always." The command c with the values v is blocked in this mode.
unfoldable pub blocked : Command → List ℕ → ℕ → Bool
blocked c v mode = same c command.SequenceRun && eqb (get_or v 0 0) 1 && not (eqb mode 4)

-- every setting of these commands is allowed
unfoldable pub all_allowed : Settings → List Command → Bool
all_allowed s [] = true
all_allowed s (c ∷ cs) = allowed c (values_of c s) && all_allowed s cs

-- the settings keep the rules: none of "a setting not allowed, run 1 outside mode 4"
unfoldable pub settings_in_rule : Settings → Bool
settings_in_rule s = all_allowed s table && not (blocked command.SequenceRun (values_of command.SequenceRun s) s.mode)
