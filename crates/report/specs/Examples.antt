-- Examples about the rules: document 01's starred packets and reports, each row of the table at its limits, request 2's counts, each fault alone, and request 4's bytes and places. Packets go to a fresh factory head.
use Rattle.std.specs.Prelude.{ℕ, Bool, true, false, not, ◌&&◌, List, [], ◌∷◌, ◌++◌, eqb, replicate, Option, None, Some}
use Prim.Native.String.{String}
use Rattle.command.specs.Rules.{allowed, wrong_byte}
use Rattle.command.specs.Settings.{values_of, factory}
use Rattle.command.specs.declared.table.Command.{Command}
use Rattle.command.specs.declared.table.Command.TheVariants.{DisplayMode, TestPattern, LedCurrent, StaticColour, DisplaySetting, VideoInput, VideoMode, PatternSequence, SequenceRun}
use Rattle.command.specs.Response.{codes_in, wrong_in}
use Rattle.command.specs.Player.{State, from, judged, next, answers_to, play, offence}
use Rattle.command.specs.Data.{same_list}
use Rattle.report.specs.Report.{verdict}
use Rattle.report.specs.Line.{text_of, line_of}

pub data Example : Type 0 where
  -- bytes, and all that the head answers
  Answers : List ℕ → List ℕ → Example
  -- bytes, and a command's values after them
  Leaves : List ℕ → Command → List ℕ → Example
  -- packets, and the codes that the last of them draws; none where it is acknowledged or read
  Draws : List (List ℕ) → List ℕ → Example
  -- packets, and the byte that is wrong in the last of them, or none
  Reports : List (List ℕ) → Option ℕ → Example
  -- bytes, and where they offend; none where each packet is acknowledged with no packet or transfer left half sent
  Offends : List ℕ → Option ℕ → Example
  -- a command's values that are allowed, and some that are not
  Allows : Command → List ℕ → Example
  Forbids : Command → List ℕ → Example
  -- some that are not, and the byte that is wrong
  Names : Command → List ℕ → ℕ → Example
  -- a report, and the line that the checking program prints
  Prints : List ℕ → String → Example

-- what is seen of the last of some packets, and of the state that it comes to; where there is no packet, what stands for it
unfoldable pub last_seen : {A : Type 0} → (State → List ℕ → A) → A → State → List (List ℕ) → A
last_seen see nothing a [] = nothing
last_seen see nothing a (p ∷ []) = see a p
last_seen see nothing a (p ∷ q ∷ ps) = last_seen see nothing (next a p) (q ∷ ps)

-- the same place, or none
abbrev pub same_place : Option ℕ → Option ℕ → Bool
same_place None None = true
same_place None (Some n) = false
same_place (Some m) None = false
same_place (Some m) (Some n) = eqb m n

unfoldable pub holds : Example → Bool
holds (Answers b r) = same_list (answers_to factory b) r
holds (Leaves b c v) = same_list (values_of c (play factory b).settings) v
holds (Draws ps k) = same_list (last_seen (λ a p. codes_in (judged a p)) [] (from factory) ps) k
holds (Reports ps n) = same_place (last_seen (λ a p. wrong_in (judged a p)) None (from factory) ps) n
holds (Offends b n) = same_place (offence factory b) n
holds (Allows c v) = allowed c v
holds (Forbids c v) = not (allowed c v)
holds (Names c v n) = same_place (wrong_byte c v) (Some n)
holds (Prints r t) = same_list (line_of (verdict r)) (text_of t)

unfoldable pub hold : List Example → Bool
hold [] = true
hold (e ∷ es) = holds e && hold es

-- The starred packets of document 01.
abbrev pub starred : List Example
starred =
    Answers (0x02 ∷ 0x01 ∷ 0x03 ∷ 0x00 ∷ 0x01 ∷ 0x00 ∷ 0x03 ∷ 0x0A ∷ []) (0x03 ∷ 0x01 ∷ 0x03 ∷ 0x00 ∷ 0x00 ∷ 0x00 ∷ 0x07 ∷ [])
    ∷ Answers (0x02 ∷ 0x01 ∷ 0x03 ∷ 0x00 ∷ 0x01 ∷ 0x00 ∷ 0x03 ∷ 0x0B ∷ []) (0x01 ∷ 0x01 ∷ 0x03 ∷ 0x00 ∷ 0x01 ∷ 0x00 ∷ 0x09 ∷ 0x0F ∷ [])
    ∷ Answers (0x02 ∷ 0x01 ∷ 0x04 ∷ 0x00 ∷ 0x06 ∷ 0x00 ∷ 0x00 ∷ 0x04 ∷ 0x12 ∷ 0x01 ∷ 0x12 ∷ 0x01 ∷ 0x37 ∷ []) (0x03 ∷ 0x01 ∷ 0x04 ∷ 0x00 ∷ 0x00 ∷ 0x00 ∷ 0x08 ∷ [])
    ∷ Answers (0x02 ∷ 0x01 ∷ 0x04 ∷ 0x00 ∷ 0x06 ∷ 0x00 ∷ 0x01 ∷ 0x04 ∷ 0x12 ∷ 0x01 ∷ 0x12 ∷ 0x01 ∷ 0x38 ∷ []) (0x01 ∷ 0x01 ∷ 0x04 ∷ 0x00 ∷ 0x01 ∷ 0x00 ∷ 0x03 ∷ 0x0A ∷ [])
    ∷ Answers (0x04 ∷ 0x01 ∷ 0x07 ∷ 0x00 ∷ 0x00 ∷ 0x00 ∷ 0x0C ∷ []) (0x05 ∷ 0x01 ∷ 0x07 ∷ 0x00 ∷ 0x03 ∷ 0x00 ∷ 0x00 ∷ 0x01 ∷ 0x00 ∷ 0x11 ∷ [])
    ∷ Answers (0x02 ∷ 0x01 ∷ 0x02 ∷ 0x07 ∷ 0x00 ∷ 0x00 ∷ 0x00 ∷ []) (0x01 ∷ 0x01 ∷ 0x02 ∷ 0x00 ∷ 0x03 ∷ 0x00 ∷ 0x02 ∷ 0x09 ∷ 0x0B ∷ 0x1D ∷ [])
    ∷ Answers (0x02 ∷ 0x04 ∷ 0x02 ∷ 0x00 ∷ 0x01 ∷ 0x00 ∷ 0x01 ∷ 0x0A ∷ []) (0x01 ∷ 0x04 ∷ 0x02 ∷ 0x00 ∷ 0x01 ∷ 0x00 ∷ 0x07 ∷ 0x0F ∷ [])
    ∷ Answers (0x02 ∷ 0x01 ∷ 0x03 ∷ 0x00 ∷ 0x02 ∷ 0x00 ∷ 0x03 ∷ 0x00 ∷ 0x0B ∷ []) (0x01 ∷ 0x01 ∷ 0x03 ∷ 0x00 ∷ 0x01 ∷ 0x00 ∷ 0x0A ∷ 0x10 ∷ [])
    ∷ Answers (0x02 ∷ 0x01 ∷ 0x03 ∷ 0x01 ∷ 0x00 ∷ 0x00 ∷ 0x07 ∷ 0x02 ∷ 0x01 ∷ 0x03 ∷ 0x03 ∷ 0x01 ∷ 0x00 ∷ 0x05 ∷ 0x0F ∷ []) (0x03 ∷ 0x01 ∷ 0x03 ∷ 0x00 ∷ 0x00 ∷ 0x00 ∷ 0x07 ∷ 0x03 ∷ 0x01 ∷ 0x03 ∷ 0x00 ∷ 0x00 ∷ 0x00 ∷ 0x07 ∷ [])
    ∷ Leaves (0x02 ∷ 0x01 ∷ 0x03 ∷ 0x01 ∷ 0x00 ∷ 0x00 ∷ 0x07 ∷ 0x02 ∷ 0x01 ∷ 0x03 ∷ 0x03 ∷ 0x01 ∷ 0x00 ∷ 0x05 ∷ 0x0F ∷ []) TestPattern (5 ∷ [])
    ∷ Leaves (0x02 ∷ 0x01 ∷ 0x04 ∷ 0x00 ∷ 0x06 ∷ 0x00 ∷ 0x00 ∷ 0x04 ∷ 0x12 ∷ 0x01 ∷ 0x12 ∷ 0x01 ∷ 0x37 ∷ []) LedCurrent (1024 ∷ 274 ∷ 274 ∷ [])
    ∷ []

-- The starred reports of document 01: two trials, of which the second is the better one, and what ships.
abbrev pub two_trials : List ℕ
two_trials =
    (0x04 ∷ 0x00 ∷ 0x01 ∷ 0x00 ∷ 0x01 ∷ 0x00 ∷ 0x02 ∷ 0x00 ∷ [])
    ++ (0x0C ∷ 0x00 ∷ 0x02 ∷ 0x00 ∷ 0x0A ∷ 0x00 ∷ 0x00 ∷ 0x00 ∷ 0x02 ∷ 0x01 ∷ 0x03 ∷ 0x00 ∷ 0x01 ∷ 0x00 ∷ 0x03 ∷ 0x0A ∷ [])
    ++ (0x0C ∷ 0x00 ∷ 0x02 ∷ 0x00 ∷ 0x07 ∷ 0x00 ∷ 0x00 ∷ 0x00 ∷ 0x02 ∷ 0x01 ∷ 0x01 ∷ 0x00 ∷ 0x01 ∷ 0x00 ∷ 0x01 ∷ 0x06 ∷ [])
    ++ (0x02 ∷ 0x00 ∷ 0x03 ∷ 0x00 ∷ 0x01 ∷ 0x00 ∷ [])

abbrev pub reports : List Example
reports =
    Prints
    (two_trials ++ (0x10 ∷ 0x00 ∷ 0x04 ∷ 0x00 ∷ []) ++ (0x02 ∷ 0x01 ∷ 0x03 ∷ 0x00 ∷ 0x01 ∷ 0x00 ∷ 0x03 ∷ 0x0A ∷ []) ++ (0x02 ∷ 0x01 ∷ 0x01 ∷ 0x00 ∷ 0x01 ∷ 0x00 ∷ 0x01 ∷ 0x06 ∷ []))
    "accepted trial 1 score 7\n"
    ∷ Prints (two_trials ++ (0x08 ∷ 0x00 ∷ 0x04 ∷ 0x00 ∷ []) ++ (0x02 ∷ 0x01 ∷ 0x01 ∷ 0x00 ∷ 0x01 ∷ 0x00 ∷ 0x01 ∷ 0x06 ∷ [])) "refused 19 at 46\n"
    -- no bytes at all
    ∷ Prints [] "refused 11 at 0\n"
    ∷ []

-- The rows of the table, at their limits and just past them.
abbrev pub rows : List Example
rows =
    Allows DisplayMode (0 ∷ [])
    ∷ Allows DisplayMode (1 ∷ [])
    ∷ Allows DisplayMode (2 ∷ [])
    ∷ Allows DisplayMode (4 ∷ [])
    ∷ Forbids DisplayMode (3 ∷ [])
    ∷ Forbids DisplayMode (5 ∷ [])
    ∷ Allows TestPattern (0 ∷ [])
    ∷ Allows TestPattern (13 ∷ [])
    ∷ Forbids TestPattern (14 ∷ [])
    ∷ Allows LedCurrent (0 ∷ 0 ∷ 0 ∷ [])
    ∷ Allows LedCurrent (1024 ∷ 1024 ∷ 1024 ∷ [])
    ∷ Forbids LedCurrent (1025 ∷ 0 ∷ 0 ∷ [])
    ∷ Forbids LedCurrent (0 ∷ 1025 ∷ 0 ∷ [])
    ∷ Forbids LedCurrent (0 ∷ 0 ∷ 1025 ∷ [])
    ∷ Allows StaticColour (255 ∷ 255 ∷ 255 ∷ 0 ∷ [])
    ∷ Forbids StaticColour (0 ∷ 0 ∷ 0 ∷ 1 ∷ [])
    ∷ Allows DisplaySetting (0 ∷ 0 ∷ 0 ∷ [])
    ∷ Allows DisplaySetting (1 ∷ 1 ∷ 1 ∷ [])
    ∷ Forbids DisplaySetting (2 ∷ 0 ∷ 0 ∷ [])
    ∷ Forbids DisplaySetting (0 ∷ 2 ∷ 0 ∷ [])
    ∷ Forbids DisplaySetting (0 ∷ 0 ∷ 2 ∷ [])
    ∷ Allows VideoInput (240 ∷ 320 ∷ 0 ∷ 0 ∷ 0 ∷ 0 ∷ [])
    ∷ Allows VideoInput (608 ∷ 684 ∷ 65535 ∷ 65535 ∷ 65535 ∷ 65535 ∷ [])
    ∷ Allows VideoInput (864 ∷ 480 ∷ 0 ∷ 0 ∷ 0 ∷ 0 ∷ [])
    ∷ Allows VideoInput (720 ∷ 288 ∷ 0 ∷ 0 ∷ 0 ∷ 0 ∷ [])
    ∷ Forbids VideoInput (480 ∷ 864 ∷ 0 ∷ 0 ∷ 0 ∷ 0 ∷ [])
    ∷ Forbids VideoInput (684 ∷ 608 ∷ 0 ∷ 0 ∷ 0 ∷ 0 ∷ [])
    ∷ Forbids VideoInput (288 ∷ 720 ∷ 0 ∷ 0 ∷ 0 ∷ 0 ∷ [])
    ∷ Forbids VideoInput (241 ∷ 320 ∷ 0 ∷ 0 ∷ 0 ∷ 0 ∷ [])
    ∷ Forbids VideoInput (240 ∷ 319 ∷ 0 ∷ 0 ∷ 0 ∷ 0 ∷ [])
    ∷ Allows VideoMode (15 ∷ 1 ∷ 1 ∷ [])
    ∷ Allows VideoMode (30 ∷ 8 ∷ 4 ∷ [])
    ∷ Allows VideoMode (40 ∷ 8 ∷ 1 ∷ [])
    ∷ Allows VideoMode (50 ∷ 1 ∷ 4 ∷ [])
    ∷ Allows VideoMode (60 ∷ 8 ∷ 1 ∷ [])
    ∷ Forbids VideoMode (14 ∷ 1 ∷ 1 ∷ [])
    ∷ Forbids VideoMode (61 ∷ 1 ∷ 1 ∷ [])
    ∷ Forbids VideoMode (20 ∷ 8 ∷ 1 ∷ [])
    ∷ Forbids VideoMode (60 ∷ 0 ∷ 1 ∷ [])
    ∷ Forbids VideoMode (60 ∷ 9 ∷ 1 ∷ [])
    ∷ Forbids VideoMode (60 ∷ 8 ∷ 0 ∷ [])
    ∷ Forbids VideoMode (60 ∷ 8 ∷ 5 ∷ [])
    ∷ Allows PatternSequence (1 ∷ 1 ∷ 0 ∷ 0 ∷ 0 ∷ 0 ∷ 0 ∷ 0 ∷ [])
    ∷ Allows PatternSequence (8 ∷ 12 ∷ 0 ∷ 5 ∷ 4294967295 ∷ 4294967295 ∷ 4294967295 ∷ 2 ∷ [])
    ∷ Allows PatternSequence (1 ∷ 96 ∷ 2 ∷ 6 ∷ 0 ∷ 0 ∷ 0 ∷ 2 ∷ [])
    ∷ Forbids PatternSequence (0 ∷ 1 ∷ 0 ∷ 0 ∷ 0 ∷ 0 ∷ 0 ∷ 0 ∷ [])
    ∷ Forbids PatternSequence (9 ∷ 1 ∷ 0 ∷ 0 ∷ 0 ∷ 0 ∷ 0 ∷ 0 ∷ [])
    ∷ Forbids PatternSequence (1 ∷ 0 ∷ 0 ∷ 0 ∷ 0 ∷ 0 ∷ 0 ∷ 0 ∷ [])
    ∷ Forbids PatternSequence (1 ∷ 1 ∷ 3 ∷ 0 ∷ 0 ∷ 0 ∷ 0 ∷ 0 ∷ [])
    ∷ Forbids PatternSequence (2 ∷ 1 ∷ 1 ∷ 0 ∷ 0 ∷ 0 ∷ 0 ∷ 0 ∷ [])
    ∷ Forbids PatternSequence (1 ∷ 1 ∷ 0 ∷ 7 ∷ 0 ∷ 0 ∷ 0 ∷ 0 ∷ [])
    ∷ Forbids PatternSequence (2 ∷ 1 ∷ 0 ∷ 6 ∷ 0 ∷ 0 ∷ 0 ∷ 0 ∷ [])
    ∷ Forbids PatternSequence (1 ∷ 1 ∷ 0 ∷ 0 ∷ 0 ∷ 0 ∷ 0 ∷ 3 ∷ [])
    ∷ Allows SequenceRun (0 ∷ [])
    ∷ Allows SequenceRun (1 ∷ [])
    ∷ Forbids SequenceRun (2 ∷ [])
    ∷ []

-- Each fault alone.
abbrev pub faults_alone : List Example
faults_alone =
    Draws ((0x02 ∷ 0x01 ∷ 0x03 ∷ 0x00 ∷ 0x01 ∷ 0x00 ∷ 0x05 ∷ 0x0C ∷ []) ∷ []) []
    ∷ Draws ((0x02 ∷ 0x01 ∷ 0x02 ∷ 0x00 ∷ 0x01 ∷ 0x00 ∷ 0x05 ∷ 0x0B ∷ []) ∷ []) (2 ∷ [])
    ∷ Draws ((0x03 ∷ 0x01 ∷ 0x03 ∷ 0x00 ∷ 0x01 ∷ 0x00 ∷ 0x05 ∷ 0x0D ∷ []) ∷ []) (2 ∷ [])
    ∷ Draws ((0x04 ∷ 0x01 ∷ 0x06 ∷ 0x00 ∷ 0x00 ∷ 0x00 ∷ 0x0B ∷ []) ∷ []) (2 ∷ [])
    ∷ Draws ((0x04 ∷ 0x01 ∷ 0x03 ∷ 0x00 ∷ 0x00 ∷ 0x00 ∷ 0x08 ∷ []) ∷ []) []
    ∷ Draws ((0x04 ∷ 0x01 ∷ 0x03 ∷ 0x00 ∷ 0x01 ∷ 0x00 ∷ 0x00 ∷ 0x09 ∷ []) ∷ []) (10 ∷ [])
    ∷ Draws ((0x04 ∷ 0x01 ∷ 0x03 ∷ 0x01 ∷ 0x00 ∷ 0x00 ∷ 0x09 ∷ []) ∷ []) (11 ∷ [])
    ∷ Draws ((0x02 ∷ 0x01 ∷ 0x03 ∷ 0x00 ∷ 0x00 ∷ 0x00 ∷ 0x06 ∷ []) ∷ []) (10 ∷ [])
    ∷ Draws ((0x02 ∷ 0x01 ∷ 0x03 ∷ 0x00 ∷ 0x01 ∷ 0x00 ∷ 0x0E ∷ 0x15 ∷ []) ∷ []) (3 ∷ [])
    ∷ Draws ((0x02 ∷ 0x04 ∷ 0x02 ∷ 0x00 ∷ 0x01 ∷ 0x00 ∷ 0x01 ∷ 0x0A ∷ []) ∷ []) (7 ∷ [])
    ∷ Draws ((0x02 ∷ 0x04 ∷ 0x02 ∷ 0x00 ∷ 0x01 ∷ 0x00 ∷ 0x02 ∷ 0x0B ∷ []) ∷ []) (3 ∷ [])
    ∷ Draws ((0x02 ∷ 0x04 ∷ 0x02 ∷ 0x00 ∷ 0x01 ∷ 0x00 ∷ 0x00 ∷ 0x09 ∷ []) ∷ []) []
    ∷ Draws ((0x02 ∷ 0x01 ∷ 0x03 ∷ 0x04 ∷ 0x01 ∷ 0x00 ∷ 0x05 ∷ 0x10 ∷ []) ∷ []) (11 ∷ [])
    ∷ Draws ((0x02 ∷ 0x01 ∷ 0x03 ∷ 0x02 ∷ 0x01 ∷ 0x00 ∷ 0x05 ∷ 0x0E ∷ []) ∷ []) (11 ∷ [])
    ∷ Draws ((0x02 ∷ 0x01 ∷ 0x03 ∷ 0x03 ∷ 0x01 ∷ 0x00 ∷ 0x05 ∷ 0x0F ∷ []) ∷ []) (11 ∷ [])
    ∷ Draws ((0x02 ∷ 0x01 ∷ 0x03 ∷ 0x01 ∷ 0x00 ∷ 0x00 ∷ 0x07 ∷ []) ∷ (0x02 ∷ 0x01 ∷ 0x03 ∷ 0x00 ∷ 0x01 ∷ 0x00 ∷ 0x05 ∷ 0x0C ∷ []) ∷ []) (11 ∷ [])
    ∷ Draws ((0x02 ∷ 0x01 ∷ 0x03 ∷ 0x01 ∷ 0x00 ∷ 0x00 ∷ 0x07 ∷ []) ∷ (0x02 ∷ 0x01 ∷ 0x03 ∷ 0x01 ∷ 0x00 ∷ 0x00 ∷ 0x07 ∷ []) ∷ []) (11 ∷ [])
    ∷ Draws ((0x02 ∷ 0x01 ∷ 0x03 ∷ 0x01 ∷ 0x00 ∷ 0x00 ∷ 0x07 ∷ []) ∷ (0x02 ∷ 0x01 ∷ 0x01 ∷ 0x03 ∷ 0x01 ∷ 0x00 ∷ 0x00 ∷ 0x08 ∷ []) ∷ []) (11 ∷ [])
    ∷ Draws ((0x02 ∷ 0x01 ∷ 0x03 ∷ 0x01 ∷ 0x00 ∷ 0x00 ∷ 0x07 ∷ []) ∷ (0x04 ∷ 0x01 ∷ 0x03 ∷ 0x00 ∷ 0x00 ∷ 0x00 ∷ 0x08 ∷ []) ∷ []) (11 ∷ [])
    ∷ Draws ((0x02 ∷ 0x01 ∷ 0x03 ∷ 0x01 ∷ 0x00 ∷ 0x00 ∷ 0x07 ∷ []) ∷ (0x02 ∷ 0x01 ∷ 0x02 ∷ 0x03 ∷ 0x01 ∷ 0x00 ∷ 0x05 ∷ 0x0E ∷ []) ∷ []) (2 ∷ 11 ∷ [])
    ∷ Draws (((0x02 ∷ 0x01 ∷ 0x03 ∷ 0x01 ∷ 0x00 ∷ 0x04 ∷ []) ++ replicate 1024 0 ++ (0x0B ∷ [])) ∷ (0x02 ∷ 0x01 ∷ 0x03 ∷ 0x02 ∷ 0x01 ∷ 0x00 ∷ 0x00 ∷ 0x09 ∷ []) ∷ []) (4 ∷ [])
    ∷ Draws (((0x02 ∷ 0x01 ∷ 0x03 ∷ 0x01 ∷ 0x00 ∷ 0x04 ∷ []) ++ replicate 1024 0 ++ (0x0B ∷ [])) ∷ (0x02 ∷ 0x01 ∷ 0x03 ∷ 0x02 ∷ 0x00 ∷ 0x00 ∷ 0x08 ∷ []) ∷ []) []
    ∷ Draws (((0x02 ∷ 0x01 ∷ 0x03 ∷ 0x00 ∷ 0x01 ∷ 0x04 ∷ []) ++ replicate 1025 0 ++ (0x0B ∷ [])) ∷ []) (4 ∷ [])
    ∷ []

-- Transfers, and what an error packet leaves.
abbrev pub transfers : List Example
transfers =
    Draws ((0x02 ∷ 0x01 ∷ 0x03 ∷ 0x01 ∷ 0x00 ∷ 0x00 ∷ 0x07 ∷ []) ∷ (0x02 ∷ 0x01 ∷ 0x03 ∷ 0x02 ∷ 0x00 ∷ 0x00 ∷ 0x08 ∷ []) ∷ (0x02 ∷ 0x01 ∷ 0x03 ∷ 0x03 ∷ 0x01 ∷ 0x00 ∷ 0x05 ∷ 0x0F ∷ []) ∷ []) []
    ∷ Draws ((0x02 ∷ 0x01 ∷ 0x03 ∷ 0x01 ∷ 0x00 ∷ 0x00 ∷ 0x07 ∷ []) ∷ (0x02 ∷ 0x01 ∷ 0x02 ∷ 0x00 ∷ 0x00 ∷ 0x00 ∷ 0x05 ∷ []) ∷ (0x02 ∷ 0x01 ∷ 0x03 ∷ 0x03 ∷ 0x01 ∷ 0x00 ∷ 0x05 ∷ 0x0F ∷ []) ∷ []) (11 ∷ [])
    ∷ Draws ((0x02 ∷ 0x01 ∷ 0x03 ∷ 0x01 ∷ 0x00 ∷ 0x00 ∷ 0x07 ∷ []) ∷ (0x02 ∷ 0x01 ∷ 0x02 ∷ 0x00 ∷ 0x00 ∷ 0x00 ∷ 0x05 ∷ []) ∷ (0x02 ∷ 0x01 ∷ 0x03 ∷ 0x00 ∷ 0x01 ∷ 0x00 ∷ 0x05 ∷ 0x0C ∷ []) ∷ []) []
    ∷ Draws ((0x02 ∷ 0x01 ∷ 0x01 ∷ 0x00 ∷ 0x01 ∷ 0x00 ∷ 0x04 ∷ 0x09 ∷ []) ∷ (0x02 ∷ 0x04 ∷ 0x02 ∷ 0x00 ∷ 0x01 ∷ 0x00 ∷ 0x01 ∷ 0x0A ∷ []) ∷ []) []
    ∷ Leaves ((0x02 ∷ 0x01 ∷ 0x01 ∷ 0x00 ∷ 0x01 ∷ 0x00 ∷ 0x04 ∷ 0x09 ∷ []) ++ (0x02 ∷ 0x04 ∷ 0x02 ∷ 0x00 ∷ 0x01 ∷ 0x00 ∷ 0x01 ∷ 0x0A ∷ []) ++ (0x02 ∷ 0x01 ∷ 0x01 ∷ 0x00 ∷ 0x01 ∷ 0x00 ∷ 0x04 ∷ 0x09 ∷ [])) SequenceRun (1 ∷ [])
    ∷ Leaves ((0x02 ∷ 0x01 ∷ 0x01 ∷ 0x00 ∷ 0x01 ∷ 0x00 ∷ 0x04 ∷ 0x09 ∷ []) ++ (0x02 ∷ 0x04 ∷ 0x02 ∷ 0x00 ∷ 0x01 ∷ 0x00 ∷ 0x01 ∷ 0x0A ∷ []) ++ (0x02 ∷ 0x01 ∷ 0x01 ∷ 0x00 ∷ 0x01 ∷ 0x00 ∷ 0x00 ∷ 0x05 ∷ [])) SequenceRun (0 ∷ [])
    ∷ Leaves ((0x02 ∷ 0x01 ∷ 0x03 ∷ 0x00 ∷ 0x01 ∷ 0x00 ∷ 0x05 ∷ 0x0C ∷ []) ++ (0x02 ∷ 0x01 ∷ 0x03 ∷ 0x00 ∷ 0x01 ∷ 0x00 ∷ 0x0E ∷ 0x15 ∷ [])) TestPattern (5 ∷ [])
    ∷ Leaves (0x02 ∷ 0x01 ∷ 0x04 ∷ 0x00 ∷ 0x06 ∷ 0x00 ∷ 0x01 ∷ 0x00 ∷ 0x02 ∷ 0x00 ∷ 0x01 ∷ 0x04 ∷ 0x15 ∷ []) LedCurrent (274 ∷ 274 ∷ 274 ∷ [])
    ∷ []

-- Request 2: the count of a sequence. Its values at this depth and count, all else 0,
abbrev pub sequence_of : ℕ → ℕ → List ℕ
sequence_of depth count = depth ∷ count ∷ replicate 6 0

-- and the packet that writes them, with this checksum
abbrev pub sequence_packet : ℕ → ℕ → ℕ → List ℕ
sequence_packet depth count sum = (0x02 ∷ 0x04 ∷ 0x00 ∷ 0x00 ∷ 0x11 ∷ 0x00 ∷ []) ++ (depth ∷ count ∷ replicate 15 0) ++ (sum ∷ [])

-- a report of one trial, which sent 40 patterns at depth 4, up to what ships
abbrev pub forty_tried : List ℕ
forty_tried =
    (0x04 ∷ 0x00 ∷ 0x01 ∷ 0x00 ∷ 0x01 ∷ 0x00 ∷ 0x01 ∷ 0x00 ∷ []) ++ (0x1C ∷ 0x00 ∷ 0x02 ∷ 0x00 ∷ 0x05 ∷ 0x00 ∷ 0x00 ∷ 0x00 ∷ []) ++ sequence_packet 4 40 0x43
    ++ (0x02 ∷ 0x00 ∷ 0x03 ∷ 0x00 ∷ 0x00 ∷ 0x00 ∷ [])

abbrev pub counts : List Example
counts =
    -- each depth at its limit and one past it; depths that there are not, and no pattern
    Allows PatternSequence (sequence_of 1 96)
    ∷ Forbids PatternSequence (sequence_of 1 97)
    ∷ Allows PatternSequence (sequence_of 2 48)
    ∷ Forbids PatternSequence (sequence_of 2 49)
    ∷ Allows PatternSequence (sequence_of 3 32)
    ∷ Forbids PatternSequence (sequence_of 3 33)
    ∷ Allows PatternSequence (sequence_of 4 24)
    ∷ Forbids PatternSequence (sequence_of 4 25)
    ∷ Allows PatternSequence (sequence_of 5 20)
    ∷ Forbids PatternSequence (sequence_of 5 21)
    ∷ Allows PatternSequence (sequence_of 6 16)
    ∷ Forbids PatternSequence (sequence_of 6 17)
    ∷ Allows PatternSequence (sequence_of 7 14)
    ∷ Forbids PatternSequence (sequence_of 7 15)
    ∷ Allows PatternSequence (sequence_of 8 12)
    ∷ Forbids PatternSequence (sequence_of 8 13)
    ∷ Forbids PatternSequence (sequence_of 0 0)
    ∷ Forbids PatternSequence (sequence_of 0 96)
    ∷ Forbids PatternSequence (sequence_of 0 255)
    ∷ Forbids PatternSequence (sequence_of 9 11)
    ∷ Forbids PatternSequence (sequence_of 255 1)
    ∷ Forbids PatternSequence (sequence_of 8 0)
    -- 40 patterns at depth 4 draw 03, 24 are stored; in a transfer alike
    ∷ Answers (sequence_packet 4 40 0x43) (0x01 ∷ 0x04 ∷ 0x00 ∷ 0x00 ∷ 0x01 ∷ 0x00 ∷ 0x03 ∷ 0x09 ∷ [])
    ∷ Leaves (sequence_packet 4 40 0x43) PatternSequence (sequence_of 1 1)
    ∷ Answers (sequence_packet 4 24 0x33) (0x03 ∷ 0x04 ∷ 0x00 ∷ 0x00 ∷ 0x00 ∷ 0x00 ∷ 0x07 ∷ [])
    ∷ Leaves (sequence_packet 4 24 0x33) PatternSequence (sequence_of 4 24)
    ∷ Draws
    ((0x02 ∷ 0x04 ∷ 0x00 ∷ 0x01 ∷ 0x01 ∷ 0x00 ∷ 0x04 ∷ 0x0C ∷ []) ∷ ((0x02 ∷ 0x04 ∷ 0x00 ∷ 0x03 ∷ 0x10 ∷ 0x00 ∷ 40 ∷ replicate 15 0) ++ (0x41 ∷ [])) ∷ [])
    (3 ∷ [])
    ∷ Draws
    ((0x02 ∷ 0x04 ∷ 0x00 ∷ 0x01 ∷ 0x01 ∷ 0x00 ∷ 0x04 ∷ 0x0C ∷ []) ∷ ((0x02 ∷ 0x04 ∷ 0x00 ∷ 0x03 ∷ 0x10 ∷ 0x00 ∷ 24 ∷ replicate 15 0) ++ (0x31 ∷ [])) ∷ [])
    []
    -- a depth of 0 draws 03 whatever the count
    ∷ Draws (sequence_packet 0 1 0x18 ∷ []) (3 ∷ [])
    ∷ Draws (sequence_packet 0 40 0x3F ∷ []) (3 ∷ [])
    -- reports of version 1: the trial's packet was not stored, so that nothing needs to ship; shipped, it is not acknowledged
    ∷ Prints (forty_tried ++ (0x00 ∷ 0x00 ∷ 0x04 ∷ 0x00 ∷ [])) "accepted trial 0 score 5\n"
    ∷ Prints (forty_tried ++ (0x18 ∷ 0x00 ∷ 0x04 ∷ 0x00 ∷ []) ++ sequence_packet 4 40 0x43) "refused 18 at 50\n"
    ∷ []

-- Request 4: the byte that is wrong.
abbrev pub wrong_bytes : List Example
wrong_bytes =
    -- each field of each command that has a rule, mostly with those behind it wrong too
    Names DisplayMode (3 ∷ []) 0
    ∷ Names TestPattern (14 ∷ []) 0
    ∷ Names LedCurrent (1025 ∷ 1025 ∷ 1025 ∷ []) 0
    ∷ Names LedCurrent (0 ∷ 1025 ∷ 1025 ∷ []) 2
    ∷ Names LedCurrent (0 ∷ 0 ∷ 1025 ∷ []) 4
    ∷ Names StaticColour (1 ∷ 2 ∷ 3 ∷ 4 ∷ []) 3
    ∷ Names DisplaySetting (2 ∷ 2 ∷ 2 ∷ []) 0
    ∷ Names DisplaySetting (1 ∷ 2 ∷ 2 ∷ []) 1
    ∷ Names DisplaySetting (1 ∷ 1 ∷ 2 ∷ []) 2
    ∷ Names VideoInput (640 ∷ 481 ∷ 0 ∷ 0 ∷ 0 ∷ 0 ∷ []) 2
    -- the pair's byte is Y's, whatever X is
    ∷ Names VideoInput (1 ∷ 480 ∷ 0 ∷ 0 ∷ 0 ∷ 0 ∷ []) 2
    ∷ Names VideoMode (20 ∷ 9 ∷ 5 ∷ []) 0
    ∷ Names VideoMode (15 ∷ 9 ∷ 5 ∷ []) 1
    ∷ Names VideoMode (15 ∷ 8 ∷ 5 ∷ []) 2
    ∷ Names PatternSequence (9 ∷ 97 ∷ 3 ∷ 7 ∷ 0 ∷ 0 ∷ 0 ∷ 3 ∷ []) 0
    ∷ Names PatternSequence (0 ∷ 1 ∷ 0 ∷ 0 ∷ 0 ∷ 0 ∷ 0 ∷ 0 ∷ []) 0
    -- 04 00: a rule between the depth and another field is that field's
    ∷ Names PatternSequence (4 ∷ 25 ∷ 1 ∷ 6 ∷ 0 ∷ 0 ∷ 0 ∷ 3 ∷ []) 1
    ∷ Names PatternSequence (4 ∷ 24 ∷ 1 ∷ 6 ∷ 0 ∷ 0 ∷ 0 ∷ 3 ∷ []) 2
    ∷ Names PatternSequence (4 ∷ 24 ∷ 0 ∷ 6 ∷ 0 ∷ 0 ∷ 0 ∷ 3 ∷ []) 3
    ∷ Names PatternSequence (4 ∷ 24 ∷ 0 ∷ 5 ∷ 0 ∷ 0 ∷ 0 ∷ 3 ∷ []) 16
    ∷ Names SequenceRun (2 ∷ []) 0
    -- green 1025: the first byte of the field, with code 03; with another code there is none
    ∷ Reports ((0x02 ∷ 0x01 ∷ 0x04 ∷ 0x00 ∷ 0x06 ∷ 0x00 ∷ 0x00 ∷ 0x00 ∷ 0x01 ∷ 0x04 ∷ 0x00 ∷ 0x00 ∷ 0x12 ∷ []) ∷ []) (Some 2)
    ∷ Reports ((0x02 ∷ 0x01 ∷ 0x04 ∷ 0x00 ∷ 0x06 ∷ 0x00 ∷ 0x00 ∷ 0x00 ∷ 0x01 ∷ 0x04 ∷ 0x00 ∷ 0x00 ∷ 0x13 ∷ []) ∷ []) None
    ∷ Reports ((0x02 ∷ 0x01 ∷ 0x03 ∷ 0x00 ∷ 0x02 ∷ 0x00 ∷ 0x0E ∷ 0x00 ∷ 0x16 ∷ []) ∷ []) None
    ∷ Reports ((0x02 ∷ 0x04 ∷ 0x02 ∷ 0x00 ∷ 0x01 ∷ 0x00 ∷ 0x01 ∷ 0x0A ∷ []) ∷ []) None
    ∷ Reports ((0x02 ∷ 0x01 ∷ 0x03 ∷ 0x00 ∷ 0x01 ∷ 0x00 ∷ 0x05 ∷ 0x0C ∷ []) ∷ []) None
    ∷ Reports ((0x04 ∷ 0x01 ∷ 0x03 ∷ 0x00 ∷ 0x00 ∷ 0x00 ∷ 0x08 ∷ []) ∷ []) None
    -- in a transfer it counts in the joined data: 40 patterns at depth 4, the count being byte 0 of the last packet's payload
    ∷ Reports
    ((0x02 ∷ 0x04 ∷ 0x00 ∷ 0x01 ∷ 0x01 ∷ 0x00 ∷ 0x04 ∷ 0x0C ∷ []) ∷ ((0x02 ∷ 0x04 ∷ 0x00 ∷ 0x03 ∷ 0x10 ∷ 0x00 ∷ 40 ∷ replicate 15 0) ++ (0x41 ∷ [])) ∷ [])
    (Some 1)
    ∷ []

-- and where bytes offend: a test pattern written, one that is not allowed, one read, one in a transfer, and the first byte of a packet
abbrev pub written : List ℕ
written = 0x02 ∷ 0x01 ∷ 0x03 ∷ 0x00 ∷ 0x01 ∷ 0x00 ∷ 0x05 ∷ 0x0C ∷ []

abbrev pub not_allowed : List ℕ
not_allowed = 0x02 ∷ 0x01 ∷ 0x03 ∷ 0x00 ∷ 0x01 ∷ 0x00 ∷ 0x0E ∷ 0x15 ∷ []

abbrev pub read : List ℕ
read = 0x04 ∷ 0x01 ∷ 0x03 ∷ 0x00 ∷ 0x00 ∷ 0x00 ∷ 0x08 ∷ []

abbrev pub begun : List ℕ
begun = 0x02 ∷ 0x01 ∷ 0x03 ∷ 0x01 ∷ 0x00 ∷ 0x00 ∷ 0x07 ∷ []

abbrev pub continued : List ℕ
continued = 0x02 ∷ 0x01 ∷ 0x03 ∷ 0x02 ∷ 0x00 ∷ 0x00 ∷ 0x08 ∷ []

abbrev pub ended : List ℕ
ended = 0x02 ∷ 0x01 ∷ 0x03 ∷ 0x03 ∷ 0x01 ∷ 0x00 ∷ 0x05 ∷ 0x0F ∷ []

abbrev pub places : List Example
places =
    Offends [] None
    ∷ Offends written None
    ∷ Offends (begun ++ ended) None
    ∷ Offends not_allowed (Some 0)
    ∷ Offends read (Some 0)
    ∷ Offends begun (Some 0)
    ∷ Offends (written ++ (0x02 ∷ [])) (Some 8)
    -- the first that is not acknowledged, whatever comes behind it
    ∷ Offends (written ++ not_allowed ++ written ++ not_allowed) (Some 8)
    ∷ Offends (written ++ read ++ not_allowed ++ (0x02 ∷ [])) (Some 8)
    ∷ Offends (not_allowed ++ begun) (Some 0)
    -- the packet that opened the transfer, not the one that added to it nor the unfinished one
    ∷ Offends (written ++ begun ++ continued ++ (0x02 ∷ [])) (Some 8)
    ∷ Offends (begun ++ ended ++ begun ++ continued) (Some 15)
    -- a transfer that an error closed is not left open: a whole write in a transfer draws 0B
    ∷ Offends (begun ++ written ++ written) (Some 7)
    ∷ Offends (begun ++ written ++ begun) (Some 7)
    -- in reports, of which kind 4 is at 46: the place is that packet's
    ∷ Prints (two_trials ++ (0x10 ∷ 0x00 ∷ 0x04 ∷ 0x00 ∷ []) ++ written ++ not_allowed) "refused 18 at 58\n"
    ∷ Prints (two_trials ++ (0x09 ∷ 0x00 ∷ 0x04 ∷ 0x00 ∷ []) ++ written ++ (0x02 ∷ [])) "refused 18 at 58\n"
    ∷ Prints (two_trials ++ (0x0E ∷ 0x00 ∷ 0x04 ∷ 0x00 ∷ []) ++ begun ++ continued) "refused 18 at 50\n"
    ∷ []

-- the table
abbrev pub examples : List Example
examples = starred ++ (reports ++ (rows ++ (counts ++ (faults_alone ++ (transfers ++ (wrong_bytes ++ places))))))
