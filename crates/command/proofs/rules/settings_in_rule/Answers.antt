-- `settings_in_rule` meets its contract: each line of the table is asked until one says no, and the video input last.
use Rattle.std.proofs.Common.{◌≡◌, ℕ, zero, suc, sym, ap, ◌∙◌, Bool, true, not, ◌&&◌, List, [], ◌∷◌, get_or}
use mathlib.Core.Bool.{and_assoc, and-true, and-false}
use Rattle.packet.proofs.Cases.{bool_cases}
use Rattle.command.specs.Rules.{mode_fields, pattern_fields, current_fields, colour_fields, setting_fields, input_fields, video_fields, sequence_fields, run_fields, allowed, blocked, all_allowed, settings_in_rule}
use Rattle.command.specs.Settings.{values_of}
use Rattle.command.specs.declared.settings.Settings.{Settings}
use Rattle.command.specs.declared.table.Command.{Command}
use Rattle.command.specs.declared.table.Command.TheVariants.{DisplayMode, TestPattern, LedCurrent, StaticColour, DisplaySetting, VideoInput, VideoMode, PatternSequence, SequenceRun}
use Rattle.command.proofs.rules.Laws.{tested}
use Rattle.command.proofs.rules.Rows.{goes_on, ends_there}
use Rattle.command.proofs.rules.settings_in_rule.Goals as goal
use Rattle.command.proofs.rules.settings_in_rule.Goals.{then-is_none, else-is_none, then-is_none-2, else-is_none-2, then-is_none-3, else-is_none-3, then-is_none-4, else-is_none-4, then-is_none-5, else-is_none-5, then-is_none-6, else-is_none-6, then-is_none-7, else-is_none-7, then-is_none-8, else-is_none-8}

-- the commands in the order in which they are asked, and the rules of the first of them
abbrev asked : List Command
asked = DisplayMode ∷ TestPattern ∷ LedCurrent ∷ StaticColour ∷ DisplaySetting ∷ VideoMode ∷ PatternSequence ∷ SequenceRun ∷ []

abbrev first : ℕ → Settings → Bool
first zero s = true
first (suc n) s = let c = get_or asked n DisplayMode in first n s && allowed c (values_of c s)

-- and that a run is not blocked
abbrev free : Settings → Bool
free s = not (blocked SequenceRun (values_of SequenceRun s) s.mode)

-- the order in which they are asked, and the table's
in_order_lem : (s : Settings) → settings_in_rule s ≡ (first 8 s && free s && allowed VideoInput (values_of VideoInput s))
unfolding settings_in_rule all_allowed
in_order_lem s =
    bool_cases (allowed VideoInput (values_of VideoInput s))
    (λ e. simp (e, and_assoc, and-true))
    (λ e. simp (e, and-false, and_assoc))

pub returns-then-not-blocked : goal.returns-then-not-blocked
returns-then-not-blocked c =
    let s = c.args.s in
    let one = tested (mode_fields s.mode) c.display_mode.ensures c.is_none.ensures in
    let two : c.if-is_none.value ≡ first 2 s =
    elim c.if-is_none.branch [
      | then-is_none w ↦ goes_on one w.if-is_none.true (w.value-is ∙ tested (pattern_fields s.pattern) w.test_pattern.ensures w.is_none-then-is_none.ensures)
      | else-is_none w ↦ ends_there _ one w.if-is_none.false w.value-is
    ] in
    let three : c.if-is_none-2.value ≡ first 3 s =
    elim c.if-is_none-2.branch [
      | then-is_none-2 w ↦ goes_on two w.if-is_none-2.true (w.value-is ∙ tested (current_fields s.current) w.led_current.ensures w.is_none-then-is_none-2.ensures)
      | else-is_none-2 w ↦ ends_there _ two w.if-is_none-2.false w.value-is
    ] in
    let four : c.if-is_none-3.value ≡ first 4 s =
    elim c.if-is_none-3.branch [
      | then-is_none-3 w ↦ goes_on three w.if-is_none-3.true (w.value-is ∙ tested (colour_fields s.colour) w.static_colour.ensures w.is_none-then-is_none-3.ensures)
      | else-is_none-3 w ↦ ends_there _ three w.if-is_none-3.false w.value-is
    ] in
    let five : c.if-is_none-4.value ≡ first 5 s =
    elim c.if-is_none-4.branch [
      | then-is_none-4 w ↦ goes_on four w.if-is_none-4.true (w.value-is ∙ tested (setting_fields s.setting) w.display_setting.ensures w.is_none-then-is_none-4.ensures)
      | else-is_none-4 w ↦ ends_there _ four w.if-is_none-4.false w.value-is
    ] in
    let six : c.if-is_none-5.value ≡ first 6 s =
    elim c.if-is_none-5.branch [
      | then-is_none-5 w ↦ goes_on five w.if-is_none-5.true (w.value-is ∙ tested (video_fields s.video) w.video_mode.ensures w.is_none-then-is_none-5.ensures)
      | else-is_none-5 w ↦ ends_there _ five w.if-is_none-5.false w.value-is
    ] in
    let seven : c.if-is_none-6.value ≡ first 7 s =
    elim c.if-is_none-6.branch [
      | then-is_none-6 w ↦ goes_on six w.if-is_none-6.true (w.value-is ∙ tested (sequence_fields s.sequence) w.pattern_sequence.ensures w.is_none-then-is_none-6.ensures)
      | else-is_none-6 w ↦ ends_there _ six w.if-is_none-6.false w.value-is
    ] in
    let eight : c.if-is_none-7.value ≡ first 8 s =
    elim c.if-is_none-7.branch [
      | then-is_none-7 w ↦ goes_on seven w.if-is_none-7.true (w.value-is ∙ tested (run_fields s.run) w.sequence_run.ensures w.is_none-then-is_none-7.ensures)
      | else-is_none-7 w ↦ ends_there _ seven w.if-is_none-7.false w.value-is
    ] in
    let nine : c.if-is_none-8.value ≡ (first 8 s && free s) =
    elim c.if-is_none-8.branch [
      | then-is_none-8 w ↦ goes_on eight w.if-is_none-8.true (w.value-is ∙ ap not w.blocked.ensures)
      | else-is_none-8 w ↦ ends_there _ eight w.if-is_none-8.false w.value-is
    ] in
    rw (in_order_lem s, sym nine ∙ c.if-not-blocked.true)
    (tested (input_fields s.input) c.video_input.ensures c.is_none-then-not-blocked.ensures)

pub returns-else-not-blocked : goal.returns-else-not-blocked
returns-else-not-blocked c =
    let s = c.args.s in
    let one = tested (mode_fields s.mode) c.display_mode.ensures c.is_none.ensures in
    let two : c.if-is_none.value ≡ first 2 s =
    elim c.if-is_none.branch [
      | then-is_none w ↦ goes_on one w.if-is_none.true (w.value-is ∙ tested (pattern_fields s.pattern) w.test_pattern.ensures w.is_none-then-is_none.ensures)
      | else-is_none w ↦ ends_there _ one w.if-is_none.false w.value-is
    ] in
    let three : c.if-is_none-2.value ≡ first 3 s =
    elim c.if-is_none-2.branch [
      | then-is_none-2 w ↦ goes_on two w.if-is_none-2.true (w.value-is ∙ tested (current_fields s.current) w.led_current.ensures w.is_none-then-is_none-2.ensures)
      | else-is_none-2 w ↦ ends_there _ two w.if-is_none-2.false w.value-is
    ] in
    let four : c.if-is_none-3.value ≡ first 4 s =
    elim c.if-is_none-3.branch [
      | then-is_none-3 w ↦ goes_on three w.if-is_none-3.true (w.value-is ∙ tested (colour_fields s.colour) w.static_colour.ensures w.is_none-then-is_none-3.ensures)
      | else-is_none-3 w ↦ ends_there _ three w.if-is_none-3.false w.value-is
    ] in
    let five : c.if-is_none-4.value ≡ first 5 s =
    elim c.if-is_none-4.branch [
      | then-is_none-4 w ↦ goes_on four w.if-is_none-4.true (w.value-is ∙ tested (setting_fields s.setting) w.display_setting.ensures w.is_none-then-is_none-4.ensures)
      | else-is_none-4 w ↦ ends_there _ four w.if-is_none-4.false w.value-is
    ] in
    let six : c.if-is_none-5.value ≡ first 6 s =
    elim c.if-is_none-5.branch [
      | then-is_none-5 w ↦ goes_on five w.if-is_none-5.true (w.value-is ∙ tested (video_fields s.video) w.video_mode.ensures w.is_none-then-is_none-5.ensures)
      | else-is_none-5 w ↦ ends_there _ five w.if-is_none-5.false w.value-is
    ] in
    let seven : c.if-is_none-6.value ≡ first 7 s =
    elim c.if-is_none-6.branch [
      | then-is_none-6 w ↦ goes_on six w.if-is_none-6.true (w.value-is ∙ tested (sequence_fields s.sequence) w.pattern_sequence.ensures w.is_none-then-is_none-6.ensures)
      | else-is_none-6 w ↦ ends_there _ six w.if-is_none-6.false w.value-is
    ] in
    let eight : c.if-is_none-7.value ≡ first 8 s =
    elim c.if-is_none-7.branch [
      | then-is_none-7 w ↦ goes_on seven w.if-is_none-7.true (w.value-is ∙ tested (run_fields s.run) w.sequence_run.ensures w.is_none-then-is_none-7.ensures)
      | else-is_none-7 w ↦ ends_there _ seven w.if-is_none-7.false w.value-is
    ] in
    let nine : c.if-is_none-8.value ≡ (first 8 s && free s) =
    elim c.if-is_none-8.branch [
      | then-is_none-8 w ↦ goes_on eight w.if-is_none-8.true (w.value-is ∙ ap not w.blocked.ensures)
      | else-is_none-8 w ↦ ends_there _ eight w.if-is_none-8.false w.value-is
    ] in
    rw (in_order_lem s, sym nine ∙ c.if-not-blocked.false) c.if-not-blocked.false
