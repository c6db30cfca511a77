-- The states that the commands read: "the other states are bytes the host supplies, in their sections' ranges".
use Rattle.std.specs.Prelude.{ℕ, Bool, ◌&&◌, List, [], ◌∷◌, nat_le, Option, None, Some}
use Rattle.dlpc200.specs.declared.table.Command.{Command}
use Rattle.dlpc200.specs.declared.table.Command.TheVariants.{ParkDmd, UnparkDmd, GetDmdSoftwareParkState, GetSeqRunState, GetEepromFault, GetInitFromParallelFlashFail, GetOverallLedLampLitState}
use Rattle.dlpc200.specs.declared.states.States.{States}

-- what a command answers after the status bytes: a Get command its state, as Data[2] of its section's response
abbrev pub shown_of : States → Command → Option ℕ
shown_of s ParkDmd = None
shown_of s UnparkDmd = None
shown_of s GetDmdSoftwareParkState = Some s.park
shown_of s GetSeqRunState = Some s.sequence
shown_of s GetEepromFault = Some s.eeprom
shown_of s GetInitFromParallelFlashFail = Some s.flash
shown_of s GetOverallLedLampLitState = Some s.lit

-- as data
abbrev pub data_of : Option ℕ → List ℕ
data_of None = []
data_of (Some v) = v ∷ []

-- "park sets what 0015 reads and unpark clears it": the park state after a command that was carried out
abbrev pub park_after : Command → ℕ → ℕ
park_after ParkDmd v = 1
park_after UnparkDmd v = 0
park_after GetDmdSoftwareParkState v = v
park_after GetSeqRunState v = v
park_after GetEepromFault v = v
park_after GetInitFromParallelFlashFail v = v
park_after GetOverallLedLampLitState v = v

-- each state is in its section's range: 0 or 1 (6.22, 6.23, 6.24, 6.43), and that of 0029 from 0 to 7 (6.42)
abbrev pub in_range : States → Bool
in_range s = nat_le s.park 1 && nat_le s.sequence 1 && nat_le s.eeprom 1 && nat_le s.flash 7 && nat_le s.lit 1
