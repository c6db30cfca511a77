-- The seven commands that the request starts with: their IDs, and the CMD1 and the data size of their packets.
use Rattle.std.specs.Prelude.{ℕ, cond, List, [], ◌∷◌, ◌==◌, Option, None, Some}
use Rattle.dlpc200.specs.Packet.{write, read}
use Rattle.dlpc200.specs.declared.table.Command.{Command}
use Rattle.dlpc200.specs.declared.table.Command.TheVariants.{ParkDmd, UnparkDmd, GetDmdSoftwareParkState, GetSeqRunState, GetEepromFault, GetInitFromParallelFlashFail, GetOverallLedLampLitState}

-- the commands in the order of their sections: 6.6, 6.7, 6.22, 6.23, 6.24, 6.42, 6.43
abbrev pub table : List Command
table =
    ParkDmd ∷ UnparkDmd ∷ GetDmdSoftwareParkState ∷ GetSeqRunState ∷ GetEepromFault ∷ GetInitFromParallelFlashFail ∷ GetOverallLedLampLitState ∷ []

-- the extended packet ID, as the section's title has it
abbrev pub id_for : Command → ℕ
id_for ParkDmd = 0x0005
id_for UnparkDmd = 0x0006
id_for GetDmdSoftwareParkState = 0x0015
id_for GetSeqRunState = 0x0016
id_for GetEepromFault = 0x0017
id_for GetInitFromParallelFlashFail = 0x0029
id_for GetOverallLedLampLitState = 0x002A

-- section 6: WRITE "for set/enable/configure type functionality", READ "for status/query type functionality"
abbrev pub cmd1_for : Command → ℕ
cmd1_for ParkDmd = write
cmd1_for UnparkDmd = write
cmd1_for GetDmdSoftwareParkState = read
cmd1_for GetSeqRunState = read
cmd1_for GetEepromFault = read
cmd1_for GetInitFromParallelFlashFail = read
cmd1_for GetOverallLedLampLitState = read

-- how many data bytes each section has: the two of the ID
abbrev pub size_for : Command → ℕ
size_for c = 2

unfoldable pub find : ℕ → List Command → Option Command
find id [] = None
find id (c ∷ cs) = let later = find id cs in cond (id == id_for c) (Some c) later

-- the command of an ID, if it is in the table
unfoldable pub command_of : ℕ → Option Command
command_of id = find id table
