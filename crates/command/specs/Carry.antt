-- What a judgement changes: the settings and the open transfer.
use Rattle.std.specs.Prelude.{◌++◌}
use Rattle.command.specs.Settings.{store}
use Rattle.command.specs.Value.{command_in, values_in}
use Rattle.command.specs.Transfer.{Transfer, Closed, Opened, held}
use Rattle.command.specs.Faults.{Arrived}
use Rattle.command.specs.declared.settings.Settings.{Settings}
use Rattle.command.specs.declared.judgement.Judgement.{Judgement}
use Rattle.command.specs.declared.judgement.Judgement.TheVariants.{Error, Hold, Write, Read}

-- a write that is carried out stores its data; nothing else changes a setting
abbrev pub settings_after : Settings → Judgement → Settings
settings_after s (Error k) = s
settings_after s (Hold c) = s
settings_after s (Write v) = store (command_in v) (values_in v) s
settings_after s (Read c) = s

-- an error packet closes any open transfer; an accepted 01 opens one, 02 adds to it, 03 adds and carries it out; a read changes nothing
abbrev pub transfer_after : Transfer → Arrived → Judgement → Transfer
transfer_after t p (Error k) = Closed
transfer_after t p (Hold c) = Opened c (held t ++ p.body)
transfer_after t p (Write v) = Closed
transfer_after t p (Read c) = t
