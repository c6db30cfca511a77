-- When a controller is in rule, by its parts.
use mathlib.Core.Path.{◌≡◌}
use mathlib.Core.Bool.{true, ◌&&◌}
use Rattle.packet.specs.Receiver.{packet_in_rule}
use Rattle.packet.proofs.Cases.{true_and_left, true_and_right}
use Rattle.std.proofs.lemmas.Bool.{and_from}
use Rattle.command.specs.Rules.{settings_in_rule}
use Rattle.command.specs.Controller.{transfer_of, transfer_in_rule, parts_in_rule}
use Rattle.command.specs.declared.settings.Settings.{Settings}
use Rattle.command.specs.declared.controller.Registers.{Registers}

pub record Rule (s : Settings) (r : Registers) : Type 0 where
  pub settings : settings_in_rule s ≡ true
  pub transfer : transfer_in_rule (transfer_of r) ≡ true
  pub packet : packet_in_rule r.header r.received ≡ true

pub rule_parts : (s : Settings) (r : Registers) → parts_in_rule s r ≡ true → Rule s r
unfolding parts_in_rule
rule_parts s r h =
    let a = settings_in_rule s in
    let b = transfer_in_rule (transfer_of r) in
    let d = packet_in_rule r.header r.received in
    record { settings = true_and_left a b (true_and_left (a && b) d h); transfer = true_and_right a b (true_and_left (a && b) d h); packet = true_and_right (a && b) d h }

pub rule_whole : (s : Settings) (r : Registers) → Rule s r → parts_in_rule s r ≡ true
unfolding parts_in_rule
rule_whole s r h =
    let a = settings_in_rule s in
    let b = transfer_in_rule (transfer_of r) in
    let d = packet_in_rule r.header r.received in
    and_from (a && b) d (and_from a b h.settings h.transfer) h.packet
