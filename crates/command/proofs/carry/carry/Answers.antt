-- `carry` meets its contract: the count of held bytes fits its field.
use Rattle.std.proofs.Common.{ap, ◌∙◌}
use Rattle.command.specs.Controller.{transfer_in_rule}
use Rattle.command.proofs.carry.Laws.{count_fits}
use Rattle.command.proofs.carry.carry.Goals as goal

pub set_transfer-requires : goal.set_transfer-requires
set_transfer-requires c =
    let a = c.args in
    rw c.transfer_after.ensures.0
    (count_fits c.transfer.result a.payload.now a.j (ap transfer_in_rule c.transfer.ensures ∙ c.requires.rule) c.requires.held)
