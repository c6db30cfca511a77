-- `transfer_after` meets its contract: the count of held bytes stays far below what a number can be.
use Rattle.std.proofs.Common.{arith}
use Rattle.command.proofs.transfer.Laws.{held_most}
use Rattle.command.proofs.carry.transfer_after.Goals as goal

pub overflow_add-result : goal.overflow_add-result
overflow_add-result c = omega (arith, c.held-held.ensures, held_most c.args.t c.requires)
