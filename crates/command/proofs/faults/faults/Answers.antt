-- `faults` meets its contract.
use Rattle.std.proofs.Common.{arith, rules}
use Rattle.command.specs.Inner.{faults_of}
use Rattle.command.proofs.transfer.Laws.{held_most}
use Rattle.command.proofs.faults.faults.Goals as goal

pub too_long-requires : goal.too_long-requires
too_long-requires c = (omega (arith, c.held-held.ensures, held_most c.args.t c.requires), search rules)

pub returns : goal.returns
unfolding faults_of
returns c =
    rw (
      c.wrong_command.ensures,
      c.too_long.ensures,
      c.wrong_order.ensures,
      c.held-held.ensures,
      c.is_open-active.ensures,
      c.open_for-ours.ensures,
      c.word-size.ensures.0,
    )
