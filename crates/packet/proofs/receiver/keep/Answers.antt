-- `keep` meets its contract.
use Rattle.std.proofs.Common.{◌∙◌}
use Rattle.packet.proofs.receiver.Steps.{dropped}
use Rattle.packet.proofs.receiver.keep.Goals as goal

pub returns : goal.returns
returns c =
    c.store.ensures
    ∙ rw (c.saturating_sub-2.ensures, dropped c.args.b.now c.args.received (rw c.saturating_sub.ensures at c.min-skip.ensures))
