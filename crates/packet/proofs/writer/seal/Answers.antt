-- `seal` meets its contract.
use Rattle.std.proofs.Common.{zero-add}
use Rattle.packet.specs.Packet.{checksum}
use Rattle.packet.proofs.writer.seal.Goals as goal

pub returns : goal.returns
unfolding checksum
returns c = rw (c.sum_with-sum.ensures, zero-add)
