-- `packet_in_rule` meets its contract.
use Rattle.packet.specs.Receiver.{packet_in_rule}
use Rattle.packet.proofs.receiver.packet_in_rule.Goals as goal

pub returns : goal.returns
unfolding packet_in_rule
returns c = rw c.word.ensures.0
