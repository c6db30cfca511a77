-- `put_header` meets its contract: six stores, one after the other.
use Rattle.std.proofs.Common.{refl}
use Rattle.packet.specs.Number.{bytes_of}
use Rattle.packet.proofs.writer.put_header.Goals as goal

pub returns : goal.returns
unfolding bytes_of
returns c = rw c.to_le_bytes.ensures refl
