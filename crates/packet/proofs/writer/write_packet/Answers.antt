-- `write_packet` meets its contract.
use Rattle.std.proofs.Common.{◌≡◌, suc, ◌+◌, ◌++◌, length, ◌∙◌, arith}
use Rattle.packet.specs.Number.{bytes_of}
use Rattle.packet.specs.Packet.{header, packet_of}
use Rattle.packet.proofs.writer.Laws.{too_long, no_room, has_room, sealed_front}
use Rattle.packet.proofs.writer.write_packet.Goals as goal

pub returns-then-n-gt-PAYLOAD_MAX : goal.returns-then-n-gt-PAYLOAD_MAX
returns-then-n-gt-PAYLOAD_MAX c =
    let e = too_long (length c.args.out.now) c.args.payload.now c.if-n-gt-PAYLOAD_MAX.true in
    (rw e, rw e)

pub returns-then-out-n : goal.returns-then-out-n
returns-then-out-n c =
    let e = no_room (length c.args.out.now) c.args.payload.now c.if-out-n.true in
    (rw e, rw e)

pub returns : goal.returns
unfolding packet_of bytes_of
returns c =
    let a = c.args in
    let e = has_room (length a.out.now) a.payload.now (omega arith) (omega arith) in
    let n = length a.payload.now in
    let k : n + 6 ≡ suc (suc (suc (suc (suc (suc n))))) = omega arith in (
      rw e,
      rw e
          (c.seal.ensures
          ∙ rw (c.store.ensures, c.put_header.ensures, k)
          (sealed_front (header a.h.kind a.h.cmd1 a.h.cmd2 a.h.flags n ++ a.payload.now) a.out.now (omega arith))),
    )
