-- `imjarlet_receive` meets its contract: that of `Controller::receive`, its answer as numbers, and the wrong byte as one.
use Rattle.std.proofs.Common.{ap}
use Rattle.packet.proofs.Answering.{numbers_say}
use Rattle.command.specs.Endpoint.{After, receive_call}
use Rattle.imjarlet.proofs.endpoint.Laws.{answer_sayable}
use Rattle.imjarlet.proofs.endpoint.imjarlet_receive.Goals as goal

pub returns : goal.returns
returns c =
    let e = c.receive-reply.ensures in
    let u = c.args in
    let told = rw (ap (λ (x : After). x.answer) e) at c.told.ensures in
    record {
      performed = record {
        told = told;
        says = numbers_say (receive_call u.c.now u.input.now u.out.now).answer (answer_sayable u.c.now u.input.now u.out.now) told;
        leaves = ap (λ (x : After). x.controller) e;
        writes = ap (λ (x : After). x.output) e;
      };
      names = rw (ap (λ (x : After). x.wrong) e) at c.told_byte.ensures;
    }
