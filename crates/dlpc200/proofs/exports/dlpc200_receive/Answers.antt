-- `dlpc200_receive` meets its contract: that of `Device::receive`, its answer told as numbers.
use Rattle.packet.proofs.Answering.{numbers_say}
use Rattle.dlpc200.specs.Endpoint.{receive_call}
use Rattle.dlpc200.proofs.exports.Laws.{answer_sayable}
use Rattle.dlpc200.proofs.exports.dlpc200_receive.Goals as goal

pub returns : goal.returns
returns c =
    let a = c.args in
    let e = c.receive.ensures in
    let told = rw e.0 at c.told.ensures in
    record {
      told = told;
      says = numbers_say (receive_call a.device.now a.input.now a.out.now).answer (answer_sayable a.device.now a.input.now a.out.now) told;
      leaves = e.1;
      writes = e.2;
    }
