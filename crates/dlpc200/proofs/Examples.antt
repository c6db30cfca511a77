-- The table of examples, computed.
use Rattle.std.proofs.Common.{refl}
use Rattle.packet.specs.Number.{bytes_of}
use Rattle.packet.specs.Packet.{payload, sum}
use Rattle.packet.specs.Stream.{size, has_packet, packets_in, packets}
use Rattle.packet.specs.Calls.{joined}
use lib.Count.{ones_in, ones}
use Rattle.dlpc200.specs.Packet.{checksum, right_sum, packet_of}
use Rattle.dlpc200.specs.Table.{find, command_of}
use Rattle.dlpc200.specs.Status.{fault_bits}
use Rattle.dlpc200.specs.Judgement.{command_in, wrong_cmd1, wrong_size, faults_of, judge}
use Rattle.dlpc200.specs.Response.{response}
use Rattle.dlpc200.specs.Playing.{judged, answer_to, next, responses, after}
use Rattle.dlpc200.specs.Examples.{answers, given, expected, examples, ExamplesHold}

pub examples_hold : ExamplesHold
unfolding bytes_of payload sum size has_packet packets_in packets ones_in ones checksum right_sum packet_of find command_of fault_bits command_in wrong_cmd1 wrong_size faults_of judge response judged answer_to next responses after joined answers given expected examples
examples_hold = refl
