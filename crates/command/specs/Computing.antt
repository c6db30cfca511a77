-- For proofs alone: one name that opens all that the play of bytes computes with, so that an example about packets is computed.
use Rattle.packet.specs.Number.{value_of, bytes_of}
use Rattle.packet.specs.Packet.{payload, sum, checksum, right_sum, sealed, packet_of}
use Rattle.packet.specs.Calls.{joined}
use Rattle.packet.specs.Stream.{size, has_packet, packets_in, packets, bytes_in, rest}
use Rattle.command.specs.Table.{find, command_of, size_of}
use Rattle.command.specs.Rules.{blocked}
use Rattle.command.specs.Settings.{factory, values_after, store}
use Rattle.command.specs.Data.{split_all, join_all}
use Rattle.command.specs.Value.{data_of}
use Rattle.command.specs.Inner.{faults_of}
use Rattle.command.specs.Faults.{wrong_command, too_long, wrong_order, faults, any_fault, list_if, codes_of}
use Rattle.command.specs.Judgement.{judge_write, judge_read, judge_data, judge_as, judge}
use Rattle.command.specs.Response.{response}
use Rattle.command.specs.Player.{judged, next, judgements, responses, after, play, all_acknowledged, not_acknowledged, left_open, unfinished, offence}

unfoldable pub playing : Unit {0}
unfolding joined value_of bytes_of payload sum checksum right_sum sealed packet_of size has_packet packets_in packets bytes_in rest find command_of size_of factory blocked values_after store split_all join_all data_of wrong_command too_long wrong_order faults_of faults any_fault list_if codes_of judge_write judge_read judge_data judge_as judge response judged next judgements responses after play all_acknowledged not_acknowledged left_open unfinished offence
playing = tt
