-- The loop of `put_list`: the writes of the commands passed stand at the start of the output.
use Rattle.std.proofs.Common.{◌≡◌, length, take}
use Rattle.packet.specs.Writer.{written}
use Rattle.command.specs.Table.{table}
use Rattle.command.specs.Encoder.{list_of}
use Rattle.command.proofs.encoder.put_list.Given as goal

abbrev pub invariant-loop-c : goal.invariant-loop-c
invariant-loop-c l =
    record {
      size : l.at ≡ length (list_of (take l.c-index table) l.s);
      output : l.out ≡ written (list_of (take l.c-index table) l.s) l.fn.out;
    }
