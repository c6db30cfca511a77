-- `allowed` meets its contract: no byte is wrong.
use Rattle.command.specs.Rules.{fields_of}
use Rattle.command.specs.Value.{command_in, values_in}
use Rattle.command.proofs.rules.Laws.{tested}
use Rattle.command.proofs.rules.allowed.Goals as goal

pub returns : goal.returns
returns c = let v = c.args.v in tested (fields_of (command_in v) (values_in v)) c.wrong_byte.ensures c.is_none.ensures
