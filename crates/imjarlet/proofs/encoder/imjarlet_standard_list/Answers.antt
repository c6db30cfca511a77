-- `imjarlet_standard_list` meets its contract: that of `command::standard_list`, its answer as numbers.
use Rattle.command.specs.Encoder.{outcome_of, list_call}
use Rattle.imjarlet.proofs.encoder.Laws.{emitted, list_says}
use Rattle.imjarlet.proofs.encoder.imjarlet_standard_list.Goals as goal

pub returns : goal.returns
returns c =
    let e = c.standard_list.ensures in
    emitted (list_call c.args.settings.now c.args.out.now) (outcome_of c.standard_list.result) (list_says c.args.settings.now c.args.out.now) e.0 c.encoded.ensures e.1
