-- `word_at` meets its contract.
use Rattle.std.proofs.Common.{sym, ◌∙◌}
use Rattle.packet.proofs.NumberLaws.{value_two}
use Rattle.report.proofs.record.word_at.Goals as goal

pub returns : goal.returns
returns c = (c.word.ensures.0 ∙ sym (value_two c.args.r.now c.args.at c.requires), c.word.ensures.1)
