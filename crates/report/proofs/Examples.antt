-- The examples hold: the checker computes them from the definitions.
use lib.Dec.{T}
use Rattle.command.specs.Computing.{playing}
use Rattle.report.specs.Record.{◌>>=◌, need, without, reading}
use Rattle.command.specs.Data.{same_list}
use Rattle.report.specs.Report.{read_trials, read_head, read_end, read_report, score_at, end_from, none_below, earlier_above, first_lowest, every, same_settings, check_report, verdict_of, verdict}
use Rattle.report.specs.Line.{text_of, digits, decimal, sentence, line_of}
use Rattle.report.specs.Examples.{last_seen, holds, hold, examples}

pub examples_hold : T (hold examples)
unfolding playing same_list last_seen ◌>>=◌ need without reading read_trials read_head read_end read_report score_at end_from none_below earlier_above first_lowest every same_settings check_report verdict_of verdict text_of digits decimal sentence line_of holds hold
examples_hold = tt
