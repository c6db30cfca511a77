-- `write_line` meets its contract: in each arm the verdict is known.
use Rattle.report.specs.Line.{text_of, line_of}
use Rattle.report.proofs.line.write_line.Goals as goal

pub returns-in-Ok : goal.returns-in-Ok
unfolding line_of text_of
returns-in-Ok g c = rw (c.in-Ok.is, g.met.R.Tells.accepts c.in-Ok.yes) c.put_sentence.ensures

pub returns-in-Err : goal.returns-in-Err
returns-in-Err g c = rw (c.in-Err.is, c.told-number.ensures) c.write_refusal.ensures
