-- The line lies within its array.
use Rattle.std.proofs.Common.{sym, length-take-le}
use Rattle.report.proofs.LineLaws.{written_within}
use Rattle.check_report.proofs.main.Goals as goal

pub slice_bounds-line-end : goal.slice_bounds-line-end
slice_bounds-line-end c = written_within _ _ c.judge-judged.ensures

pub slice_bounds-write_all-end : goal.slice_bounds-write_all-end
slice_bounds-write_all-end c = sym (length-take-le _ _ (written_within _ _ c.judge-judged.ensures))
