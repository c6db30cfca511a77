-- `best_of` meets its contract.
use Rattle.std.proofs.Common.{arith, rules}
use Rattle.report.proofs.record.Laws.{handed_on}
use Rattle.report.proofs.trials.Turns.{Tested, walked_start, walked_better, walked_other, walked_missed, walked_some, walked_end}
use Rattle.report.proofs.trials.best_of.Goals as goal
use Rattle.report.proofs.trials.best_of.Goals.{then-is_none_or, else-is_none_or}

pub loop-i-init : goal.loop-i-init
loop-i-init c = rw c.factory-last.ensures (walked_start c.args.r.now c.requires.0)

pub returns-in_err-n : goal.returns-in_err-n
returns-in_err-n c =
    rw (handed_on _ _ c.from_residual.ensures.1) (walked_missed c.loop-i.invariant c.loop-i-test.true c.in_err-n.ensures)

pub loop-i-preserved : goal.loop-i-preserved
loop-i-preserved c =
    let w = c.loop-i.invariant in
    let due = c.in_ok-n.ensures in
    let test : Tested c.long_at-score.result c.loop-i.best c.is_none_or.result = search rules in
    elim c.if-is_none_or.branch [
      | then-is_none_or q ↦
          rw q.best-is (walked_better w due c.long_at-score.ensures c.play.ensures.0 (rw q.if-is_none_or.true at test))
      | else-is_none_or q ↦
          rw q.best-is (walked_other w due c.long_at-score.ensures c.play.ensures.0 (rw q.if-is_none_or.false at test))
    ]

pub unwrap-requires : goal.unwrap-requires
unwrap-requires c = walked_some c.loop-i.invariant (omega arith)

pub returns : goal.returns
returns c = walked_end (rw c.unwrap.ensures at c.loop-i.invariant) (omega arith)
