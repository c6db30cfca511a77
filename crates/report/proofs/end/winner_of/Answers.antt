-- `winner_of` meets its contract.
use Rattle.report.proofs.record.Laws.{handed_on}
use Rattle.report.proofs.end.Laws.{winner_missed, end_16, shipping_missed, end_20, end_17, end_is}
use Rattle.report.proofs.end.winner_of.Goals as goal

pub returns-in_err-record_at : goal.returns-in_err-record_at
returns-in_err-record_at c =
    let a = c.args in
    rw (handed_on _ _ c.from_residual.ensures.1) (winner_missed a.r.now a.at a.count a.best c.in_err-record_at.ensures)

pub returns-then-count-winner : goal.returns-then-count-winner
returns-then-count-winner c =
    let a = c.args in
    rw c.at.ensures
    (end_16 a.r.now a.at a.count a.best c.in_ok-record_at.ensures c.word_at-winner.ensures.0 c.if-count-winner.true)

pub returns-in_err-n : goal.returns-in_err-n
returns-in_err-n c =
    let a = c.args in
    rw (handed_on _ _ c.from_residual-in_err-n.ensures.1)
    (shipping_missed a.r.now a.at a.count a.best c.in_ok-record_at.ensures c.word_at-winner.ensures.0 c.if-count-winner.false
    c.in_err-n.ensures)

pub returns-then-end-r : goal.returns-then-end-r
returns-then-end-r c =
    let a = c.args in
    rw c.at-then-end-r.ensures
    (end_20 a.r.now a.at a.count a.best c.in_ok-record_at.ensures c.word_at-winner.ensures.0 c.if-count-winner.false c.in_ok-n.ensures
    c.if-end-r.true)

pub returns-then-winner-best : goal.returns-then-winner-best
returns-then-winner-best c =
    let a = c.args in
    rw c.at-then-winner-best.ensures
    (end_17 a.r.now a.at a.count a.best c.in_ok-record_at.ensures c.word_at-winner.ensures.0 c.if-count-winner.false c.in_ok-n.ensures
    c.if-end-r.false c.if-winner-best.true)

pub returns : goal.returns
returns c =
    let a = c.args in
    end_is a.r.now a.at a.count a.best c.in_ok-record_at.ensures c.word_at-winner.ensures.0 c.if-count-winner.false c.in_ok-n.ensures
    c.if-end-r.false c.if-winner-best.false
