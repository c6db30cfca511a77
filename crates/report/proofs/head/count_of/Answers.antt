-- `count_of` meets its contract.
use Rattle.report.proofs.record.Laws.{handed_on}
use Rattle.report.proofs.head.Laws.{head_long, head_missed, head_14, head_15, head_is}
use Rattle.report.proofs.head.count_of.Goals as goal

pub returns-then-r-gt-LONGEST : goal.returns-then-r-gt-LONGEST
returns-then-r-gt-LONGEST c = rw c.at.ensures (head_long c.args.r.now c.if-r-gt-LONGEST.true)

pub returns-in_err-record_at : goal.returns-in_err-record_at
returns-in_err-record_at c =
    rw (handed_on _ _ c.from_residual.ensures.1) (head_missed c.args.r.now c.if-r-gt-LONGEST.false c.in_err-record_at.ensures)

pub returns-then-version-ne-VERSION : goal.returns-then-version-ne-VERSION
returns-then-version-ne-VERSION c =
    rw c.at-then-version-ne-VERSION.ensures
    (head_14 c.args.r.now c.if-r-gt-LONGEST.false c.in_ok-record_at.ensures c.word_at-version.ensures.0 c.word_at-count.ensures.0
    c.if-version-ne-VERSION.true)

pub returns-then-count-eq0 : goal.returns-then-count-eq0
returns-then-count-eq0 c =
    rw c.at-then-count-eq0.ensures
    (head_15 c.args.r.now c.if-r-gt-LONGEST.false c.in_ok-record_at.ensures c.word_at-version.ensures.0 c.word_at-count.ensures.0
    c.if-version-ne-VERSION.false c.if-count-eq0.true)

pub returns : goal.returns
returns c =
    head_is c.args.r.now c.if-r-gt-LONGEST.false c.in_ok-record_at.ensures c.word_at-version.ensures.0 c.word_at-count.ensures.0
    c.if-version-ne-VERSION.false c.if-count-eq0.false
