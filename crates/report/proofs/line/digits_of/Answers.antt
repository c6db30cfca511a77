-- `digits_of` meets its contract.
use Rattle.std.proofs.Common.{◌-◌, ◌≤◌, ◌∙◌, drop, length-drop, arith}
use Rattle.std.proofs.Math.ListN.{set, length-set}
use Rattle.std.proofs.Math.Seq.{take_all}
use Rattle.report.specs.Line.{digit}
use Rattle.report.proofs.line.Laws.{decimal_few, digits_room, digits_more, digits_last}
use Rattle.report.proofs.line.digits_of.Goals as goal

pub overflow_sub-from-in-loop-left : goal.overflow_sub-from-in-loop-left
overflow_sub-from-in-loop-left c =
    let l = c.loop-left in
    digits_room c.args.n l.left l.from l.room l.invariant.2 (omega arith) (omega (arith, decimal_few c.args.n (omega arith)))
    c.loop-left-test.true

pub loop-left-preserved : goal.loop-left-preserved
loop-left-preserved c =
    let l = c.loop-left in
    let room : 1 ≤ l.from =
    digits_room c.args.n l.left l.from l.room l.invariant.2 (omega arith) (omega (arith, decimal_few c.args.n (omega arith)))
    c.loop-left-test.true in (
      omega arith,
      simp length-set l.invariant.1,
      digits_more c.args.n l.left l.from l.room l.invariant.2 (omega arith) c.loop-left-test.true room,
    )

pub returns : goal.returns
returns c =
    let l = c.loop-left in
    let last = set l.room l.from (digit l.left) in
    take_all (20 - l.from) (drop l.from last) (omega (arith, length-drop l.from last, length-set l.room l.from (digit l.left), l.invariant.1))
    ∙ digits_last c.args.n l.left l.from l.room l.invariant.2 (omega arith) (omega arith)
