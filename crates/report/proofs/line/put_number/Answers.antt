-- `put_number` meets its contract: two runs of stores, one after the other.
use Rattle.std.proofs.Common.{ap, length, arith}
use Rattle.std.proofs.Math.Seq.{length-sets}
use Rattle.report.specs.Line.{decimal}
use Rattle.report.proofs.line.Laws.{decimal_few, put_two}
use Rattle.report.proofs.line.put_number.Goals as goal

-- there is room for the most digits
pub put-requires : goal.put-requires
put-requires c =
    let a = c.args in
    let e = c.put-after.ensures in
    omega (arith, e.0, ap length e.1, length-sets a.out.now a.at a.name.now, ap length c.digits_of.ensures, decimal_few a.n (omega arith), c.requires)

pub returns : goal.returns
returns c =
    let a = c.args in
    put_two a.out.now a.name.now (decimal a.n) a.at c.put-after.ensures c.digits_of.ensures c.put.ensures
