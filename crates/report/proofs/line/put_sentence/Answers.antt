-- `put_sentence` meets its contract: three runs of stores, one after the other.
use Rattle.std.proofs.Common.{refl, ap, ◌++◌, length, length-append, arith}
use Rattle.std.proofs.Math.Seq.{length-sets}
use Rattle.report.specs.Line.{text_of, decimal}
use Rattle.report.proofs.line.Laws.{decimal_few, put_two, put_sentence}
use Rattle.report.proofs.line.put_sentence.Goals as goal

-- there is room for the most digits
pub put_number-last-requires : goal.put_number-last-requires
put_number-last-requires c =
    let a = c.args in
    let e = c.put_number-middle.ensures in
    omega (arith, e.0, ap length e.1, length-sets a.out.now 0 (a.first.now ++ decimal a.m), length-append a.first.now (decimal a.m), decimal_few a.m (omega arith), c.requires)

pub put-requires : goal.put-requires
put-requires c =
    let a = c.args in
    let front = a.first.now ++ decimal a.m in
    let back = a.second.now ++ decimal a.n in
    let both = put_two a.out.now front back 0 c.put_number-middle.ensures refl c.put_number-last.ensures in
    omega (
      arith,
      both.0,
      ap length both.1,
      length-sets a.out.now 0 (front ++ back),
      length-append front back,
      length-append a.first.now (decimal a.m),
      length-append a.second.now (decimal a.n),
      decimal_few a.m (omega arith),
      decimal_few a.n (omega arith),
      c.requires,
    )

pub returns : goal.returns
unfolding text_of
returns c =
    let a = c.args in
    let front = a.first.now ++ decimal a.m in
    let back = a.second.now ++ decimal a.n in
    let both = put_two a.out.now front back 0 c.put_number-middle.ensures refl c.put_number-last.ensures in
    put_sentence a.first.now a.second.now a.m a.n a.out.now c.requires.1 (decimal_few a.m (omega arith)) (decimal_few a.n (omega arith)) c.requires.0
    (put_two a.out.now (front ++ back) (text_of "\n") 0 both refl c.put.ensures)
