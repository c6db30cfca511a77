-- `sum_with` meets its contract.
use Rattle.std.proofs.Common.{◌+◌, ◌%◌, ◌∙◌, ap, sym, arith, rules, take_all}
use Rattle.std.specs.List.{fold}
use Rattle.std.proofs.lemmas.List.Sums.{fold_more}
use Rattle.packet.proofs.bytes.Laws.{fold_sum}
use Rattle.packet.proofs.bytes.sum_with.Goals as goal

pub loop-i-preserved : goal.loop-i-preserved
loop-i-preserved c =
    let a = c.args in
    rw c.loop-i.invariant (sym (fold_more (λ s x. (s + x) % 256) a.from a.b.now c.loop-i.i 0 (omega (arith, c.loop-i-test.true))))

pub returns : goal.returns
returns c =
    let a = c.args in
    c.loop-i.invariant
    ∙ ap (fold (λ s x. (s + x) % 256) a.from) (take_all c.loop-i.i a.b.now (omega (arith, c.loop-i-test.false)))
    ∙ fold_sum a.from a.b.now (search rules)
