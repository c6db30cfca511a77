-- `running_sum` meets its contract.
use Rattle.std.proofs.Common.{◌≡◌, ℕ, ◌-◌, List, length, take, drop, ◌∙◌, arith, length-drop, take_all}
use Rattle.packet.proofs.receiver.Laws.{running_stays, running_anew, running_on}
use Rattle.packet.proofs.receiver.running_sum.Goals as goal

-- the part of b from the first byte that is covered on
covered : (b : List ℕ) (n m : ℕ) → n ≡ m → take (length b - n) (drop n b) ≡ drop m b
covered b n m e = rw e (take_all (length b - m) (drop m b) (omega (arith, length-drop m b)))

pub returns-then-b-skip : goal.returns-then-b-skip
returns-then-b-skip c =
    let a = c.args in running_stays a.first a.received a.sum a.b.now (omega (arith, c.saturating_sub-skip.ensures))

pub returns-then-received-first : goal.returns-then-received-first
returns-then-received-first c =
    let a = c.args in
    c.sum_with.ensures
    ∙ running_anew a.first a.received a.sum a.b.now (omega (arith, c.saturating_sub-skip.ensures)) (omega arith) (covered a.b.now _ _ c.saturating_sub-skip.ensures)

pub returns : goal.returns
returns c =
    let a = c.args in
    c.sum_with-2.ensures ∙ running_on a.first a.received a.sum a.b.now (omega (arith, c.saturating_sub-skip.ensures)) (omega arith)
