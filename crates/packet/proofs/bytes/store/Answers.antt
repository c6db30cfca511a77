-- `store` meets its contract.
use Rattle.std.proofs.Common.{◌≡◌, ℕ, ◌+◌, ◌-◌, ◌<◌, ◌≤◌, List, length, get_or, take, set, sym, ◌∙◌, arith, length-take-le, drop-drop, take_all, take-suc, add-one}
use Rattle.std.proofs.Math.Seq.{take-suc-set}
use Rattle.packet.proofs.bytes.Laws.{sets_past, sets_clipped}
use Rattle.packet.proofs.bytes.store.Goals as goal

-- one byte more stands in the room
one_more : (room b : List ℕ) (i : ℕ) → i < length room → i < length b → take i room ≡ take i b → take (i + 1) (set room i (get_or b i 0)) ≡ take (i + 1) b
one_more room b i r h e = rw (add-one i, take-suc-set room i (get_or b i 0) r, take-suc b i 0 h, e)

-- the room is filled
filled : (room b : List ℕ) (i : ℕ) → length room ≤ i → length b ≤ i → take i room ≡ take i b → room ≡ b
filled room b i r h e = sym (take_all i room r) ∙ e ∙ take_all i b h

pub loop-i-preserved : goal.loop-i-preserved
loop-i-preserved c =
    let a = c.args in
    let n = c.min-n.result in
    let h = c.loop-i-test.true in
    let l = length-take-le n a.b.now (omega arith) in
    one_more c.loop-i.room (take n a.b.now) c.loop-i.i (omega (arith, h, c.loop-i.auto.room)) (omega (arith, h, l)) c.loop-i.invariant

pub returns-after-loop-i : goal.returns-after-loop-i
returns-after-loop-i c =
    let a = c.args in
    let n = c.min-n.result in
    let h = c.loop-i-test.false in
    let l = length-take-le n a.b.now (omega arith) in
    let e : a.at + n - a.at ≡ n = omega arith in
    let f = filled c.loop-i.room (take n a.b.now) c.loop-i.i (omega (arith, h, c.loop-i.auto.room)) (omega (arith, h, l)) c.loop-i.invariant in
    rw (e, drop-drop n a.at a.into.now, f) (sym (sets_clipped a.b.now a.into.now a.at n (omega arith) (omega (arith, c.min-n.ensures))))

pub returns-else-at-into : goal.returns-else-at-into
returns-else-at-into c = sym (sets_past c.args.b.now c.args.into.now c.args.at c.if-at-into.false)
