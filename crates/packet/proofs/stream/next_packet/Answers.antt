-- `next_packet` meets its contract.
use Rattle.std.proofs.Common.{◌≡◌, ℕ, ◌+◌, ◌-◌, ◌*◌, List, length, get_or, take, drop, refl, ap, ◌∙◌, arith, length-drop, get_or-take}
use Rattle.std.specs.List.{slice_range}
use Rattle.std.proofs.lemmas.List.{take_rest}
use Rattle.packet.proofs.stream.Laws.{none_begun, none_ended, next_there}
use Rattle.packet.proofs.stream.next_packet.Goals as goal

-- what is left of a buffer from a place on
left_of : (b : List ℕ) (at : ℕ) {left : List ℕ} → left ≡ slice_range b at (length b) → left ≡ drop at b
left_of b at e = e ∙ take_rest b at

-- its first bytes
front_of : (b : List ℕ) {p : List ℕ} {m : ℕ} (n : ℕ) → p ≡ slice_range b 0 m → m ≡ n → p ≡ take n b
front_of b {p} {m} n e s = let z : m - 0 ≡ n = omega (arith, s) in e ∙ ap (λ (i : ℕ). take i b) z

-- its length field says the same in its header
said : (b : List ℕ) {n : ℕ} → n ≡ get_or b 4 0 + 256 * get_or b 5 0 → n ≡ get_or (take 6 b) 4 0 + 256 * get_or (take 6 b) 5 0
said b e = rw (get_or-take 6 b 4 0 (omega arith), get_or-take 6 b 5 0 (omega arith)) e

pub returns-in_err-left : goal.returns-in_err-left
returns-in_err-left c =
    let a = c.args in
    c.from_residual.ensures ∙ none_begun (drop a.at a.b.now) (simp length-drop (omega (arith, c.in_err-left.ensures.lookup.0)))

pub returns-then-left-lt-FRAME : goal.returns-then-left-lt-FRAME
returns-then-left-lt-FRAME c =
    let a = c.args in
    let e = left_of a.b.now a.at c.in_ok-left.ensures.lookup.0.2 in
    rw (← e) (none_begun c.in_ok-left.left.now c.if-left-lt-FRAME.true)

pub returns-in_err-packet : goal.returns-in_err-packet
returns-in_err-packet c =
    let a = c.args in
    let e = left_of a.b.now a.at c.in_ok-left.ensures.lookup.0.2 in
    rw (← e)
    (c.from_residual-in_err-packet.ensures
    ∙ none_ended c.in_ok-left.left.now refl (said c.in_ok-left.left.now c.word-size.ensures.0) (omega (arith, c.in_err-packet.ensures.lookup.0)))

pub returns : goal.returns
returns c =
    let a = c.args in
    let e = left_of a.b.now a.at c.in_ok-left.ensures.lookup.0.2 in
    let l = c.in_ok-packet.ensures.lookup.0 in
    rw (← e) (next_there c.in_ok-left.left.now refl (said c.in_ok-left.left.now c.word-size.ensures.0) (omega (arith, l.1)) (front_of c.in_ok-left.left.now (7 + c.word-size.result) l.2 (omega arith)) c.right_sum.ensures)
