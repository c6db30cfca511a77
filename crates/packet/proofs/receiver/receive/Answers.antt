-- `receive` meets its contract.
use Rattle.std.proofs.Common.{◌≡◌, ℕ, ◌+◌, ◌-◌, length, ap, ◌∙◌, arith, rules}
use Rattle.packet.specs.Receiver.{receiver_of}
use Rattle.packet.proofs.receiver.Steps.{receive_completes, receive_waits}
use Rattle.packet.proofs.receiver.receive.Goals as goal

pub returns-then-before-input : goal.returns-then-before-input
returns-then-before-input c =
    let a = c.args in
    let came = receiver_of a.header.now a.sum a.received a.hold.now in
    let six : length a.header.now ≡ 6 = search rules in
    let before = c.saturating_sub-before.ensures ∙ ap (λ (n : ℕ). 6 + n - a.received) c.word.ensures.0 in (
      receive_completes a.first came a.input.now six c.store.ensures before c.min-n.ensures c.running_sum-total.ensures
          c.keep.ensures c.if-before-input.true,
      omega arith,
    )

pub returns : goal.returns
returns c =
    let a = c.args in
    let came = receiver_of a.header.now a.sum a.received a.hold.now in
    let six : length a.header.now ≡ 6 = search rules in
    let before = c.saturating_sub-before.ensures ∙ ap (λ (n : ℕ). 6 + n - a.received) c.word.ensures.0 in (
      receive_waits a.first came a.input.now six c.store.ensures before c.min-n.ensures c.running_sum-total.ensures
          c.keep.ensures c.if-before-input.false,
      omega (arith, c.saturating_sub-before.ensures, c.word.ensures.1, c.min-n.ensures),
    )
