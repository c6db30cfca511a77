-- `receive` meets its contract: it refuses, waits, or settles the packet that is complete.
use Rattle.std.proofs.Common.{◌≡◌, ℕ, ◌≤◌, true, false, List, length, sym, ◌∙◌, ap, le-ltb, lt-ltb}
use Rattle.std.specs.Prelude.{is_some}
use Rattle.packet.specs.Receiver.{Received, receiving}
use Rattle.command.specs.Controller.{receiver_in, in_rule}
use Rattle.command.specs.Inner.{settled}
use Rattle.command.specs.Endpoint.{judged_in, response_in, waiting, receive_call}
use Rattle.command.specs.declared.controller.Controller.{Controller}
use Rattle.command.proofs.controller.Laws.{rule_parts}
use Rattle.command.proofs.endpoint.Laws.{received_by}
use Rattle.command.proofs.controller.Controller.receive.Goals as goal

-- A call that is not refused, t being what the receiver took.
module _
    (c : Controller)
    (input out : List ℕ)
    (l : 64 ≤ length out)
    (r : in_rule c ≡ true)
    {t : Received}
    (e : t ≡ receiving 0 (receiver_in c) input) where
  waits : t.complete ≡ false → receive_call c input out ≡ waiting c t out
  unfolding receive_call
  waits f = rw (le-ltb (length out) 64 l, r, ← e, f)

  answers : t.complete ≡ true → receive_call c input out ≡ settled (received_by c t.receiver) t.right t.taken out
  unfolding receive_call response_in judged_in
  answers f = rw (le-ltb (length out) 64 l, r, ← e, f)

pub returns-then-out-lt-OUTPUT : goal.returns-then-out-lt-OUTPUT
unfolding receive_call
returns-then-out-lt-OUTPUT c = rw (c.without_byte.ensures.0, c.without_byte.ensures.1, lt-ltb _ 64 c.if-out-lt-OUTPUT.true)

pub returns-then-not-in_rule : goal.returns-then-not-in_rule
unfolding receive_call
returns-then-not-in_rule c =
    let told = c.without_byte-then-not-in_rule.ensures in
    rw (told.0, told.1, le-ltb _ 64 c.if-out-lt-OUTPUT.false, sym c.in_rule.ensures ∙ c.if-not-in_rule.true)

pub settle-requires-clause-rule : goal.settle-requires-clause-rule
settle-requires-clause-rule c =
    let s = c.args.self.now in (rule_parts s.settings s.registers (sym c.in_rule.ensures ∙ c.if-not-in_rule.false)).transfer

pub returns-in-Some : goal.returns-in-Some
returns-in-Some c =
    let a = c.args in
    let rule = sym c.in_rule.ensures ∙ c.if-not-in_rule.false in
    let e = answers a.self.now a.input.now a.out.now c.if-out-lt-OUTPUT.false rule c.receive-t.ensures.0 (ap is_some c.in-Some.is) in
    c.settle.ensures ∙ sym (rw c.in-Some.is at e)

pub returns-in-None : goal.returns-in-None
returns-in-None c =
    let a = c.args in
    let rule = sym c.in_rule.ensures ∙ c.if-not-in_rule.false in
    let e = waits a.self.now a.input.now a.out.now c.if-out-lt-OUTPUT.false rule c.receive-t.ensures.0 (ap is_some c.in-None.is) in
    rw (c.without_byte-in-None.ensures.0, c.without_byte-in-None.ensures.1) (sym e)
