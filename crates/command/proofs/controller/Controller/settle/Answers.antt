-- `settle` meets its contract: the packet is judged as the receiver has it, and `carry` does the rest.
use Rattle.std.proofs.Common.{◌≡◌, ℕ, min, List, length, take, sym, ap, ◌∙◌, arith, rules}
use Rattle.std.proofs.lemmas.List.{take_all}
use Rattle.packet.specs.Packet.{payload_length}
use Rattle.packet.proofs.Cases.{lt_cases}
use Rattle.command.specs.Response.{response}
use Rattle.command.specs.Endpoint.{judged_in, response_in}
use Rattle.command.proofs.controller.Controller.settle.Goals as goal

-- the payload is what the hold has of it
in_hold : (hold : List ℕ) (n m : ℕ) → length hold ≡ 1024 → n ≡ min m 1024 → take n hold ≡ take m hold
in_hold hold n m l e =
    lt_cases m 1024
    (λ h. let f : n ≡ m = omega arith in ap (λ (i : ℕ). take i hold) f)
    (λ h. take_all n hold (omega arith) ∙ sym (take_all m hold (omega arith)))

pub returns : goal.returns
unfolding response_in judged_in response
returns c =
    let s = c.args.self.now in
    let n : length s.hold ≡ 1024 = search rules in
    let w : take c.min-n.result s.hold ≡ take (payload_length s.registers.header) s.hold =
    in_hold s.hold c.min-n.result (payload_length s.registers.header) n (rw c.word.ensures.0 at c.min-n.ensures) in
    let left = c.carry-length.ensures in
    rw (c.wrong.ensures, left.settings, left.registers, left.buffer, left.length, left.output, c.new.ensures.0, c.new.ensures.1, c.judge-j.ensures, c.transfer-t.ensures, w)
