-- `judge` meets its contract: it refuses, or the packet is judged and its judgement told in numbers.
use Rattle.std.proofs.Common.{◌≡◌, ℕ, ◌-◌, ◌≤◌, true, false, List, length, take, drop, ap, sym, ◌∙◌, arith, rules}
use Rattle.std.proofs.lemmas.Bool.{ne_eqb}
use Rattle.std.proofs.lemmas.List.{length-take-le}
use Rattle.std.specs.Prelude.{Some}
use Rattle.packet.specs.Packet.{payload, payload_length, right_sum}
use Rattle.packet.specs.Stream.{size, has_packet, next_in}
use Rattle.packet.specs.declared.stream.WholePacket.{WholePacket}
use Rattle.packet.proofs.StreamLaws.{next_some, next_none, seven, payload_length_lem}
use Rattle.command.specs.Faults.{arrived}
use Rattle.command.specs.Judgement.{judge}
use Rattle.command.specs.Controller.{transfer_of, held_in, transfer_in, transfer_in_rule, in_rule}
use Rattle.command.specs.Asking.{one_packet}
use Rattle.command.specs.Ruling.{data_for}
use Rattle.command.specs.Inner.{held_by}
use Rattle.command.specs.declared.controller.Controller.{Controller}
use Rattle.command.specs.declared.judgement.Judgement.{Judgement}
use Rattle.command.proofs.controller.Laws.{rule_parts}
use Rattle.command.proofs.transfer.Laws.{held_is, held_most}
use Rattle.command.proofs.asking.Laws.{data_fit, out_of_rule, not_one, judges}
use Rattle.command.proofs.controller.Controller.judge.Goals as goal

-- no packet begins there,
none_there : (b : List ℕ) → has_packet b ≡ false → one_packet b ≡ false
unfolding one_packet
none_there b h = rw h

-- or it is not all of the bytes
not_all : (b : List ℕ) → (size b ≡ length b → ⊥) → has_packet b ≡ true → one_packet b ≡ false
unfolding one_packet
not_all b h e = rw (e, ne_eqb (size b) (length b) h)

-- they are one packet
module _ (p : List ℕ) {found : WholePacket} (e : next_in p ≡ Some found) (f : found.size ≡ length p) where
  there : (has_packet p ≡ true) × (size p ≡ found.size) × (right_sum p ≡ found.right)
  there = next_some p found e

  whole : size p ≡ length p
  whole = there.1 ∙ f

  least : 7 ≤ length p
  least = omega (arith, whole, seven p)

  -- its payload
  body_is : take (found.size - 1 - 6) (drop 6 p) ≡ payload p
  unfolding payload size
  body_is =
      let m : found.size - 1 - 6 ≡ payload_length p = omega (arith, there.1) in
      ap (λ (i : ℕ). take i (drop 6 p)) m

  -- the data have room
  fit : (c : Controller) → in_rule c ≡ true → length c.buffer ≡ 1024
      → {j : Judgement} → j ≡ judge c.settings.mode (transfer_in (transfer_of c.registers) c.buffer) (arrived p)
      → length (data_for (held_by (transfer_of c.registers) c.buffer) (payload p) j) ≤ 1024
  fit c r l {j} g =
      let t = transfer_of c.registers in
      let i = (rule_parts c.settings c.registers r).transfer in
      let m = held_most t i in
      let k = length-take-le (held_in t) c.buffer (omega arith) in
      rw (g, ← held_is t i c.buffer)
      (data_fit c.settings.mode (transfer_in t c.buffer) (arrived p) (omega (arith, ap length (held_is t i c.buffer))) (payload_length_lem p whole))

-- refusal 3
pub returns-then-not-in_rule : goal.returns-then-not-in_rule
returns-then-not-in_rule c =
    let a = c.args in out_of_rule a.self.now a.input.now a.judgement.now (sym c.in_rule.ensures ∙ c.if-not-in_rule.true)

-- refusal 5
pub returns-in_default : goal.returns-in_default
returns-in_default c =
    let a = c.args in
    not_one a.self.now a.input.now a.judgement.now (sym c.in_rule.ensures ∙ c.if-not-in_rule.false)
    (none_there a.input.now (next_none a.input.now (sym c.next_packet.ensures ∙ c.in_default.is)))

pub returns-then-size-input : goal.returns-then-size-input
returns-then-size-input c =
    let a = c.args in
    let t = next_some a.input.now c.in-Some.field-0 (sym c.next_packet.ensures ∙ c.in-Some.is) in
    not_one a.self.now a.input.now a.judgement.now (sym c.in_rule.ensures ∙ c.if-not-in_rule.false)
    (not_all a.input.now (λ x. c.if-size-input.true (sym t.1 ∙ x)) t.0)

pub judge_bytes-j-requires : goal.judge_bytes-j-requires
judge_bytes-j-requires c =
    let s = c.args.self.now in
    let p = c.args.input.now in
    let e = sym c.next_packet.ensures ∙ c.in-Some.is in
    let f = c.if-size-input.false in
    let r = rule_parts s.settings s.registers (sym c.in_rule.ensures ∙ c.if-not-in_rule.false) in
    record {
      rule = ap transfer_in_rule c.transfer-t.ensures ∙ r.transfer;
      whole = (least p e f, whole p e f);
      sum = sym (there p e f).2;
    }

pub overflow_sub-payload : goal.overflow_sub-payload
overflow_sub-payload c = omega (arith, least c.args.input.now (sym c.next_packet.ensures ∙ c.in-Some.is) c.if-size-input.false)

pub slice_bounds-payload-count : goal.slice_bounds-payload-count
slice_bounds-payload-count c = omega (arith, least c.args.input.now (sym c.next_packet.ensures ∙ c.in-Some.is) c.if-size-input.false)

pub slice_bounds-payload-start : goal.slice_bounds-payload-start
slice_bounds-payload-start c = omega (arith, least c.args.input.now (sym c.next_packet.ensures ∙ c.in-Some.is) c.if-size-input.false)

pub keep-count-requires : goal.keep-count-requires
keep-count-requires c =
    let s = c.args.self.now in
    let p = c.args.input.now in
    let e = sym c.next_packet.ensures ∙ c.in-Some.is in
    let f = c.if-size-input.false in
    let n : length s.buffer ≡ 1024 = search rules in
    let rule = sym c.in_rule.ensures ∙ c.if-not-in_rule.false in
    let j = rw c.transfer-t.ensures at c.judge_bytes-j.ensures in
    rw (body_is p e f, c.transfer-t.ensures)
    (record { rule = (rule_parts s.settings s.registers rule).transfer; room = fit p e f s rule n j })

pub bounds-input-1 : goal.bounds-input-1
bounds-input-1 c = omega (arith, least c.args.input.now (sym c.next_packet.ensures ∙ c.in-Some.is) c.if-size-input.false)

pub bounds-input-2 : goal.bounds-input-2
bounds-input-2 c = omega (arith, least c.args.input.now (sym c.next_packet.ensures ∙ c.in-Some.is) c.if-size-input.false)

pub ruling-judgement-requires : goal.ruling-judgement-requires
ruling-judgement-requires c =
    let s = c.args.self.now in
    let p = c.args.input.now in
    let e = sym c.next_packet.ensures ∙ c.in-Some.is in
    let f = c.if-size-input.false in
    let n : length s.buffer ≡ 1024 = search rules in
    let rule = sym c.in_rule.ensures ∙ c.if-not-in_rule.false in
    let j = rw c.transfer-t.ensures at c.judge_bytes-j.ensures in
    let k = rw (body_is p e f, c.transfer-t.ensures) at c.keep-count.ensures.0 in
    omega (arith, k, fit p e f s rule n j)

pub returns : goal.returns
returns c =
    let s = c.args.self.now in
    let p = c.args.input.now in
    let m = c.args.judgement.now in
    let e = sym c.next_packet.ensures ∙ c.in-Some.is in
    let f = c.if-size-input.false in
    let b = body_is p e f in
    judges s p m.joined m.ruling (sym c.in_rule.ensures ∙ c.if-not-in_rule.false) (there p e f).0 (whole p e f) c.transfer-t.ensures b
    c.judge_bytes-j.ensures c.keep-count.ensures.0 c.keep-count.ensures.1 (rw (c.new-code.ensures.0, c.new-code.ensures.1) at c.ruling-judgement.ensures)
