-- `carry_out` meets its contract, test by test.
use Rattle.std.proofs.Common.{◌≡◌, length, refl, ap, sym, ◌∙◌, arith, rules}
use Rattle.std.proofs.lemmas.Bool.{lt-ltb, le-ltb}
use Rattle.command.specs.Controller.{transfer_of, held_in}
use Rattle.command.specs.Asking.{carry_call}
use Rattle.command.proofs.controller.Laws.{rule_parts}
use Rattle.command.proofs.transfer.Laws.{held_most}
use Rattle.command.proofs.carrying.Laws.{drawn_none, drawn_some, part_is, brought, carry_call_lem}
use Rattle.command.proofs.controller.Controller.carry_out.Goals as goal

pub returns-then-out-lt-OUTPUT : goal.returns-then-out-lt-OUTPUT
unfolding carry_call
returns-then-out-lt-OUTPUT c = rw (lt-ltb _ 64 c.if-out-lt-OUTPUT.true)

pub returns-then-not-in_rule : goal.returns-then-not-in_rule
unfolding carry_call
returns-then-not-in_rule c = rw (le-ltb _ 64 c.if-out-lt-OUTPUT.false, sym c.in_rule.ensures ∙ c.if-not-in_rule.true)

pub returns-in_default : goal.returns-in_default
unfolding carry_call
returns-in_default c =
    let f = drawn_none c.args.judgement.now (rw c.in_default.is at c.meaning.ensures) in
    rw (le-ltb _ 64 c.if-out-lt-OUTPUT.false, sym c.in_rule.ensures ∙ c.if-not-in_rule.false, f)

pub is_as_judged-requires : goal.is_as_judged-requires
is_as_judged-requires c =
    let s = c.args.self.now in
    (rule_parts s.settings s.registers (sym c.in_rule.ensures ∙ c.if-not-in_rule.false)).transfer

pub returns-then-not-is_as_judged : goal.returns-then-not-is_as_judged
unfolding carry_call
returns-then-not-is_as_judged c =
    let d = drawn_some c.args.judgement.now c.in-Some.j c.in-Some.ensures in
    rw (le-ltb _ 64 c.if-out-lt-OUTPUT.false, sym c.in_rule.ensures ∙ c.if-not-in_rule.false, d.0, sym c.is_as_judged.ensures ∙ c.if-not-is_as_judged.true)

pub end-count-requires : goal.end-count-requires
end-count-requires c =
    let s = c.args.self.now in
    let p = rule_parts s.settings s.registers (sym c.in_rule.ensures ∙ c.if-not-in_rule.false) in
    rw (c.held-held.ensures ∙ ap held_in c.transfer.ensures) (held_most (transfer_of s.registers) p.transfer)

pub carry-requires-clause-rule : goal.carry-requires-clause-rule
carry-requires-clause-rule c =
    let s = c.args.self.now in
    (rule_parts s.settings s.registers (sym c.in_rule.ensures ∙ c.if-not-in_rule.false)).transfer

pub returns : goal.returns
returns c =
    let s = c.args.self.now in
    let j = c.args.judgement.now in
    let rule = sym c.in_rule.ensures ∙ c.if-not-in_rule.false in
    let d = drawn_some j c.in-Some.j c.in-Some.ensures in
    let same = sym c.is_as_judged.ensures ∙ c.if-not-is_as_judged.false in
    let counted = c.held-held.ensures ∙ ap held_in c.transfer.ensures in
    let e = c.end-count.ensures in
    let l : length j.joined ≡ 1024 = search rules in
    let b = part_is j.joined c.held-held.result c.end-count.result e.0 (omega (arith, e.1, l)) in
    let w = c.carry.ensures in
    rw (carry_call_lem s j d.0 same c.args.out.now _ c.if-out-lt-OUTPUT.false rule (brought s j d.0 same c.end-count.result (rw counted at e.2)))
    (rw (w.settings, w.registers, w.buffer, w.length, w.output, c.new.ensures.0, c.new.ensures.1, b, counted, d.1) refl)
