-- `is_as_judged` meets its contract, test by test.
use Rattle.std.proofs.Common.{◌≡◌, true, false, take, sym, ap, ◌∙◌}
use Rattle.std.proofs.lemmas.Bool.{eq-eqb, ne_eqb}
use Rattle.command.specs.Controller.{transfer_of, held_in}
use Rattle.command.specs.Ruling.{transfer_of_kept}
use Rattle.command.specs.Inner.{same_numbers}
use Rattle.command.proofs.transfer.Laws.{held_most}
use Rattle.command.proofs.carrying.Laws.{same_bytes, same_items_lem}
use Rattle.command.proofs.controller.Controller.is_as_judged.Goals as goal

pub returns-then-self-kept : goal.returns-then-self-kept
returns-then-self-kept c =
    let s = c.args.self.now in
    let j = c.args.judgement.now in
    sym
    (same_items_lem s.settings.mode j.ruling.kept.mode (transfer_of s.registers) (transfer_of_kept j.ruling.kept) s.buffer j.joined
    ∙ rw (ne_eqb s.settings.mode j.ruling.kept.mode c.if-self-kept.true))

pub returns-then-not-same_transfer : goal.returns-then-not-same_transfer
returns-then-not-same_transfer c =
    let s = c.args.self.now in
    let j = c.args.judgement.now in
    let n : same_numbers (transfer_of s.registers) (transfer_of_kept j.ruling.kept) ≡ false =
    sym (rw (c.transfer-t.ensures, c.transfer.ensures) at c.same_transfer.ensures) ∙ c.if-not-same_transfer.true in
    sym
    (same_items_lem s.settings.mode j.ruling.kept.mode (transfer_of s.registers) (transfer_of_kept j.ruling.kept) s.buffer j.joined
    ∙ rw (eq-eqb s.settings.mode j.ruling.kept.mode c.if-self-kept.false, n))

pub shared_ref_as_front-eq : goal.shared_ref_as_front-eq
shared_ref_as_front-eq c = let s = c.args.self.now in rw (c.held-n.ensures ∙ ap held_in c.transfer-t.ensures) (held_most (transfer_of s.registers) c.requires)

pub returns : goal.returns
returns c =
    let s = c.args.self.now in
    let j = c.args.judgement.now in
    let t = transfer_of s.registers in
    let n : same_numbers t (transfer_of_kept j.ruling.kept) ≡ true =
    sym (rw (c.transfer-t.ensures, c.transfer.ensures) at c.same_transfer.ensures) ∙ c.if-not-same_transfer.false in
    c.eq.ensures
    ∙ same_bytes (take c.held-n.result s.buffer) (take c.held-n.result j.joined)
    ∙ rw (c.held-n.ensures ∙ ap held_in c.transfer-t.ensures)
    (sym
    (same_items_lem s.settings.mode j.ruling.kept.mode t (transfer_of_kept j.ruling.kept) s.buffer j.joined
    ∙ rw (eq-eqb s.settings.mode j.ruling.kept.mode c.if-self-kept.false, n)))
