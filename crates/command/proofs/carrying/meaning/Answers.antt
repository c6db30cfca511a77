-- `meaning` meets its contract: by its codes, and with none test by test.
use Rattle.std.proofs.Common.{sym, ◌∙◌}
use Rattle.std.proofs.lemmas.Bool.{eq-eqb, ne_eqb}
use Rattle.command.proofs.carrying.Laws.{drawn_told, drawn_out, drawn_unknown, drawn_known}
use Rattle.command.proofs.carrying.meaning.Goals as goal

pub returns-then-any : goal.returns-then-any
returns-then-any c =
    let j = c.args.judgement.now in
    sym
    (drawn_told j.ruling j.joined (ne_eqb j.ruling.codes 0 c.if-n-ne0.true)
    ∙ rw (← c.told-k.ensures, ← c.any.ensures, c.if-any.true))

pub returns-then-n-ne0 : goal.returns-then-n-ne0
returns-then-n-ne0 c =
    let j = c.args.judgement.now in
    sym
    (drawn_told j.ruling j.joined (ne_eqb j.ruling.codes 0 c.if-n-ne0.true)
    ∙ rw (← c.told-k.ensures, ← c.any.ensures, c.if-any.false))

pub returns-then-not-ruling_in_rule : goal.returns-then-not-ruling_in_rule
returns-then-not-ruling_in_rule c =
    let j = c.args.judgement.now in
    sym
    (drawn_out j.ruling j.joined (eq-eqb j.ruling.codes 0 c.if-n-ne0.false)
    (sym c.ruling_in_rule.ensures ∙ c.if-not-ruling_in_rule.true))

pub returns-in_err-c : goal.returns-in_err-c
returns-in_err-c c =
    let j = c.args.judgement.now in
    c.from_residual.ensures ∙ sym (drawn_unknown j.ruling j.joined (eq-eqb j.ruling.codes 0 c.if-n-ne0.false) (sym c.find.ensures ∙ c.in_err-c.was))

pub returns : goal.returns
returns c =
    let j = c.args.judgement.now in
    c.accepted.ensures
    ∙ sym
    (drawn_known j.ruling j.joined c.in_ok-c.c (eq-eqb j.ruling.codes 0 c.if-n-ne0.false) (sym c.find.ensures ∙ c.in_ok-c.was)
    (sym c.ruling_in_rule.ensures ∙ c.if-not-ruling_in_rule.false))
