-- `standard_list` meets its contract, test by test.
use Rattle.std.proofs.Common.{refl, le-ltb, lt-ltb}
use Rattle.command.specs.Encoder.{list_call}
use Rattle.command.proofs.encoder.standard_list.Goals as goal

pub returns-then-out-lt-LIST_OUTPUT : goal.returns-then-out-lt-LIST_OUTPUT
unfolding list_call
returns-then-out-lt-LIST_OUTPUT c = let e = lt-ltb _ 128 c.if-out-lt-LIST_OUTPUT.true in rw e (refl, refl)

pub returns-then-not-settings_in_rule : goal.returns-then-not-settings_in_rule
unfolding list_call
returns-then-not-settings_in_rule c =
    let e = le-ltb _ 128 c.if-out-lt-LIST_OUTPUT.false in
    rw (e, ← c.settings_in_rule.ensures, c.if-not-settings_in_rule.true) (refl, refl)

pub returns : goal.returns
unfolding list_call
returns c =
    let e = le-ltb _ 128 c.if-out-lt-LIST_OUTPUT.false in
    rw (e, ← c.settings_in_rule.ensures, c.if-not-settings_in_rule.false, c.put_list.ensures.0, c.put_list.ensures.1) (refl, refl)
