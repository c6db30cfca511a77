-- `judge_write` meets its contract: by what reading the data found, then test by test.
use Rattle.std.specs.Prelude.{is_none, is_some, Option, None, Some}
use mathlib.Core.Bool.{not-not}
use Rattle.std.proofs.Common.{◌≡◌, ℕ, Bool, cond, List, ◌++◌, sym, ◌∙◌}
use Rattle.command.specs.Rules.{fields_of, allowed, wrong_byte, blocked}
use Rattle.command.specs.Value.{command_in, values_in}
use Rattle.command.specs.Inner.{parsed}
use Rattle.command.specs.Faults.{mode_fault}
use Rattle.command.specs.Judgement.{judge_write}
use Rattle.command.specs.declared.judgement.Judgement.TheVariants.{Error, Write}
use Rattle.command.specs.declared.table.Command.{Command}
use Rattle.command.specs.declared.value.Value.{Value}
use Rattle.command.proofs.rules.Laws.{tested}
use Rattle.command.proofs.judgement.Laws.{judge_parsed, write_parsed}
use Rattle.command.proofs.judgement.judge_write.Goals as goal

-- the judgement by what reading the data found
read : (c : Command) (mode : ℕ) (d : List ℕ) {p r : Option Value} → p ≡ parsed c d → p ≡ r → judge_parsed mode r ≡ judge_write c mode d
read c mode d e f = rw (← f, e) (sym (write_parsed c mode d))

-- the values are allowed where the check names no byte
rule : (v : Value) {n w : Option ℕ} → n ≡ wrong_byte (command_in v) (values_in v) → n ≡ w → allowed (command_in v) (values_in v) ≡ is_none w
rule v {w = w} e f = sym (tested (fields_of (command_in v) (values_in v)) {w = w} {t = is_none w} (sym f ∙ e) (sym (not-not (is_some w))))

-- the values are allowed, and the run is blocked or not
free : (c : Command) (mode : ℕ) (d : List ℕ) (v : Value) {p : Option Value} {n : Option ℕ} {t b : Bool} → p ≡ parsed c d → p ≡ Some v
    → n ≡ wrong_byte (command_in v) (values_in v) → n ≡ None → t ≡ blocked (command_in v) (values_in v) mode → t ≡ b
    → cond b (Error mode_fault) (Write v) ≡ judge_write c mode d
free c mode d v e f g h i k = rw (rule v g h, ← i, k) at (read c mode d e f)

pub returns-in_default : goal.returns-in_default
returns-in_default c = read c.args.c c.args.mode (c.args.held.now ++ c.args.payload.now) c.parse.ensures c.in_default.is

pub returns-in-Some-wrong_byte : goal.returns-in-Some-wrong_byte
returns-in-Some-wrong_byte c =
    rw (c.value.ensures, sym c.in-Some-wrong_byte.is ∙ c.wrong_byte.ensures)
    (rw (rule c.in-Some.v c.wrong_byte.ensures c.in-Some-wrong_byte.is) at (read c.args.c c.args.mode (c.args.held.now ++ c.args.payload.now) c.parse.ensures c.in-Some.is))

pub returns-then-blocked : goal.returns-then-blocked
returns-then-blocked c =
    free c.args.c c.args.mode (c.args.held.now ++ c.args.payload.now) c.in-Some.v c.parse.ensures c.in-Some.is
    c.wrong_byte.ensures c.in_default-wrong_byte.is c.blocked.ensures c.if-blocked.true

pub returns : goal.returns
returns c =
    free c.args.c c.args.mode (c.args.held.now ++ c.args.payload.now) c.in-Some.v c.parse.ensures c.in-Some.is
    c.wrong_byte.ensures c.in_default-wrong_byte.is c.blocked.ensures c.if-blocked.false
