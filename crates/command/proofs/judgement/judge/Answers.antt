-- `judge` meets its contract: by the codes that were found, and with none by the joined data.
use Rattle.std.proofs.Common.{◌≡◌, length, ap, ◌∙◌, rules}
use Rattle.command.specs.declared.judgement.Judgement.TheVariants.{Error}
use Rattle.command.proofs.transfer.Laws.{held_most}
use Rattle.command.proofs.judgement.Laws.{judge_unknown, judge_known}
use Rattle.command.proofs.judgement.judge.Goals as goal

-- a command that is not in the table
pub returns-in_default : goal.returns-in_default
returns-in_default c =
    let a = c.args in
    let long : length a.buffer.now ≡ 1024 = search rules in
    ap Error c.faults-codes.ensures
    ∙ judge_unknown a.mode a.t a.header a.right a.buffer.now a.payload.now c.requires long _ c.find-found.ensures c.in_default.is

pub returns-then-first_group : goal.returns-then-first_group
returns-then-first_group c =
    let a = c.args in
    let long : length a.buffer.now ≡ 1024 = search rules in
    let known = judge_known a.mode a.t a.header a.right a.buffer.now a.payload.now c.requires long _ c.find-found.ensures _ c.in-Some.is in
    rw (← c.faults-codes.ensures, ← c.first_group.ensures, c.if-first_group.true) at known

-- no more bytes are held than there are
pub shared_ref_as_front-judge_data : goal.shared_ref_as_front-judge_data
shared_ref_as_front-judge_data c = rw c.held-n.ensures (held_most c.args.t c.requires)

pub returns : goal.returns
returns c =
    let a = c.args in
    let long : length a.buffer.now ≡ 1024 = search rules in
    let known = judge_known a.mode a.t a.header a.right a.buffer.now a.payload.now c.requires long _ c.find-found.ensures _ c.in-Some.is in
    c.judge_data.ensures ∙ rw c.held-n.ensures (rw (← c.faults-codes.ensures, ← c.first_group.ensures, c.if-first_group.false) at known)
