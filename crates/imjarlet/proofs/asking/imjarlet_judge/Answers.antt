-- `imjarlet_judge` meets its contract: that of `Controller::judge`, its answer as a number.
use Rattle.std.proofs.Common.{refl, ap, ◌∙◌}
use Rattle.command.specs.Asking.{Judging}
use Rattle.imjarlet.specs.Exports.{number_of, refusal_said}
use Rattle.imjarlet.proofs.asking.Laws.{judge_says}
use Rattle.imjarlet.proofs.asking.imjarlet_judge.Goals as goal

pub returns : goal.returns
returns c =
    let e = c.judge.ensures in
    let u = c.args in
    let refused = c.refusal_told.ensures ∙ ap (λ (x : Judging). number_of x.refusal) e in (
      record {
        refused = refused;
        says = ap refusal_said refused ∙ judge_says u.c.now u.packet.now u.j.now;
        leaves = ap (λ (x : Judging). x.judgement) e;
      },
      refl,
    )
