-- `imjarlet_carry_out` meets its contract: that of `Controller::carry_out`, its answer as numbers.
use Rattle.std.proofs.Common.{refl, ap, ◌∙◌, rules}
use Rattle.command.specs.Asking.{Carrying, outcome_of}
use Rattle.command.specs.Encoder.{refusal_of, length_of}
use Rattle.command.specs.declared.carrying.CarryOutRefusal.TheVariants.{ShortOutput, Forged, OutOfRule, Stale}
use Rattle.imjarlet.proofs.answer.Laws.{numbered}
use Rattle.imjarlet.proofs.asking.Laws.{carry_says}
use Rattle.imjarlet.proofs.asking.imjarlet_carry_out.Goals as goal

pub returns : goal.returns
returns c =
    let e = c.carry_out.ensures in
    let u = c.args in
    let a = numbered outcome_of (λ n. refl)
    (elim [ ShortOutput ↦ λ n is. search rules | Forged ↦ λ n is. search rules | OutOfRule ↦ λ n is. search rules | Stale ↦ λ n is. search rules ])
    c.carry_out.result c.map_err.result c.map_err.ensures.cases ∙ ap (λ (x : Carrying). x.answer) e in
    let refused = c.told.ensures.0 ∙ ap refusal_of a in
    let count = c.told.ensures.1 ∙ ap length_of a in
    record {
      refused = refused;
      count = count;
      says = rw (refused, count) (carry_says u.c.now u.j.now u.out.now);
      leaves = ap (λ (x : Carrying). x.controller) e;
      written = ap (λ (x : Carrying). x.output) e;
    }
