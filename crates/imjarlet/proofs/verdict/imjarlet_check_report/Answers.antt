-- `imjarlet_check_report` meets its contract: that of `report::check`, its answer as numbers.
use Rattle.std.proofs.Common.{ap, ap₂, sym, subst, ◌∙◌}
use Rattle.packet.proofs.NumberLaws.{bytes_at}
use Rattle.report.specs.Claim.{Demand3}
use Rattle.imjarlet.specs.Exports.{verdict_of, refusal_in, told_by}
use Rattle.imjarlet.proofs.verdict.Laws.{told_verdict}
use Rattle.imjarlet.proofs.verdict.imjarlet_check_report.Goals as goal

pub returns : goal.returns
returns c =
    let k = c.check.ensures in
    let r = c.args.report.now in
    let b = bytes_at r (λ i. (c.type_inv.report i).fits) in
    let e = c.told.ensures in
    record {
      refused = e.1 ∙ ap refusal_in k.ruled;
      filled = e.0 ∙ ap verdict_of k.ruled;
      claim = subst (Demand3 r) (sym (ap₂ told_by e.1 e.0 ∙ told_verdict r b _ k.ruled)) k;
    }
