-- `check` meets its contract.
use Rattle.std.proofs.Common.{Fits, w8, get_or, ◌≡◌, ℕ, ◌+◌, ◌-◌, ◌<◌, ◌≤◌, Bool, cond, List, length, drop, ap, sym, ◌∙◌, arith, length-take, length-drop}
use Rattle.std.specs.Prelude.{Option, Some}
use Rattle.packet.proofs.NumberLaws.{bytes_at}
use Rattle.command.specs.Settings.{factory}
use Rattle.command.specs.Player.{play, offence, end_settings, end_offence}
use Rattle.command.specs.declared.settings.Settings.{Settings}
use Rattle.command.proofs.RulesLaws.{kept_factory, in_rule_of}
use Rattle.command.proofs.PlayerOffences.{earliest_named, stands_there}
use Rattle.report.specs.Report.{Verdict, verdict}
use Rattle.report.specs.Claim.{Demand3}
use Rattle.report.proofs.Demand3.{demand3_of}
use Rattle.report.proofs.record.Laws.{handed_on}
use Rattle.report.proofs.verdict.Same.{ne_true, ne_false}
use Rattle.report.proofs.verdict.Laws.{head_no, trials_no, winner_no, ship_in, refused_18, refused_19, accepted_with}
use Rattle.report.proofs.verdict.check.Goals as goal

-- an answer that is the verdict
answered : (r : List ℕ) {v : Verdict} → ((i : ℕ) → Fits w8 (get_or r i 0)) → verdict r ≡ v → Demand3 r v
answered r f e = demand3_of r _ (bytes_at r (λ i. (f i).fits)) (sym e)

-- packets, played from factory values
played : (b : List ℕ) (s : Settings) (o : Option ℕ) {f : Settings} → f ≡ factory → (s ≡ end_settings f b) × (o ≡ end_offence f b)
    → (s ≡ (play factory b).settings) × (o ≡ offence factory b)
played b s o f e =
    let k = in_rule_of factory kept_factory in (
      e.0 ∙ ap (λ (s : Settings). end_settings s b) f ∙ ap (λ (x : Bool). cond x (play factory b).settings factory) k,
      e.1 ∙ ap (λ (s : Settings). end_offence s b) f ∙ ap (λ (x : Bool). cond x (offence factory b) (Some 0)) k,
    )

pub returns-in_err-count : goal.returns-in_err-count
returns-in_err-count c =
    let r = c.args.r.now in
    rw (handed_on _ _ c.from_residual.ensures.1)
    (answered r c.type_inv.r (head_no r c.in_err-count.ensures))

pub returns-in_err-best : goal.returns-in_err-best
returns-in_err-best c =
    let r = c.args.r.now in
    rw (handed_on _ _ c.from_residual-in_err-best.ensures.1)
    (answered r c.type_inv.r (trials_no r c.in_ok-count.ensures c.in_err-best.ensures))

pub returns-in_err-trial : goal.returns-in_err-trial
returns-in_err-trial c =
    let r = c.args.r.now in
    rw (handed_on _ _ c.from_residual-in_err-trial.ensures.1)
    (answered r c.type_inv.r (winner_no r c.in_ok-count.ensures c.in_ok-best.ensures c.in_err-trial.ensures))

-- where a byte of them offends, it is one of the report's
offends_within : (r : List ℕ) (at : ℕ) {n : ℕ} → at + 10 ≤ length r → length r ≤ 60000 → offence factory (ship_in r at) ≡ Some n → n < 60000
offends_within r at fits short e =
    let there = (stands_there factory (ship_in r at) _ ((earliest_named factory (ship_in r at) _).0 e).offends).1 in
    omega (arith, there, length-take (length r - (at + 6 + 4)) (drop (at + 6 + 4) r), length-drop (at + 6 + 4) r)

pub overflow_add-packets-in-Some : goal.overflow_add-packets-in-Some
overflow_add-packets-in-Some c =
    let r = c.args.r.now in
    let at = c.in_ok-best.place in
    let q = c.play-shipped.result in
    let h = c.in_ok-count.ensures in
    let w = c.in_ok-trial.ensures in
    let p = played (ship_in r at) q.settings q.offence c.factory.ensures c.play-shipped.ensures in
    let n = offends_within r at w.within h.short (sym p.1 ∙ c.in-Some.is) in
    record { fits = omega (arith, n, w.within, h.short) }

pub returns-in-Some : goal.returns-in-Some
returns-in-Some c =
    let r = c.args.r.now in
    let at = c.in_ok-best.place in
    let q = c.play-shipped.result in
    let p = played (ship_in r at) q.settings q.offence c.factory.ensures c.play-shipped.ensures in
    let ten : at + 6 + 4 ≡ at + 10 = omega arith in
    rw (c.at.ensures, ten)
    (answered r c.type_inv.r (refused_18 r c.in_ok-count.ensures c.in_ok-best.ensures c.in_ok-trial.ensures (sym p.1 ∙ c.in-Some.is)))

pub returns-then-ne : goal.returns-then-ne
returns-then-ne c =
    let r = c.args.r.now in
    let at = c.in_ok-best.place in
    let q = c.play-shipped.result in
    let p = played (ship_in r at) q.settings q.offence c.factory.ensures c.play-shipped.ensures in
    rw c.at-then-ne.ensures
    (answered r c.type_inv.r (refused_19 r c.in_ok-count.ensures c.in_ok-best.ensures c.in_ok-trial.ensures
    (sym p.1 ∙ c.in_default.is) (rw p.0 at (ne_true q.settings c.in_ok-best.best.settings c.ne.ensures c.if-ne.true))))

pub returns : goal.returns
returns c =
    let r = c.args.r.now in
    let at = c.in_ok-best.place in
    let q = c.play-shipped.result in
    let p = played (ship_in r at) q.settings q.offence c.factory.ensures c.play-shipped.ensures in
    answered r c.type_inv.r (accepted_with r c.in_ok-count.ensures c.in_ok-best.ensures c.in_ok-trial.ensures
    (sym p.1 ∙ c.in_default.is) (rw p.0 at (ne_false q.settings c.in_ok-best.best.settings c.ne.ensures c.if-ne.false)))
