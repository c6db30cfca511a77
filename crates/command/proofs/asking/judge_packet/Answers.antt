-- `judge_packet` meets its contract: that of `judge`, on a judgement of zeros.
use Rattle.std.proofs.Common.{◌≡◌, ℕ, List, ap, arith}
use Rattle.std.proofs.lemmas.Result.{err_from_is_err_and}
use Rattle.std.specs.Prelude.{Some}
use Rattle.command.specs.Controller.{zeros}
use Rattle.command.specs.Asking.{Judging, refused_with, judge_call}
use Rattle.command.specs.declared.controller.Controller.{Controller}
use Rattle.command.specs.declared.ruling.JudgementRecord.{JudgementRecord}
use Rattle.command.proofs.asking.Refusals.{asked_ways}
use Rattle.command.proofs.asking.judge_packet.Goals as goal

-- a call that refuses leaves the record
refuses : (c : Controller) (b : List ℕ) (lent : JudgementRecord) {n : ℕ} {j : JudgementRecord}
    → ◌≡◌ {A = Judging} record { refusal = Some n; judgement = j } (judge_call c b lent) → refused_with n lent ≡ judge_call c b lent
refuses c b lent {n} {j} =
    asked_ways c b lent (λ x. ◌≡◌ {A = Judging} record { refusal = Some n; judgement = j } x → refused_with n lent ≡ x)
    (λ _ h. let e : n ≡ 3 = number (ap (λ (x : Judging). x.refusal) h) in rw e)
    (λ _ _ h. let e : n ≡ 5 = number (ap (λ (x : Judging). x.refusal) h) in rw e)
    (λ _ _ h. let e = ap (λ (x : Judging). x.refusal) h in let z : ◌≡◌ {A = ℕ} 0 1 = cc in absurd (omega arith))
  where
    number : {m k : ℕ} → Some m ≡ Some k → m ≡ k
    number h = cc

pub returns-in_err-judge : goal.returns-in_err-judge
unfolding zeros
returns-in_err-judge c =
    let p = err_from_is_err_and c.from_residual.result c.from_residual.ensures.1 in
    rw (p.1, p.2) (refuses c.args.c c.args.input.now _ (rw c.in_err-judge.was at c.judge.ensures))

pub returns : goal.returns
unfolding zeros
returns c = rw c.in_ok-judge.was at c.judge.ensures
