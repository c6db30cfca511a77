-- What the numbers of the two calls say: no refusal has the number 0.
use Prim.Native.Nat.{ℕ}
use mathlib.Core.Path.{◌≡◌, refl}
use mathlib.Core.List.{List}
use lib.Dec.{ltb}
use lib.ListN.{length}
use Rattle.std.proofs.lemmas.Bool.{cond_both}
use Rattle.command.specs.Controller.{in_rule}
use Rattle.command.specs.Encoder.{refusal_of, length_of, outcome_told}
use Rattle.command.specs.Ruling.{forged, items_of, items_kept, same_items}
use Rattle.command.specs.Asking.{Judging, one_packet, judge_call, Carrying, carry_call}
use Rattle.imjarlet.specs.Exports.{number_of, refusal_said}
use Rattle.command.specs.declared.controller.Controller.{Controller}
use Rattle.command.specs.declared.ruling.JudgementRecord.{JudgementRecord}

pub judge_says : (c : Controller) (b : List ℕ) (lent : JudgementRecord) → refusal_said (number_of (judge_call c b lent).refusal) ≡ (judge_call c b lent).refusal
unfolding judge_call
judge_says c b lent = cond_both (in_rule c) _ _ Says (λ _. cond_both (one_packet b) _ _ Says (λ _. refl) (λ _. refl)) (λ _. refl)
  where
    Says : Judging → Type 0
    Says x = refusal_said (number_of x.refusal) ≡ x.refusal

pub carry_says : (c : Controller) (j : JudgementRecord) (out : List ℕ)
    → let r = carry_call c j out in outcome_told (refusal_of r.answer) (length_of r.answer) ≡ r.answer
unfolding carry_call
carry_says c j out =
    cond_both (ltb (length out) 64) _ _ Says (λ _. refl)
    (λ _. cond_both (in_rule c) _ _ Says
    (λ _. cond_both (forged j) _ _ Says (λ _. refl) (λ _. cond_both (same_items (items_of c) (items_kept j)) _ _ Says (λ _. refl) (λ _. refl)))
    (λ _. refl))
  where
    Says : Carrying → Type 0
    Says r = outcome_told (refusal_of r.answer) (length_of r.answer) ≡ r.answer
