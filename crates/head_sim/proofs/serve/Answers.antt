-- A call that completes a packet takes a byte: its checksum.
use Rattle.std.proofs.Common.{◌≡◌, length, ℕ, ◌≤◌, true, List, arith, nat_lt, sym, ◌∙◌, ap}
use Rattle.std.specs.Prelude.{Some, Result, Ok, Err}
use Rattle.std.specs.Result.{result_ok}
use Rattle.std.proofs.lemmas.Grind.{common_steps}
use Rattle.std.proofs.lemmas.Bool.{cond_both}
use Rattle.packet.specs.declared.answer.Progress.{Progress}
use Rattle.packet.specs.declared.answer.Progress.TheVariants.{Answered}
use Rattle.packet.specs.declared.answer.Refusal.{Refusal}
use Rattle.packet.specs.Answer.{Refuses, Waits, Answers, outcome_of}
use Rattle.packet.specs.Receiver.{Receiver, Received, receiving, waiting, completed, missing}
use Rattle.packet.proofs.Cases.{never}
use Rattle.command.specs.Controller.{receiver_in, in_rule}
use Rattle.command.specs.Endpoint.{After, receive_call, taken_by}
use Rattle.command.specs.declared.controller.Controller.{Controller}
use Rattle.head_sim.proofs.serve.Goals as goal

completes : (k : ℕ) (r : Receiver) (b : List ℕ) → (receiving k r b).complete ≡ true → 1 ≤ (receiving k r b).taken
unfolding receiving missing waiting completed
completes k r b = cond_both (nat_lt (length b) (missing r b)) _ _ (λ (x : Received). x.complete ≡ true → 1 ≤ x.taken) (λ _ h. never h) (λ _ _. omega arith)

-- a call that is answered so
takes : (c : Controller) (b out : List ℕ) {x : After} {n m : ℕ} → x ≡ receive_call c b out → x.answer ≡ Answers n m → 1 ≤ n
unfolding receive_call
takes c b out {x = x} {n = n} {m = m} e h = answers (sym (ap (λ (y : After). y.answer) e) ∙ h)
  where
    refuses : {P : Type 0} {k : ℕ} → Refuses k ≡ Answers n m → P
    refuses h = let z : ◌≡◌ {A = ℕ} 0 1 = cc in absurd (omega arith)

    waits : {P : Type 0} {k : ℕ} → Waits k ≡ Answers n m → P
    waits h = let z : ◌≡◌ {A = ℕ} 0 1 = cc in absurd (omega arith)

    answered : {k l : ℕ} → 1 ≤ k → Answers k l ≡ Answers n m → 1 ≤ n
    answered {k = k} h e = let z : k ≡ n = cc in omega arith

    answers : (receive_call c b out).answer ≡ Answers n m → 1 ≤ n
    answers =
        let P : After → Type 0 = λ y. y.answer ≡ Answers n m → 1 ≤ n in
        cond_both (nat_lt (length out) 64) _ _ P (λ _ h. refuses h)
        (λ _. cond_both (in_rule c) _ _ P (λ _. cond_both (taken_by c b).complete _ _ P (λ t h. answered (completes 0 (receiver_in c) b t) h) (λ _ h. waits h)) (λ _ h. refuses h))

told : (a : Result Progress Refusal) (p : Progress) {n m : ℕ} → Some p ≡ result_ok a → p ≡ Answered n m → outcome_of a ≡ Answers n m
told (Ok q) p h e = let z : q ≡ p = cc in rw (z, e)
told (Err r) p h e = cc

pub returns : goal.returns
returns g c =
    let k : 1 ≤ c.in-Answered.taken = takes c.args.head.now c.args.input.now _ c.receive-reply.ensures (told _ _ c.in_ok-taken.ensures.value c.in-Answered.is) in
    grind (arith, common_steps)
