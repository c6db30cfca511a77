-- How a call refuses that tests its output's length first and one thing more: the law behind `Answering`; and what the numbers of a receive call's answers tell apart, and say.
use Rattle.std.proofs.Common.{◌≡◌, ℕ, Bool, true, false, cond, eqb, ltb, ◌↔◌, List, length, sym, refl, ◌∙◌, inl, inr, arith, ltb-false, ltb-true}
use Rattle.std.proofs.lemmas.Bool.{cond_both}
use Rattle.packet.specs.Answer.{Outcome, Refuses, Waits, Answers, outcome_told, Told, Answering}
use Rattle.packet.specs.Receiver.{Receiver, Received, missing, waiting, completed, receiving}
use Rattle.packet.proofs.Cases.{never}

-- A call answers `short` where the output is too short, else `good` or, where its second test fails, `bad`.
module _ {A : Type 0} (Refused : A → ℕ → Type 0) (Untouched Answered : A → Type 0) (short bad good : A) (out : List ℕ) (shortest second : ℕ) {Holds : Type 0}
    (one : (n : ℕ) → Refused short n ↔ (n ≡ 1)) (two : (n : ℕ) → Refused bad n ↔ (n ≡ second)) (none : (n : ℕ) → Refused good n → ⊥)
    (apart : second ≡ 1 → ⊥) (same-short : Untouched short) (same-bad : Untouched bad) (fine : Answered good) where
  pub answering : (ok : Bool) → ((ok ≡ false) ↔ Holds)
      → let x = cond (ltb (length out) shortest) short (cond ok good bad) in Answering (Refused x) out shortest second Holds (Untouched x) (Answered x)
  answering ok holds = go (ltb (length out) shortest) refl ok refl
    where
      go : (b : Bool) → ltb (length out) shortest ≡ b → (v : Bool) → ok ≡ v
          → let x = cond b short (cond v good bad) in Answering (Refused x) out shortest second Holds (Untouched x) (Answered x)
      go true e v f =
          record {
            short = (λ _. ltb-true (length out) shortest e, λ _. (one 1).1 refl);
            other = (λ h. absurd (apart ((one second).0 h)), λ h. absurd (omega (arith, ltb-true (length out) shortest e, h.0)));
            only = λ n h. inl ((one n).0 h);
            untouched = λ _ _. same-short;
            answers = λ h _. absurd (omega (arith, ltb-true (length out) shortest e));
          }
      go false e true f =
          record {
            short = (λ h. absurd (none 1 h), λ h. absurd (omega (arith, ltb-false (length out) shortest e)));
            other = (λ h. absurd (none second h), λ h. never (sym (holds.1 h.1) ∙ f));
            only = λ n h. absurd (none n h);
            untouched = λ n h. absurd (none n h);
            answers = λ _ _. fine;
          }
      go false e false f =
          record {
            short = (λ h. absurd (apart (sym ((two 1).0 h))), λ h. absurd (omega (arith, ltb-false (length out) shortest e)));
            other = (λ h. (ltb-false (length out) shortest e, holds.0 f), λ _. (two second).1 refl);
            only = λ n h. inr ((two n).0 h);
            untouched = λ _ _. same-bad;
            answers = λ _ h. absurd (h (holds.0 f));
          }

-- The answers of a receive call: a refusal has its number, and the other answers are no refusals.

pub refusal_number : (k n : ℕ) → (Refuses k ≡ Refuses n) ↔ (n ≡ k)
refusal_number k n = (λ h. cc, λ h. rw h)

pub answers_not_refused : {k l n : ℕ} → Answers k l ≡ Refuses n → ⊥
answers_not_refused h = let z : ◌≡◌ {A = ℕ} 0 1 = cc in omega arith

pub waits_not_refused : {k n : ℕ} → Waits k ≡ Refuses n → ⊥
waits_not_refused h = let z : ◌≡◌ {A = ℕ} 0 1 = cc in omega arith

-- an answer that its numbers say: no refusal is 0, and a response is not empty
abbrev pub Sayable : Outcome → Type 0
Sayable (Refuses n) = eqb n 0 ≡ false
Sayable (Waits n) = Unit {0}
Sayable (Answers n m) = eqb m 0 ≡ false

pub numbers_say : (o : Outcome) → Sayable o → {refusal taken size : ℕ} → Told o refusal taken size → outcome_told refusal taken size ≡ o
numbers_say (Refuses n) h t = rw (t.refused, h)
numbers_say (Waits n) h t = rw (t.refused, t.count, t.response)
numbers_say (Answers n m) h t = rw (t.refused, t.count, t.response, h)

-- a receiver that completes no packet takes all bytes
pub all_taken : (k : ℕ) (r : Receiver) (b : List ℕ) → (receiving k r b).complete ≡ false → (receiving k r b).taken ≡ length b
unfolding receiving waiting completed
all_taken k r b = cond_both (ltb (length b) (missing r b)) _ _ (λ (x : Received). x.complete ≡ false → x.taken ≡ length b) (λ _ _. refl) (λ _ h. never (sym h))
