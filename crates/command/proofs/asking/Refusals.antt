-- When the judge call and the call that carries out refuse (request 5), and what the judgements with error codes do.
use Prim.Native.Nat.{ℕ, zero, suc, ◌+◌, ◌<◌, ◌≤◌}
use mathlib.Core.Path.{◌≡◌, refl, ap, sym, ◌∙◌}
use mathlib.Core.Logic.{◌↔◌, ◌⊎◌, inl, inr, ⊎_elim}
use mathlib.Core.Bool.{Bool, true, false, not, ◌&&◌}
use mathlib.Core.List.Memᴰ
use mathlib.Core.List.{List, [], ◌∷◌, Memᴰ}
use Rattle.std.specs.Prelude.{Option, None, Some}
use Rattle.std.proofs.lemmas.Bool.{cond_both, and_from}
use native.Mathlib.Omega.{arith}
use lib.Dec.{eqb}
use lib.ListN.{length}
use borrow.Author.Tests.{lt-ltb, le-ltb, eq-eqb, eqb-true, not-false}
use Rattle.packet.proofs.Cases.{bool_cases, true_and_left, true_and_right, false_and_cases, lt_cases, never}
use Rattle.packet.specs.Stream.{size, has_packet}
use Rattle.packet.proofs.StreamLaws.{seven}
use Rattle.command.specs.Faults.{codes_of, list_if}
use Rattle.command.specs.Response.{codes_in}
use Rattle.command.specs.Player.{is_nil, judged}
use Rattle.command.specs.Controller.{state_of, in_rule}
use Rattle.command.specs.Encoder.{Refuses, Writes}
use Rattle.command.specs.Sending.{Ready}
use Rattle.command.specs.Ruling.{has_bit, codes_told, command_for, meant, drawable, forged, items_of, items_kept}
use Rattle.command.specs.Asking.{Judging, one_packet, refused_with, judged_as, judge_call, Carrying, refused, response_for, carries, carry_call}
use Rattle.command.specs.Demand1.{OutOfRule}
use Rattle.command.specs.Request5.{OnePacket, Made, judgement_of, Drawn, Uncoded, SendsCodes}
use Rattle.command.specs.declared.controller.Controller.{Controller}
use Rattle.command.specs.declared.judgement.Judgement.TheVariants.{Error}
use Rattle.command.specs.declared.ruling.JudgementRecord.{JudgementRecord}
use Rattle.command.proofs.Refusals.{controller_out}
use Rattle.command.proofs.Demand2.{alone, is_packet}
use Rattle.command.proofs.faults.Laws.{codes_ascending, listed_here, listed_later, listed_cases}
use Rattle.command.proofs.carrying.Laws.{no_codes}
use Rattle.command.proofs.asking.Ways.{let_pass, carry_ways}
use Rattle.command.proofs.asking.Carried.{one_packet_lem, never_forged}
use Rattle.command.proofs.asking.Drawn.{found_drawn}

passes : (c : Controller) → (OutOfRule c → ⊥) → in_rule c ≡ true
passes c h = bool_cases (in_rule c) (λ e. e) (λ e. absurd (h ((controller_out c).0 e)))

-- the bytes are exactly one packet
one_exactly : (b : List ℕ) → (one_packet b ≡ true) ↔ OnePacket b
unfolding one_packet
one_exactly b = (forth, λ o. one_packet_lem b (is_packet b o))
  where
    forth : (has_packet b && eqb (size b) (length b)) ≡ true → OnePacket b
    forth h =
        let e : size b ≡ length b = eqb-true (size b) (length b) (true_and_right (has_packet b) _ h) in
        (alone b (record { least = omega (arith, seven b); exact = e })).0

-- one number is not another
number : {k n : ℕ} → ◌≡◌ {A = Option ℕ} (Some k) (Some n) → k ≡ n
number h = cc

no_number : {n : ℕ} → ◌≡◌ {A = Option ℕ} None (Some n) → ⊥
no_number h = let z : ◌≡◌ {A = ℕ} 0 1 = cc in omega arith

-- The judge call: the ways it goes.
module _ (c : Controller) (b : List ℕ) (lent : JudgementRecord) where
  pub asked_ways : (P : Judging → Type 0)
      → (OutOfRule c → P (refused_with 3 lent))
      → ((OutOfRule c → ⊥) → (OnePacket b → ⊥) → P (refused_with 5 lent))
      → ((OutOfRule c → ⊥) → OnePacket b → P (judged_as c b (judged (state_of c) b) lent))
      → P (judge_call c b lent)
  unfolding judge_call
  asked_ways P out parts good =
      cond_both (in_rule c) _ _ P
      (λ r.
      cond_both (one_packet b) _ _ P
      (λ o. good (let_pass c r) ((one_exactly b).0 o))
      (λ o. parts (let_pass c r) (λ k. never (sym o ∙ (one_exactly b).1 k))))
      (λ r. out ((controller_out c).0 r))

  -- `Request5.rule`, `one` and `refuses`
  pub asked_rule : ((judge_call c b lent).refusal ≡ Some 3) ↔ OutOfRule c
  asked_rule = (
    asked_ways (λ x. x.refusal ≡ Some 3 → OutOfRule c) (λ o _. o) (λ _ _ h. absurd (omega (arith, number h))) (λ _ _ h. absurd (no_number h)),
    λ o. asked_ways (λ x. x.refusal ≡ Some 3) (λ _. refl) (λ h _. absurd (h o)) (λ h _. absurd (h o)),
  )

  pub asked_one : ((judge_call c b lent).refusal ≡ Some 5) ↔ ((OutOfRule c → ⊥) × (OnePacket b → ⊥))
  asked_one = (
    asked_ways (λ x. x.refusal ≡ Some 5 → (OutOfRule c → ⊥) × (OnePacket b → ⊥))
        (λ _ h. absurd (omega (arith, number h))) (λ o p _. (o, p)) (λ _ _ h. absurd (no_number h)),
    λ h. asked_ways (λ x. x.refusal ≡ Some 5) (λ o. absurd (h.0 o)) (λ _ _. refl) (λ _ o. absurd (h.1 o)),
  )

  pub asked_refuses : (n : ℕ) → (judge_call c b lent).refusal ≡ Some n → ((n ≡ 3) ⊎ (n ≡ 5)) × (judgement_of c b lent ≡ lent)
  asked_refuses n =
      asked_ways (λ x. x.refusal ≡ Some n → ((n ≡ 3) ⊎ (n ≡ 5)) × (x.judgement ≡ lent))
      (λ _ h. (inl (sym (number h)), refl)) (λ _ _ h. (inr (sym (number h)), refl)) (λ _ _ h. absurd (no_number h))

-- The codes of a record are the bits of its number: the numbers from i on, k of them, that pass a test.

passing : ℕ → ℕ → (ℕ → Bool) → List ℕ
passing zero i test = []
passing (suc k) i test = list_if (test i) i (passing k (suc i) test)

passing_exactly : (k i : ℕ) (test : ℕ → Bool) (n : ℕ) → Memᴰ n (passing k i test) ↔ ((i ≤ n) × (n < i + k) × (test n ≡ true))
unfolding passing
passing_exactly zero i test n = (λ h. absurd (Memᴰ.not-nil h), λ h. absurd (omega (arith, h.0, h.1)))
passing_exactly (suc k) i test n =
    let rest = passing_exactly k (suc i) test n in (
      listed_cases (test i) i n (passing k (suc i) test) (λ t e. (omega arith, omega arith, rw e t))
          (λ h. let r = rest.0 h in (omega (arith, r.0), omega (arith, r.1), r.2)),
      λ h. lt_cases i n
          (λ l. listed_later (test i) i n (passing k (suc i) test) (rest.1 (omega arith, omega (arith, h.1), h.2)))
          (λ l.
          let e : n ≡ i = omega (arith, h.0) in
          rw e (listed_here (test i) i (passing k (suc i) test) (rw e at h.2))),
    )

pub told_bits : (m n : ℕ) → Memᴰ n (codes_of (codes_told m)) ↔ ((1 ≤ n) × (n ≤ 11) × (has_bit m n ≡ true))
unfolding codes_of codes_told passing
told_bits m n =
    let e = passing_exactly 11 1 (λ i. has_bit m i) n in
    (λ h. let r = e.0 h in (r.0, omega (arith, r.1), r.2), λ h. e.1 (h.0, omega (arith, h.1), h.2))

-- The call that carries out.

-- the call refuses with this number
abbrev With : ℕ → Carrying → Type 0
With n x = x.answer ≡ Refuses n

outcome_number : {k n : ℕ} → Refuses k ≡ Refuses n → k ≡ n
outcome_number h = cc

other_number : {P : Type 0} (k n : ℕ) → eqb k n ≡ false → Refuses k ≡ Refuses n → P
other_number k n d h = never (sym d ∙ eq-eqb k n (outcome_number h))

no_refusal : {P : Type 0} {k n : ℕ} → Writes k ≡ Refuses n → P
no_refusal h = let z : ◌≡◌ {A = ℕ} 0 1 = cc in absurd (omega arith)

-- a list without codes
nil_test : (l : List ℕ) → (is_nil l ≡ true) ↔ (l ≡ [])
nil_test [] = (λ _. refl, λ _. refl)
nil_test (x ∷ l) = (λ h. never h, λ h. let z : ◌≡◌ {A = ℕ} 0 1 = cc in absurd (omega arith))

-- a judgement that some packet draws is not forged: it is what the judge call gives
drawn_genuine : (j : JudgementRecord) → Drawn j → forged j ≡ false
drawn_genuine j g =
    let one : OnePacket g.packet =
    asked_ways g.controller g.packet j (λ x. x.refusal ≡ None → OnePacket g.packet)
    (λ o. absurd (let_pass g.controller g.ready.rule o)) (λ _ _ h. absurd (no_number (sym h))) (λ _ o _. o)
    (ap (λ (x : Judging). x.refusal) g.draws) in
    ap forged (sym (ap (λ (x : Judging). x.judgement) g.draws)) ∙ never_forged g.controller g.packet j g.ready one

-- one that is forged has no code
forged_uncoded : (j : JudgementRecord) → forged j ≡ true → Uncoded j
unfolding forged
forged_uncoded j h = (nil_test (codes_in (meant j))).0 (true_and_left _ (not (drawable j)) h)

-- and no packet draws it
module _ (j : JudgementRecord) (m : Made j) where
  pub forged_exactly : (forged j ≡ true) ↔ (Uncoded j × (Drawn j → ⊥))
  forged_exactly = (
    λ h. (forged_uncoded j h, λ g. never (sym (drawn_genuine j g) ∙ h)),
    λ h. unfold forged in
        and_from _ _ ((nil_test (codes_in (meant j))).1 h.0)
        (ap not (bool_cases (drawable j) (λ e. absurd (h.1 (found_drawn j m e))) (λ e. e))),
  )

  pub not_forged : (forged j ≡ false) ↔ ((Uncoded j → ⊥) ⊎ Drawn j)
  not_forged = (
    λ h. unfold forged in
        false_and_cases (is_nil (codes_in (meant j))) (not (drawable j))
        (λ e. inl (λ u. never (sym e ∙ (nil_test (codes_in (meant j))).1 u))) (λ e. inr (found_drawn j m (not-false _ e))) h,
    ⊎_elim (λ n. bool_cases (forged j) (λ f. absurd (n (forged_uncoded j f))) (λ f. f)) (drawn_genuine j),
  )

module _ (c : Controller) (j : JudgementRecord) (out : List ℕ) where
  -- `Request5.short`, `outside`, `forged`, `stale` and `untouched`
  pub carry_short : ((carry_call c j out).answer ≡ Refuses 1) ↔ (length out < 64)
  carry_short = (
    carry_ways c j out (λ x. With 1 x → length out < 64) (λ l _. l) (λ _ _. other_number 3 1 refl) (λ _ _ _. other_number 2 1 refl)
        (λ _ _ _ _. other_number 4 1 refl) (λ _ _ _ _. no_refusal),
    λ l. unfold carry_call in rw (lt-ltb (length out) 64 l),
  )

  pub carry_outside : ((carry_call c j out).answer ≡ Refuses 3) ↔ ((64 ≤ length out) × OutOfRule c)
  carry_outside = (
    carry_ways c j out (λ x. With 3 x → (64 ≤ length out) × OutOfRule c) (λ _. other_number 1 3 refl) (λ l o _. (l, o)) (λ _ _ _. other_number 2 3 refl)
        (λ _ _ _ _. other_number 4 3 refl) (λ _ _ _ _. no_refusal),
    λ h. unfold carry_call in rw (le-ltb (length out) 64 h.0, (controller_out c).1 h.1),
  )

  pub carry_forged : Made j → ((carry_call c j out).answer ≡ Refuses 2) ↔ ((64 ≤ length out) × (OutOfRule c → ⊥) × Uncoded j × (Drawn j → ⊥))
  carry_forged m = (
    carry_ways c j out (λ x. With 2 x → (64 ≤ length out) × (OutOfRule c → ⊥) × Uncoded j × (Drawn j → ⊥)) (λ _. other_number 1 2 refl)
        (λ _ _. other_number 3 2 refl) (λ l o f _. let g = (forged_exactly j m).0 f in (l, o, g.0, g.1))
        (λ _ _ _ _. other_number 4 2 refl) (λ _ _ _ _. no_refusal),
    λ h. unfold carry_call in rw (le-ltb (length out) 64 h.0, passes c h.1, (forged_exactly j m).1 (h.2, h.3)),
  )

  pub carry_stale : Made j
      → ((carry_call c j out).answer ≡ Refuses 4) ↔ ((64 ≤ length out) × (OutOfRule c → ⊥) × ((Uncoded j → ⊥) ⊎ Drawn j) × (items_of c ≡ items_kept j → ⊥))
  carry_stale m = (
    carry_ways c j out (λ x. With 4 x → (64 ≤ length out) × (OutOfRule c → ⊥) × ((Uncoded j → ⊥) ⊎ Drawn j) × (items_of c ≡ items_kept j → ⊥))
        (λ _. other_number 1 4 refl) (λ _ _. other_number 3 4 refl) (λ _ _ _. other_number 2 4 refl)
        (λ l o f s _. (l, o, (not_forged j m).0 f, s)) (λ _ _ _ _. no_refusal),
    λ h. carry_ways c j out (With 4) (λ l. absurd (omega (arith, h.0))) (λ _ o. absurd (h.1 o)) (λ _ _ f. never (sym ((not_forged j m).1 h.2) ∙ f))
        (λ _ _ _ _. refl) (λ _ _ _ s. absurd (h.3 s)),
  )

  pub carry_untouched : (n : ℕ) → (carry_call c j out).answer ≡ Refuses n
      → (1 ≤ n) × (n ≤ 4) × (carry_call c j out ≡ record { answer = Refuses n; controller = c; output = out })
  carry_untouched n =
      carry_ways c j out (λ x. With n x → (1 ≤ n) × (n ≤ 4) × (x ≡ refused n c out)) (λ _. same 1 (omega arith) (omega arith))
      (λ _ _. same 3 (omega arith) (omega arith)) (λ _ _ _. same 2 (omega arith) (omega arith)) (λ _ _ _ _. same 4 (omega arith) (omega arith))
      (λ _ _ _ _. no_refusal)
    where
      same : (k : ℕ) → 1 ≤ k → k ≤ 4 → Refuses k ≡ Refuses n → (1 ≤ n) × (n ≤ 4) × (refused k c out ≡ refused n c out)
      same k m l h = (omega (arith, outcome_number h), omega (arith, outcome_number h), ap (λ (i : ℕ). refused i c out) (outcome_number h))

  pub carry_answers : Made j → 64 ≤ length out → (OutOfRule c → ⊥) → (Uncoded j → ⊥) ⊎ Drawn j → items_of c ≡ items_kept j → carry_call c j out ≡ carries c j out
  carry_answers m l o d s =
      carry_ways c j out (λ x. x ≡ carries c j out) (λ h. absurd (omega arith)) (λ _ r. absurd (o r))
      (λ _ _ f. never (sym ((not_forged j m).1 d) ∙ f)) (λ _ _ _ n. absurd (n s)) (λ _ _ _ _. refl)

-- what the judge call gives is never refused with 2
pub carry_genuine : (c d : Controller) (p : List ℕ) (lent : JudgementRecord) (out : List ℕ) → Ready c → OnePacket p
    → (carry_call d (judgement_of c p lent) out).answer ≡ Refuses 2
    → ⊥
carry_genuine c d p lent out r o =
    carry_ways d (judgement_of c p lent) out (λ x. With 2 x → ⊥) (λ _. other_number 1 2 refl) (λ _ _. other_number 3 2 refl)
    (λ _ _ f _. never (sym (never_forged c p lent r o) ∙ f)) (λ _ _ _ _. other_number 4 2 refl) (λ _ _ _ _. no_refusal)

-- A judgement with error codes is an error: what says how a packet is accepted has none.
pub meant_coded : (j : JudgementRecord) → (Uncoded j → ⊥) → meant j ≡ Error (codes_told j.ruling.codes)
unfolding meant
meant_coded j u =
    bool_cases (eqb j.ruling.codes 0) (λ e. absurd (u (rw e (no_codes (command_for j) j)))) (λ e. rw e)

pub carry_coded : (c : Controller) (j : JudgementRecord) (out : List ℕ) → Ready c → 64 ≤ length out → (Uncoded j → ⊥) → items_of c ≡ items_kept j
    → SendsCodes c j out (carry_call c j out)
carry_coded c j out r l u s =
    carry_ways c j out (SendsCodes c j out) (λ h. absurd (omega arith)) (λ _ o. absurd (let_pass c r.rule o))
    (λ _ _ f. absurd (u (forged_uncoded j f))) (λ _ _ _ n. absurd (n s)) (λ _ _ _ _. sends)
  where
    sends : SendsCodes c j out (carries c j out)
    sends =
        let e = meant_coded j u in
        record {
          ascending = rw e (codes_ascending (codes_told j.ruling.codes));
          answer = unfold response_for in rw e;
          output = unfold response_for in rw e;
          settings = rw e;
          closed = rw e;
        }
